-- Every case of a listing is converted as it should be, or refused, by computation. Assumes nothing.
use mathlib.Core.Path.{refl}
use Rattle.rules.specs.Lists.{every, same_list}
use Rattle.rules.specs.Building.{first_failed}
use Rattle.rules.specs.Bytes.{is_text, new_piece, longer_by, cut_at, is_digit, well_written, value_from, number_below, digit, last_digits, digit_count, decimal}
use Rattle.rules.specs.Lines.{fields_of, field, one_of, number, ignore_bits, numbers, items, parent_meaning, parent_block, owner, sort, yes_or_no, operation_line, label, block_line, attribute_line, operand_line, query_line, more_letters, letter, all_read, wholly, parse}
use Rattle.rules.specs.Listings.{printed, refusal, edition_of, header_tests, header_cause, listing_cause, behind_first, or_first, edition_in, edition}
use Rattle.rules.specs.ListingCases.{lines, example_listing, example_2}
use Rattle.rules.specs.Converting.{other, header, begins, relabelled, converted_line, lines_behind, converted, first_some, first_refused, line_tests, unended, whole_refused, converted_tests, convert_refusal, unless_refused, convert}
use Rattle.rules.specs.ConvertCases.{Converted, AllConverted, long_block, from_1, from_2, refused_at, convert_cases}

pub all_converted : AllConverted convert_cases
unfolding every same_list first_failed is_text new_piece longer_by cut_at is_digit well_written value_from number_below digit last_digits digit_count decimal fields_of field one_of number ignore_bits numbers items parent_meaning parent_block owner sort yes_or_no operation_line label block_line attribute_line operand_line query_line more_letters letter all_read wholly parse printed refusal edition_of header_tests header_cause listing_cause behind_first or_first edition_in edition lines example_listing example_2 other header begins relabelled converted_line lines_behind converted first_some first_refused line_tests unended whole_refused converted_tests convert_refusal unless_refused convert Converted AllConverted long_block from_1 from_2 refused_at convert_cases
all_converted = (refl, (refl, (refl, (refl, (refl, (refl, (refl, (refl, (refl, (refl, (refl, (refl, (refl, (refl, (refl, (refl, (refl, (refl, (refl, (refl, (refl, (refl, (refl, (refl, (refl, (refl, (refl, (refl, tt))))))))))))))))))))))))))))
