-- Every case of a listing prints what it should, by computation. Assumes nothing.
use mathlib.Core.Path.{refl}
use Rattle.rules.specs.Lists.{same_bool, every, all_below, sum, numbers_from, numbers_where, update_at, all_pairs, same_list, later, position, count_below}
use Rattle.rules.specs.Store.{empty_store, no_op, no_block, no_value, op_at, block_at, value_at, type_of, same_owner, is_parent, ops_of, blocks_of, regions_of, values_of, results_of, arguments_of, op_exists, block_exists, region_exists, value_exists, owner_exists, parent_exists, parent_of, op_around, levels_left, nesting_holds, op_after, block_after, operand_total, successor_total, attribute_total, totals_hold, keys_rise_after, keys_rise, attributes_hold, op_holds, block_holds, sound}
use Rattle.rules.specs.Fragments.{exists, op_owner, step_defines, defines_owners, fragment_ops, full_op, shells, list_steps, region_steps, steps, block_owner}
use Rattle.rules.specs.Building.{attributes_of, has_key, tests, operation_names, operation_fits, operation_room, block_room, first_failed, put_attribute, op_with_attribute, block_with_attribute, op_with_operand, values_for, applied, acceptance, answer_by, store_by, answer, built, after}
use Rattle.rules.specs.Shells.{ignored, unignored, unignored_location, shell_of, counts_of, same_attribute, same_location, same_shells}
use Rattle.rules.specs.Mapping.{empty_mapping, or_self, image, enter_all, entries_allowed, table_allowed, allowed}
use Rattle.rules.specs.Comparison.{pairwise, each_pair, pair_of, expect, enter_ops, pair_ops, enter_blocks, pair_blocks, operands_agree, successors_agree, check_names, check_ops, pass1, pass2, pass3, compare_lists, compare_regions, compare_by, start, compare}
use Rattle.rules.specs.Types.{whole_rows, old_types, present_types, stands_in, each_once, types_hold, present, renamed_value, renamed}
use Rattle.rules.specs.Answers.{compare_tests, comparison_of, comparison_by, comparison, hash_tests, hashed_by, hashed}
use Rattle.rules.specs.Hash.{fnv_byte, fnv_from, fnv, bytes, leaf, count, tag, location_bytes, attribute_bytes, flag, list_bytes, shell_bytes, head_bytes, no_numbers, numbered, name_at, name_of, name_bytes, feeds, all_bytes, hash}
use Rattle.rules.specs.Bytes.{is_text, new_piece, longer_by, cut_at, is_digit, well_written, value_from, number_below, digit, last_digits, digit_count, decimal, hexadecimal}
use Rattle.rules.specs.Lines.{fields_of, field, one_of, number, ignore_bits, numbers, items, parent_meaning, parent_block, owner, sort, yes_or_no, operation_line, label, block_line, attribute_line, operand_line, query_line, more_letters, letter, all_read, wholly, parse}
use Rattle.rules.specs.Listings.{printed, refusal, equal_line, sort_text, unequal_line, hashes_line, no_tally, tallied, share, rounded_up, nearest, per_cent, share_line, at_start, building_does, line_does, does, proceed, at_end, run, edition_of, header_tests, header_cause, listing_cause, behind_first, or_first, edition_in, edition, unless, listed, twins_answer, twins_program, twins, sums_answer, sums_program, sums}
use Rattle.rules.specs.ListingCases.{lines, Prints, AllPrint, example_listing, example_2, with_one, in_block, with_five, with_seven, listing_cases, ShareCases}

pub all_print : AllPrint listing_cases
unfolding every all_below sum numbers_from numbers_where update_at all_pairs same_list empty_store no_op no_block no_value op_at block_at value_at type_of same_owner is_parent ops_of blocks_of regions_of values_of results_of arguments_of op_exists block_exists region_exists value_exists owner_exists parent_exists parent_of op_around levels_left nesting_holds op_after block_after operand_total successor_total attribute_total totals_hold keys_rise_after keys_rise attributes_hold op_holds block_holds sound exists op_owner step_defines defines_owners fragment_ops count_below attributes_of has_key tests operation_names operation_fits operation_room block_room first_failed put_attribute op_with_attribute block_with_attribute op_with_operand values_for applied acceptance answer_by store_by answer built after ignored unignored unignored_location shell_of counts_of same_attribute same_bool same_location same_shells empty_mapping or_self image enter_all entries_allowed table_allowed allowed pairwise each_pair pair_of expect enter_ops pair_ops enter_blocks pair_blocks operands_agree successors_agree check_names check_ops pass1 pass2 pass3 compare_lists compare_regions compare_by start compare compare_tests comparison_of comparison_by comparison full_op shells list_steps region_steps steps block_owner hash_tests hashed_by hashed later position fnv_byte fnv_from fnv bytes leaf count tag location_bytes attribute_bytes flag list_bytes shell_bytes head_bytes no_numbers numbered name_at name_of name_bytes feeds all_bytes hash is_text new_piece longer_by cut_at is_digit well_written value_from number_below digit last_digits digit_count decimal hexadecimal fields_of field one_of number ignore_bits numbers items parent_meaning parent_block owner sort yes_or_no operation_line label block_line attribute_line operand_line query_line more_letters letter all_read wholly parse printed refusal equal_line sort_text unequal_line hashes_line no_tally tallied share rounded_up nearest per_cent share_line at_start building_does line_does does proceed at_end run edition_of header_tests header_cause listing_cause behind_first or_first edition_in edition unless listed twins_answer twins_program twins sums_answer sums_program sums lines Prints AllPrint example_listing example_2 with_one in_block with_five with_seven listing_cases whole_rows old_types present_types stands_in each_once types_hold present renamed_value renamed
all_print = (refl, (refl, (refl, (refl, (refl, (refl, (refl, (refl, (refl, (refl, (refl, (refl, (refl, (refl, (refl, (refl, (refl, (refl, (refl, (refl, (refl, (refl, (refl, (refl, (refl, (refl, (refl, (refl, (refl, (refl, (refl, (refl, (refl, (refl, (refl, (refl, (refl, (refl, (refl, (refl, (refl, (refl, (refl, (refl, (refl, (refl, (refl, tt)))))))))))))))))))))))))))))))))))))))))))))))

pub shares_hold : ShareCases
unfolding ShareCases every per_cent nearest rounded_up
shares_hold = refl
