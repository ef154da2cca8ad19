-- Every key of the cases is what it should be, and so is every comparison of bytes, by computation. Assumes nothing.
use mathlib.Core.Path.{refl}
use Rattle.rules.specs.Lists.{every, all_below, sum, numbers_from, numbers_where, update_at, all_pairs, same_list, position, later}
use Rattle.rules.specs.Store.{empty_store, op_at, value_at, type_of, same_owner, regions_of, values_of, results_of, op_exists, value_exists, owner_exists, parent_exists, levels_left, nesting_holds, op_after, operand_total, successor_total, attribute_total, totals_hold, keys_rise, attributes_hold, op_holds, sound, no_op, no_block, no_value, block_at, is_parent, ops_of, blocks_of, block_exists, region_exists, parent_of, op_around}
use Rattle.rules.specs.Fragments.{full_op, steps, exists, shells, list_steps, region_steps, block_owner}
use Rattle.rules.specs.Building.{tests, operation_names, operation_fits, operation_room, block_room, first_failed, op_with_operand, values_for, applied, store_by, built, after}
use Rattle.rules.specs.Shells.{unignored, unignored_location, shell_of, counts_of, same_location, same_shells, ignored}
use Rattle.rules.specs.Cases.{ignoring, operation, first_operand, enclosing, block_in}
use Rattle.rules.specs.Hash.{fnv_byte, fnv_from, fnv, bytes, leaf, count, tag, location_bytes, list_bytes, shell_bytes, head_bytes, no_numbers, numbered, name_at, name_of, name_bytes, feeds, all_bytes, hash}
use Rattle.rules.specs.Types.{whole_rows, old_types, present_types, stands_in, each_once, types_hold, present, renamed_value, renamed}
use Rattle.rules.specs.Keys.{key, compare_bytes, key_tests, written, keyed_by, keyed}
use Rattle.rules.specs.KeyCases.{one_hash, KeyCases}

pub key_cases_hold : KeyCases
unfolding every all_below sum numbers_from numbers_where update_at all_pairs same_list position later empty_store op_at value_at type_of same_owner regions_of values_of results_of op_exists value_exists owner_exists parent_exists levels_left nesting_holds op_after operand_total successor_total attribute_total totals_hold keys_rise attributes_hold op_holds sound no_op no_block no_value block_at is_parent ops_of blocks_of block_exists region_exists parent_of op_around full_op steps exists shells list_steps region_steps block_owner tests operation_names operation_fits operation_room block_room first_failed op_with_operand values_for applied store_by built after unignored unignored_location shell_of counts_of same_location same_shells ignored ignoring operation first_operand enclosing block_in fnv_byte fnv_from fnv bytes leaf count tag location_bytes list_bytes shell_bytes head_bytes no_numbers numbered name_at name_of name_bytes feeds all_bytes hash key compare_bytes key_tests written keyed_by keyed one_hash whole_rows old_types present_types stands_in each_once types_hold present renamed_value renamed
key_cases_hold =
    record {
      an_operation = refl;
      an_empty_region = refl;
      a_block = refl;
      its_region = refl;
      one_hash_of = refl;
      two_keys = refl;
      too_short = refl;
      behind_it = refl;
      beginning = refl;
      longer = refl;
      first_byte = refl;
      none = refl;
    }
