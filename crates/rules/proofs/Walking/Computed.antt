-- What building answers at the deepest nesting, and what walks through all of it do, by computing. Assumes nothing.
use mathlib.Core.Path.{refl}
use Rattle.rules.specs.Lists.{every, all_below, sum, numbers_from, numbers_where, all_pairs, same_list}
use Rattle.rules.specs.Store.{empty_store, op_at, block_at, is_parent, ops_of, blocks_of, regions_of, values_of, results_of, arguments_of, op_exists, block_exists, region_exists, parent_exists, parent_of, op_around, levels_left, nesting_holds, op_after, block_after, operand_total, successor_total, attribute_total, totals_hold, keys_rise, attributes_hold, op_holds, block_holds, sound}
use Rattle.rules.specs.Fragments.{exists, full_op, shells, list_steps, region_steps, steps}
use Rattle.rules.specs.Building.{tests, operation_names, operation_fits, operation_room, block_room, first_failed, values_for, applied, acceptance, answer_by, store_by, answer, built, after}
use Rattle.rules.specs.Shells.{unignored, unignored_location, shell_of, counts_of, same_location, same_shells}
use Rattle.rules.specs.Mapping.{empty_mapping, entries_allowed, table_allowed, allowed}
use Rattle.rules.specs.Comparison.{pairwise, each_pair, expect, enter_ops, pair_ops, enter_blocks, pair_blocks, operands_agree, successors_agree, check_names, check_ops, pass1, pass2, pass3, compare_lists, compare_regions, compare_by, start, compare}
use Rattle.rules.specs.Types.{whole_rows, old_types, present_types, each_once, types_hold, renamed}
use Rattle.rules.specs.Answers.{compare_tests, comparison_of, comparison_by, comparison, hash_tests, hashed_by, hashed}
use Rattle.rules.specs.Hash.{fnv_byte, fnv_from, fnv, bytes, leaf, count, location_bytes, list_bytes, shell_bytes, head_bytes, feeds, all_bytes, hash}
use Rattle.rules.specs.Cases.{ignoring, block_in}
use Rattle.rules.specs.NestingCases.{NestingCases, link, chain}

pub nesting_cases_hold : NestingCases
unfolding every all_below sum numbers_from numbers_where all_pairs same_list empty_store op_at block_at is_parent ops_of blocks_of regions_of values_of results_of arguments_of op_exists block_exists region_exists parent_exists parent_of op_around levels_left nesting_holds op_after block_after operand_total successor_total attribute_total totals_hold keys_rise attributes_hold op_holds block_holds sound exists full_op shells list_steps region_steps steps tests operation_names operation_fits operation_room block_room first_failed values_for applied acceptance answer_by store_by answer built after unignored unignored_location shell_of counts_of same_location same_shells empty_mapping entries_allowed table_allowed allowed pairwise each_pair expect enter_ops pair_ops enter_blocks pair_blocks operands_agree successors_agree check_names check_ops pass1 pass2 pass3 compare_lists compare_regions compare_by start compare whole_rows old_types present_types each_once types_hold renamed compare_tests comparison_of comparison_by comparison hash_tests hashed_by hashed fnv_byte fnv_from fnv bytes leaf count location_bytes list_bytes shell_bytes head_bytes feeds all_bytes hash ignoring block_in link chain
nesting_cases_hold = record { accepted = refl; too_deep = refl; is_sound = refl; compared = refl; regions = refl; hash = refl }
