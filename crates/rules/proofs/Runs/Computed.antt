-- The cases of repeated runs, by computing. Assumes nothing.
use mathlib.Core.Path.{refl}
use Rattle.rules.specs.Lists.{same_bool, all_below, all_pairs, every, later, numbers_from, numbers_where, position, same_list, sum, update_at}
use Rattle.rules.specs.Store.{arguments_of, attribute_total, attributes_hold, block_after, block_at, block_exists, block_holds, blocks_of, empty_store, is_parent, keys_rise, keys_rise_after, levels_left, nesting_holds, no_block, no_op, no_value, op_after, op_around, op_at, op_exists, op_holds, operand_total, ops_of, owner_exists, parent_exists, parent_of, region_exists, regions_of, results_of, same_owner, sound, successor_total, totals_hold, type_of, value_at, value_exists, values_of}
use Rattle.rules.specs.Fragments.{block_owner, exists, full_op, list_steps, region_steps, shells, steps}
use Rattle.rules.specs.Building.{acceptance, after, answer, answer_by, applied, attributes_of, block_room, block_with_attribute, built, first_failed, has_key, op_with_attribute, op_with_operand, operation_fits, operation_names, operation_room, put_attribute, store_by, tests, values_for}
use Rattle.rules.specs.Shells.{counts_of, ignored, same_attribute, same_location, same_shells, shell_of, unignored, unignored_location}
use Rattle.rules.specs.Mapping.{allowed, empty_mapping, enter_all, entries_allowed, image, or_self, table_allowed}
use Rattle.rules.specs.Comparison.{check_names, check_ops, compare, compare_by, compare_lists, compare_regions, each_pair, enter_blocks, enter_ops, expect, operands_agree, pair_blocks, pair_of, pair_ops, pairwise, pass1, pass2, pass3, start, successors_agree}
use Rattle.rules.specs.Types.{each_once, old_types, present, present_types, renamed, renamed_value, stands_in, types_hold, whole_rows}
use Rattle.rules.specs.Answers.{hashed, hashed_by, hash_tests, compare_tests, comparison, comparison_by, comparison_of}
use Rattle.rules.specs.Cases.{block_in, enclosing, first_operand, ignoring, one_entry, operation}
use Rattle.rules.specs.Hash.{all_bytes, bytes, count, feeds, head_bytes, leaf, list_bytes, location_bytes, name_at, name_bytes, name_of, no_numbers, numbered, shell_bytes, tag}
use Rattle.rules.specs.Keys.{compare_bytes, key, key_tests, keyed, keyed_by, written}
use Rattle.rules.specs.Laws.{succeeds}
use Rattle.rules.specs.Runs.{compare_runs, run_of, same_runs, first_of, left_start, or_later, first_run, repeated, weighted, run_tests, repeated_of, repeated_by, repeated_run}
use Rattle.rules.specs.RunCases.{within, RunCases}

pub run_cases_hold : RunCases
unfolding hashed hashed_by hash_tests acceptance after all_below all_bytes all_pairs allowed answer answer_by applied arguments_of attribute_total attributes_hold attributes_of block_after block_at block_exists block_holds block_in block_owner block_room block_with_attribute blocks_of built bytes check_names check_ops compare compare_by compare_bytes compare_lists compare_regions compare_tests comparison comparison_by comparison_of count counts_of each_once each_pair empty_mapping empty_store enclosing enter_all enter_blocks enter_ops entries_allowed every exists expect feeds first_failed first_operand full_op has_key head_bytes ignored ignoring image is_parent key key_tests keyed keyed_by keys_rise keys_rise_after later leaf levels_left list_bytes list_steps location_bytes name_at name_bytes name_of nesting_holds no_block no_numbers no_op no_value numbered numbers_from numbers_where old_types one_entry op_after op_around op_at op_exists op_holds op_with_attribute op_with_operand operand_total operands_agree operation operation_fits operation_names operation_room ops_of or_self owner_exists pair_blocks pair_of pair_ops pairwise parent_exists parent_of pass1 pass2 pass3 position present present_types put_attribute region_exists region_steps regions_of renamed renamed_value results_of same_attribute same_bool same_list same_location same_owner same_shells shell_bytes shell_of shells sound stands_in start steps store_by successor_total successors_agree sum table_allowed tag tests totals_hold type_of types_hold unignored unignored_location update_at value_at value_exists values_for values_of whole_rows written compare_runs run_of same_runs first_of left_start or_later first_run repeated weighted run_tests repeated_of repeated_by repeated_run succeeds within
run_cases_hold =
    record {
      own_results = refl;
      overlap = refl;
      apart = refl;
      right_first = refl;
      other_names = refl;
      name_later = refl;
      name_earlier = refl;
      own_names = refl;
      longer = refl;
      window = refl;
      list_first = refl;
      block_next = refl;
      length_last = refl;
      too_long = refl;
      longest = refl;
    }
