-- The cases of runs, by computing. Assumes nothing.
use mathlib.Core.Path.{refl}
use Rattle.rules.specs.Lists.{every, sum, all_below, numbers_from, numbers_where, update_at, all_pairs, same_list, position, later, same_bool}
use Rattle.rules.specs.Store.{empty_store, op_at, block_at, value_at, type_of, same_owner, is_parent, ops_of, blocks_of, regions_of, values_of, results_of, arguments_of, op_exists, block_exists, region_exists, value_exists, owner_exists, parent_exists, parent_of, op_around, levels_left, nesting_holds, op_after, block_after, operand_total, successor_total, attribute_total, totals_hold, keys_rise, keys_rise_after, attributes_hold, op_holds, block_holds, sound, no_op, no_block, no_value}
use Rattle.rules.specs.Fragments.{full_op, shells, list_steps, region_steps, steps, step_defines, op_owner, block_owner, step_operands, step_successors, fragment_ops, names_values, names_blocks, defines_owners, defines_values, defines_blocks}
use Rattle.rules.specs.Building.{tests, operation_names, operation_fits, operation_room, block_room, first_failed, op_with_operand, values_for, applied, store_by, built, after}
use Rattle.rules.specs.Shells.{ignored, unignored, unignored_location, shell_of, counts_of, same_attribute, same_location, same_shells}
use Rattle.rules.specs.Mapping.{empty_mapping, or_self, image, enter_all}
use Rattle.rules.specs.Hash.{no_numbers, numbered}
use Rattle.rules.specs.Comparison.{standing, pairwise, each_pair, pair_of, expect, enter_ops, pair_ops, enter_blocks, pair_blocks, operands_agree, successors_agree, check_names, check_ops, pass1, pass2, pass3, compare_lists, compare_regions, compare_by, start, compare}
use Rattle.rules.specs.Laws.{succeeds, equal}
use Rattle.rules.specs.Cases.{ignoring, operation, enclosing, block_in, first_operand}
use Rattle.rules.specs.Independence.{disjoint, names_nothing_of, independent}
use Rattle.rules.specs.Runs.{run_of, compare_runs, same_runs}
use Rattle.rules.specs.Copying.{has_place, numbered_names}
use Rattle.semantics.specs.Meaning.{operand_types_of, own_fields}
use Rattle.semantics.specs.Machine.{put, write, entry_at, leaves, jumps, jumps_to, begins, goes_on, enters, enters_region, does, run, first, run_code, run_fragment, run_ops}
use Rattle.rules.specs.MappingLaws.{filed}
use Rattle.semantics.specs.Replaced.{replaced, all_replaced}
use Rattle.semantics.specs.SameWork.{step_numbered, all_numbered, none_early}
use Rattle.semantics.specs.WorkCases.{held, acts, told, counting, in_block, looping, form, runs, runs_in, crossed, late, crossed_runs, crossed_run, replaced_run, early, WorkCases}

pub work_cases_hold : WorkCases
unfolding every sum all_below numbers_from numbers_where update_at all_pairs same_list position later same_bool empty_store op_at block_at value_at type_of same_owner is_parent ops_of blocks_of regions_of values_of results_of arguments_of op_exists block_exists region_exists value_exists owner_exists parent_exists parent_of op_around levels_left nesting_holds op_after block_after operand_total successor_total attribute_total totals_hold keys_rise keys_rise_after attributes_hold op_holds block_holds sound no_op no_block no_value full_op shells list_steps region_steps steps step_defines op_owner block_owner defines_owners defines_values defines_blocks tests operation_names operation_fits operation_room block_room first_failed op_with_operand values_for applied store_by built after ignored unignored unignored_location shell_of counts_of same_attribute same_location same_shells empty_mapping or_self image enter_all no_numbers numbered standing pairwise each_pair pair_of expect enter_ops pair_ops enter_blocks pair_blocks operands_agree successors_agree check_names check_ops pass1 pass2 pass3 compare_lists compare_regions compare_by start compare succeeds equal ignoring enclosing block_in has_place numbered_names operand_types_of own_fields put write entry_at leaves jumps jumps_to begins goes_on enters enters_region does run first run_code run_fragment run_ops run_of compare_runs same_runs crossed_runs crossed_run replaced all_replaced replaced_run filed fragment_ops step_numbered all_numbered none_early held acts told counting in_block looping form runs operation first_operand disjoint names_nothing_of independent step_operands step_successors names_values names_blocks runs_in crossed late early
work_cases_hold =
    record {
      is_sound = refl;
      twice_how = refl;
      twice_steps = refl;
      twice_world = refl;
      twice_argument = refl;
      twice_result = refl;
      twin_how = refl;
      twin_steps = refl;
      twin_result = refl;
      twin_other = refl;
      region_left = refl;
      block_left = refl;
      replaced_steps = refl;
      replaced_result = refl;
      jumps_out = refl;
      empty_how = refl;
      empty_steps = refl;
      empty_itself = refl;
      is_stuck = refl;
      just_enough = refl;
      is_spent = refl;
      spent_steps = refl;
      twins_equal = refl;
      twins_timely = refl;
      others_unequal = refl;
      other_how = refl;
      crossed_equal = refl;
      crossed_dependent = refl;
      crossed_left = refl;
      crossed_right = refl;
      late_equal = refl;
      late_independent = refl;
      late_left = refl;
      late_right = refl;
      crossed_runs_equal = refl;
      crossed_runs_left = refl;
      crossed_runs_right = refl;
      early_unequal = refl;
      early_independent = refl;
      early_found = refl;
    }
