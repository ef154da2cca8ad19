-- The cases of mappings, by computing. Assumes nothing.
use mathlib.Core.Path.{refl}
use Rattle.rules.specs.Lists.{every, sum, numbers_from, numbers_where, update_at, all_pairs, same_list}
use Rattle.rules.specs.Store.{empty_store, op_at, block_at, value_at, type_of, same_owner, is_parent, ops_of, blocks_of, regions_of, values_of, op_exists, block_exists, region_exists, value_exists, parent_exists, parent_of, op_around, levels_left, nesting_holds, operand_total, successor_total}
use Rattle.rules.specs.Building.{tests, operation_names, operation_fits, operation_room, block_room, first_failed, op_with_operand, values_for, applied, store_by, built, after}
use Rattle.rules.specs.Shells.{unignored, unignored_location, shell_of, counts_of, same_location, same_shells}
use Rattle.rules.specs.Mapping.{empty_mapping, or_self, image, enter_all}
use Rattle.rules.specs.Comparison.{standing, pairwise, each_pair, expect, enter_ops, pair_ops, enter_blocks, pair_blocks, operands_agree, successors_agree, check_names, check_ops, pass1, pass2, pass3, compare_lists, compare_regions, compare_by, start, compare}
use Rattle.rules.specs.Laws.{succeeds, equal}
use Rattle.rules.specs.MappingLaws.{filed}
use Rattle.rules.specs.Cases.{ignoring, operation, block_in, first_operand, nested, example}
use Rattle.rules.specs.MappingCases.{MappingCases, holder, in_second}

pub mapping_cases_hold : MappingCases
unfolding every sum numbers_from numbers_where update_at all_pairs same_list empty_store op_at block_at value_at type_of same_owner is_parent ops_of blocks_of regions_of values_of op_exists block_exists region_exists value_exists parent_exists parent_of op_around levels_left nesting_holds operand_total successor_total tests operation_names operation_fits operation_room block_room first_failed op_with_operand values_for applied store_by built after unignored unignored_location shell_of counts_of same_location same_shells empty_mapping or_self image enter_all standing pairwise each_pair expect enter_ops pair_ops enter_blocks pair_blocks operands_agree successors_agree check_names check_ops pass1 pass2 pass3 compare_lists compare_regions compare_by start compare succeeds equal filed ignoring operation block_in first_operand nested example holder in_second
mapping_cases_hold =
    record {
      forth = refl;
      back = refl;
      whole = refl;
      image_forth = refl;
      image_back = refl;
      image_whole = refl;
      equal_forth = refl;
      unequal_back = refl;
      blocks_forth = refl;
      blocks_back = refl;
      neither_forth = refl;
      neither_back = refl;
      kept_forth = refl;
      kept_back = refl;
      own_values = refl;
      own_blocks = refl;
      own_ops = refl;
    }
