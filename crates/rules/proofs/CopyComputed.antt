-- The cases of copies, by computing. Assumes nothing.
use mathlib.Core.Path.{refl}
use Rattle.rules.specs.Lists.{every, sum, numbers_from, numbers_where, update_at, all_pairs, same_list, same_bool, later, position}
use Rattle.rules.specs.Store.{empty_store, op_at, block_at, value_at, type_of, same_owner, is_parent, ops_of, blocks_of, regions_of, values_of, op_exists, block_exists, region_exists, value_exists, owner_exists, parent_exists, parent_of, op_around, levels_left, nesting_holds, operand_total, successor_total, attribute_total, totals_hold}
use Rattle.rules.specs.Fragments.{full_op, shells, list_steps, region_steps, steps, step_defines, op_owner, block_owner, defines_owners, fragment_ops, defines_values, defines_blocks}
use Rattle.rules.specs.Building.{tests, attributes_of, has_key, operation_names, operation_fits, operation_room, block_room, first_failed, put_attribute, op_with_attribute, block_with_attribute, op_with_operand, values_for, applied, store_by, built, after}
use Rattle.rules.specs.Shells.{ignored, unignored, unignored_location, shell_of, counts_of, same_attribute, same_location, same_shells}
use Rattle.rules.specs.Mapping.{empty_mapping, or_self, image, enter_all}
use Rattle.rules.specs.Comparison.{standing, pairwise, each_pair, expect, enter_ops, pair_ops, enter_blocks, pair_blocks, operands_agree, successors_agree, check_names, check_ops, pass1, pass2, pass3, compare_lists, compare_regions, compare_by, start, compare}
use Rattle.rules.specs.Hash.{no_numbers, numbered}
use Rattle.rules.specs.Laws.{succeeds, equal}
use Rattle.rules.specs.Copying.{copied_regions, or_next, renumbered, op_copy, block_copy, region_copy, value_copy, owner_copy, inner, parent_copy, copied_op, copied_block, copied_value, copied, copy_mapping, has_place, placed_outside, numbered_names, step_in_time, in_time, copy_nests, copy_tests}
use Rattle.rules.specs.Cases.{ignoring, attribute, inherent_one, operation, block_in, first_operand}
use Rattle.rules.specs.NestingCases.{link, chain}
use Rattle.rules.specs.Entering.{noted, noting, entering, testing, noted_ops, noted_blocks, noted_check, noted_lists, noted_regions, noted_by, entered, rights}
use Rattle.rules.specs.CopyCases.{CopyCases, operation_in, form, early_operand, early_successor, behind_nested, deep}

pub copy_cases_hold : CopyCases
unfolding every sum numbers_from numbers_where update_at all_pairs same_list same_bool later position empty_store op_at block_at value_at type_of same_owner is_parent ops_of blocks_of regions_of values_of op_exists block_exists region_exists value_exists owner_exists parent_exists parent_of op_around levels_left nesting_holds operand_total successor_total attribute_total totals_hold full_op shells list_steps region_steps steps step_defines op_owner block_owner defines_owners fragment_ops defines_values defines_blocks tests attributes_of has_key operation_names operation_fits operation_room block_room first_failed put_attribute op_with_attribute block_with_attribute op_with_operand values_for applied store_by built after ignored unignored unignored_location shell_of counts_of same_attribute same_location same_shells empty_mapping or_self image enter_all standing pairwise each_pair expect enter_ops pair_ops enter_blocks pair_blocks operands_agree successors_agree check_names check_ops pass1 pass2 pass3 compare_lists compare_regions compare_by start compare no_numbers numbered succeeds equal copied_regions or_next renumbered op_copy block_copy region_copy value_copy owner_copy inner parent_copy copied_op copied_block copied_value copied copy_mapping has_place placed_outside numbered_names step_in_time in_time copy_nests copy_tests ignoring attribute inherent_one operation block_in first_operand operation_in form early_operand early_successor behind_nested link chain deep noted noting entering testing noted_ops noted_blocks noted_check noted_lists noted_regions noted_by entered rights
copy_cases_hold =
    record {
      ops = refl;
      blocks = refl;
      regions = refl;
      values = refl;
      mapping = refl;
      twin = refl;
      behind_first = refl;
      in_order = refl;
      second = refl;
      second_ops = refl;
      second_twin = refl;
      third_twin = refl;
      without = refl;
      inside = refl;
      own_block = refl;
      no_block = refl;
      no_operation = refl;
      by_operand = refl;
      by_successor = refl;
      no_twin = refl;
      inside_first = refl;
      deepest = refl;
      too_deep = refl;
    }
