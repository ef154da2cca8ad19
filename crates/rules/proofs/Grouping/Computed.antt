-- Independence and twins in small stores, by computing; and an operation without a twin that is equal to an earlier one. Assumes nothing.
use mathlib.Core.Path.{refl}
use Rattle.rules.specs.Lists.{every, numbers_from, numbers_where, update_at, all_pairs, same_list, sum}
use Rattle.rules.specs.Store.{empty_store, op_at, block_at, value_at, type_of, same_owner, is_parent, ops_of, blocks_of, regions_of, values_of, op_exists, block_exists, region_exists, value_exists, owner_exists, parent_exists, parent_of, op_around, levels_left, nesting_holds, operand_total, successor_total, attribute_total}
use Rattle.rules.specs.Fragments.{exists, full_op, shells, list_steps, region_steps, steps, step_defines, step_operands, step_successors, op_owner, block_owner, defines_owners, defines_values, defines_blocks, fragment_ops, names_values, names_blocks}
use Rattle.rules.specs.Building.{tests, attributes_of, has_key, operation_names, operation_fits, operation_room, block_room, first_failed, put_attribute, op_with_attribute, op_with_operand, values_for, applied, store_by, built, after}
use Rattle.rules.specs.Shells.{ignored, unignored, unignored_location, shell_of, counts_of, same_location, same_shells}
use Rattle.rules.specs.Mapping.{empty_mapping, or_self, image, enter_all}
use Rattle.rules.specs.Comparison.{pairwise, each_pair, expect, enter_ops, pair_ops, enter_blocks, pair_blocks, operands_agree, successors_agree, check_names, check_ops, pass1, pass2, pass3, compare_lists, compare_regions, compare_by, start, compare}
use Rattle.rules.specs.Types.{whole_rows, old_types, present_types, each_once, types_hold, renamed}
use Rattle.rules.specs.Keys.{written}
use Rattle.rules.specs.Laws.{succeeds, equal}
use Rattle.rules.specs.Runs.{first_of}
use Rattle.rules.specs.Independence.{disjoint, names_nothing_of, independent, independence_tests, independence_by, independence}
use Rattle.rules.specs.Grouping.{is_twin, twin_of, twins_of, twin_word, twin_tests, grouping_by, grouping}
use Rattle.rules.specs.Cases.{ignoring, attribute, operation, block_in, enclosing, first_operand, nested}
use Rattle.rules.specs.EqualityLaws.{alike, tangled}
use Rattle.rules.specs.GroupingLaws.{TwinlessEqual}
use Rattle.rules.specs.CopyCases.{operation_in}
use Rattle.rules.specs.GroupingCases.{GroupingCases}

pub grouping_cases_hold : GroupingCases
unfolding every numbers_from numbers_where update_at all_pairs same_list sum empty_store op_at block_at same_owner ops_of blocks_of regions_of values_of op_exists block_exists parent_of op_around nesting_holds exists full_op shells list_steps region_steps steps step_defines step_operands step_successors op_owner block_owner defines_owners defines_values defines_blocks names_values names_blocks tests attributes_of operation_names operation_fits operation_room block_room first_failed put_attribute op_with_attribute op_with_operand values_for applied store_by built after ignored unignored counts_of same_location same_shells empty_mapping pairwise each_pair expect enter_ops pair_ops enter_blocks pair_blocks operands_agree check_names check_ops pass1 pass2 pass3 compare_lists compare_regions compare_by start compare types_hold renamed succeeds equal first_of disjoint names_nothing_of independent independence_tests independence_by independence is_twin twin_of twins_of twin_word twin_tests grouping_by grouping ignoring attribute operation block_in enclosing first_operand nested alike tangled operand_total successor_total successors_agree region_exists value_exists owner_exists has_key each_once written parent_exists type_of value_at image or_self enter_all attribute_total levels_left shell_of unignored_location is_parent whole_rows old_types present_types operation_in fragment_ops
grouping_cases_hold =
    record {
      alike = refl;
      inner = refl;
      inside_another = refl;
      is_inside = refl;
      located = refl;
      kind_ignored = refl;
      kind_counted = refl;
      one_way = refl;
      around = refl;
      itself = refl;
      beside = refl;
      blocks_beside = refl;
      regions_beside = refl;
      names = refl;
      is_named = refl;
      own_block = refl;
      unsound = refl;
      absent = refl;
      answered = refl;
      list_first = refl;
      short = refl;
      filled = refl;
    }

pub twinless_equal : TwinlessEqual
unfolding TwinlessEqual every numbers_from numbers_where update_at all_pairs same_list empty_store op_at same_owner regions_of values_of op_exists value_exists operand_total successor_total full_op steps tests operation_names operation_fits operation_room block_room first_failed op_with_operand applied store_by built after unignored shell_of counts_of same_location same_shells empty_mapping each_pair expect enter_ops pair_ops operands_agree successors_agree check_names check_ops compare_by start compare ignoring operation first_operand succeeds equal alike tangled first_of twin_of is_twin independent names_nothing_of disjoint names_values names_blocks defines_values defines_blocks defines_owners step_defines step_operands step_successors parent_exists nesting_holds sum type_of value_at image or_self enter_all levels_left values_for unignored_location
twinless_equal = (refl, refl)
