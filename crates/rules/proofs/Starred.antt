-- The starred cases of 01's "Twins and near twins" hold, every one, by computation. Assumes nothing.
use mathlib.Core.Path.{refl}
use Rattle.rules.specs.Lists.{same_bool, every, all_below, sum, numbers_from, numbers_where, update_at, all_pairs, same_list}
use Rattle.rules.specs.Store.{empty_store, no_op, no_block, no_value, op_at, block_at, value_at, type_of, same_owner, is_parent, ops_of, blocks_of, regions_of, values_of, results_of, arguments_of, op_exists, block_exists, region_exists, value_exists, owner_exists, parent_exists, parent_of, op_around, levels_left, nesting_holds, op_after, block_after, operand_total, successor_total, attribute_total, totals_hold, keys_rise_after, keys_rise, attributes_hold, op_holds, block_holds, sound}
use Rattle.rules.specs.Fragments.{exists}
use Rattle.rules.specs.Building.{attributes_of, has_key, tests, operation_names, operation_fits, operation_room, block_room, first_failed, put_attribute, op_with_attribute, block_with_attribute, op_with_operand, values_for, applied, acceptance, answer_by, store_by, answer, built, after}
use Rattle.rules.specs.Shells.{ignored, unignored, unignored_location, shell_of, counts_of, same_attribute, same_location, same_shells}
use Rattle.rules.specs.Mapping.{empty_mapping, or_self, image, enter_all, entries_allowed, table_allowed, allowed}
use Rattle.rules.specs.Comparison.{pairwise, each_pair, pair_of, expect, enter_ops, pair_ops, enter_blocks, pair_blocks, operands_agree, successors_agree, check_names, check_ops, pass1, pass2, pass3, compare_lists, compare_regions, compare_by, start, compare}
use Rattle.rules.specs.Types.{whole_rows, old_types, present_types, stands_in, each_once, types_hold, present, renamed_value, renamed}
use Rattle.rules.specs.Answers.{compare_tests, comparison_of, comparison_by, comparison}
use Rattle.rules.specs.Cases.{one_entry, Holds, AllHold, ignoring, attribute, operation, enclosing, block_in, first_operand, nested, example, two_regions, two_ops, two_users, full_and_empty, starred, names_inner, chained, mistakes, inherent_one, inherent_left, eight_keys, inherent_block, inherent_cases}

all_hold : AllHold starred × AllHold mistakes × AllHold inherent_cases
unfolding every all_below sum numbers_from numbers_where update_at all_pairs same_list empty_store no_op no_block no_value op_at block_at value_at type_of same_owner is_parent ops_of blocks_of regions_of values_of results_of arguments_of op_exists block_exists region_exists value_exists owner_exists parent_exists parent_of op_around levels_left nesting_holds op_after block_after operand_total successor_total attribute_total totals_hold keys_rise_after keys_rise attributes_hold op_holds block_holds sound exists attributes_of has_key tests operation_names operation_fits operation_room block_room first_failed put_attribute op_with_attribute block_with_attribute op_with_operand values_for applied acceptance answer_by store_by answer built after ignored unignored unignored_location shell_of counts_of same_attribute same_bool same_location same_shells empty_mapping or_self image enter_all entries_allowed table_allowed allowed pairwise each_pair pair_of expect enter_ops pair_ops enter_blocks pair_blocks operands_agree successors_agree check_names check_ops pass1 pass2 pass3 compare_lists compare_regions compare_by start compare compare_tests comparison_of comparison_by comparison one_entry Holds AllHold ignoring attribute operation enclosing block_in first_operand nested example two_regions two_ops two_users full_and_empty starred names_inner chained mistakes inherent_one inherent_left eight_keys inherent_block inherent_cases whole_rows old_types present_types stands_in each_once types_hold present renamed_value renamed
all_hold = (
  (refl, (refl, (refl, (refl, (refl, (refl, (refl, (refl, (refl, (refl, (refl, (refl, (refl, (refl, (refl, (refl, tt)))))))))))))))),
  (refl, (refl, (refl, (refl, (refl, (refl, (refl, (refl, (refl, (refl, (refl, (refl, (refl, tt))))))))))))),
  (refl, (refl, (refl, (refl, (refl, (refl, (refl, (refl, (refl, (refl, (refl, (refl, tt)))))))))))),
)

pub starred_hold : AllHold starred
starred_hold = all_hold.0

-- and those that a porter's mistakes fail
pub mistakes_hold : AllHold mistakes
mistakes_hold = all_hold.1

-- and those of attributes that can't be ignored
pub inherent_cases_hold : AllHold inherent_cases
inherent_cases_hold = all_hold.2
