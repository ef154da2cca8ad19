-- 01's premise is needed, for symmetry, equal hashes and transitivity: operations alike of which one names what another defines are equal
-- one way and not the other, their hashes differ, and equality doesn't pass on, by computation. Assumes nothing.
use mathlib.Core.Path.{refl}
use Rattle.rules.specs.Lists.{every, all_below, sum, numbers_from, numbers_where, update_at, all_pairs, same_list, position, later}
use Rattle.rules.specs.Store.{empty_store, op_at, value_at, type_of, same_owner, regions_of, values_of, results_of, op_exists, value_exists, owner_exists, parent_exists, levels_left, nesting_holds, op_after, operand_total, successor_total, attribute_total, totals_hold, keys_rise, attributes_hold, op_holds, sound}
use Rattle.rules.specs.Fragments.{full_op, steps}
use Rattle.rules.specs.Building.{tests, operation_names, operation_fits, operation_room, block_room, first_failed, op_with_operand, values_for, applied, store_by, built, after}
use Rattle.rules.specs.Shells.{unignored, unignored_location, shell_of, counts_of, same_location, same_shells}
use Rattle.rules.specs.Mapping.{empty_mapping, or_self, image, enter_all}
use Rattle.rules.specs.Comparison.{each_pair, expect, enter_ops, pair_ops, operands_agree, successors_agree, check_names, check_ops, compare_by, start, compare}
use Rattle.rules.specs.Cases.{ignoring, operation, first_operand}
use Rattle.rules.specs.Hash.{fnv_byte, fnv_from, fnv, bytes, leaf, count, tag, location_bytes, list_bytes, shell_bytes, head_bytes, no_numbers, numbered, name_at, name_of, name_bytes, feeds, all_bytes, hash}
use Rattle.rules.specs.Laws.{succeeds, equal}
use Rattle.rules.specs.EqualityLaws.{alike, tangled, PremiseNeeded, tangled_three, PremiseNeededThrice}

pub premise_needed : PremiseNeeded
unfolding PremiseNeeded tangled alike every all_below sum numbers_from numbers_where update_at all_pairs same_list position later empty_store op_at value_at type_of same_owner regions_of values_of results_of op_exists value_exists owner_exists parent_exists levels_left nesting_holds op_after operand_total successor_total attribute_total totals_hold keys_rise attributes_hold op_holds sound full_op steps tests operation_names operation_fits operation_room block_room first_failed op_with_operand values_for applied store_by built after unignored unignored_location shell_of counts_of same_location same_shells empty_mapping or_self image enter_all each_pair expect enter_ops pair_ops operands_agree successors_agree check_names check_ops compare_by start compare ignoring operation first_operand fnv_byte fnv_from fnv bytes leaf count tag location_bytes list_bytes shell_bytes head_bytes no_numbers numbered name_at name_of name_bytes feeds all_bytes hash succeeds equal
premise_needed = (refl, refl, refl, refl)

pub premise_needed_thrice : PremiseNeededThrice
unfolding PremiseNeededThrice tangled_three alike every all_below sum numbers_from numbers_where update_at all_pairs same_list position later empty_store op_at value_at type_of same_owner regions_of values_of results_of op_exists value_exists owner_exists parent_exists levels_left nesting_holds op_after operand_total successor_total attribute_total totals_hold keys_rise attributes_hold op_holds sound full_op steps tests operation_names operation_fits operation_room block_room first_failed op_with_operand values_for applied store_by built after unignored unignored_location shell_of counts_of same_location same_shells empty_mapping or_self image enter_all each_pair expect enter_ops pair_ops operands_agree successors_agree check_names check_ops compare_by start compare ignoring operation first_operand fnv_byte fnv_from fnv bytes leaf count tag location_bytes list_bytes shell_bytes head_bytes no_numbers numbered name_at name_of name_bytes feeds all_bytes hash succeeds equal
premise_needed_thrice = (refl, refl, refl, refl)
