-- The extents of the cases, number by number, by computing. Assumes nothing.
use mathlib.Core.Path.{refl}
use Rattle.rules.specs.Lists.{every, all_below, sum, numbers_from, numbers_where, update_at, position, later}
use Rattle.rules.specs.Store.{empty_store, op_at, value_at, type_of, same_owner, regions_of, values_of, op_exists, value_exists, owner_exists, parent_exists, levels_left, nesting_holds, operand_total, successor_total, attribute_total, no_op, no_block, no_value, block_at, is_parent, ops_of, blocks_of, block_exists, region_exists, parent_of, op_around}
use Rattle.rules.specs.Fragments.{full_op, steps, exists, ops_in_blocks, ops_inside, outermost, shells, list_steps, region_steps, step_defines, op_owner, block_owner, defines_owners, fragment_ops, defines_values, defines_blocks}
use Rattle.rules.specs.Building.{tests, attributes_of, has_key, operation_names, operation_fits, operation_room, block_room, first_failed, put_attribute, op_with_attribute, op_with_operand, values_for, applied, store_by, built, after}
use Rattle.rules.specs.Shells.{ignored, unignored, unignored_location, shell_of}
use Rattle.rules.specs.Cases.{ignoring, attribute, inherent_one, operation, enclosing, block_in, first_operand}
use Rattle.rules.specs.Hash.{bytes, leaf, count, tag, list_bytes, location_bytes, flag, attribute_bytes, shell_bytes, head_bytes, no_numbers, numbered, name_at, name_of, name_bytes, feeds, all_bytes}
use Rattle.rules.specs.Keys.{key}
use Rattle.rules.specs.Extents.{deepest, op_nesting, deepest_nesting, extent, extent_tests, sized_by, sized}
use Rattle.rules.specs.ExtentCases.{extent_of, standing_in, two_deep, naming, attributed, attributed_twice, ExtentCases}

pub extent_cases_hold : ExtentCases
unfolding every all_below sum numbers_from numbers_where update_at position later empty_store op_at value_at type_of same_owner regions_of values_of op_exists value_exists owner_exists parent_exists levels_left nesting_holds operand_total successor_total attribute_total no_op no_block no_value block_at is_parent ops_of blocks_of block_exists region_exists parent_of op_around full_op steps exists ops_in_blocks ops_inside outermost shells list_steps region_steps step_defines op_owner block_owner defines_owners fragment_ops defines_values defines_blocks tests attributes_of has_key operation_names operation_fits operation_room block_room first_failed put_attribute op_with_attribute op_with_operand values_for applied store_by built after ignored unignored unignored_location shell_of ignoring attribute inherent_one operation enclosing block_in first_operand bytes leaf count tag list_bytes location_bytes flag attribute_bytes shell_bytes head_bytes no_numbers numbered name_at name_of name_bytes feeds all_bytes key deepest op_nesting deepest_nesting extent extent_tests sized_by sized extent_of standing_in two_deep naming attributed attributed_twice
extent_cases_hold =
    record {
      an_empty_region = refl;
      with_an_empty_region = refl;
      a_block = refl;
      location_ignored = refl;
      named_outside = refl;
      named_inside = refl;
      an_attribute = refl;
      ignored_attribute = refl;
      inherent_attribute = refl;
      of_an_operation = refl;
      of_its_block = refl;
      of_its_region = refl;
      refused_first = refl;
      not_there = refl;
    }
