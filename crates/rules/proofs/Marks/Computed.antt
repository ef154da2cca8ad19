-- The cases of marks, by computing. Assumes nothing.
use mathlib.Core.Path.{refl}
use Rattle.rules.specs.Lists.{every, sum, update_at, numbers_from, numbers_where, position}
use Rattle.rules.specs.Store.{attribute_total, empty_store, levels_left, nesting_holds, op_at, op_exists, operand_total, owner_exists, parent_exists, successor_total, value_exists, block_at, blocks_of, block_exists, is_parent, op_around, ops_of, parent_of, regions_of, same_owner, totals_hold, value_at, values_of}
use Rattle.rules.specs.Fragments.{full_op, shells, list_steps, region_steps, steps, step_defines, op_owner, block_owner, defines_owners, fragment_ops, defines_values, defines_blocks}
use Rattle.rules.specs.Building.{acceptance, after, applied, attributes_of, built, first_failed, has_key, op_with_attribute, op_with_operand, operation_fits, operation_names, operation_room, put_attribute, store_by, tests, values_for}
use Rattle.rules.specs.Hash.{no_numbers, numbered}
use Rattle.rules.specs.Copying.{copied_regions, or_next, renumbered, op_copy, block_copy, region_copy, value_copy, owner_copy, inner, parent_copy, copied_op, copied_block, copied_value, copied, has_place, placed_outside, numbered_names, step_in_time, in_time, copy_nests, copy_tests}
use Rattle.rules.specs.Marks.{unmarked, is_mark, has_number, is_set, replaces, remembered, can_remember, marked_tests, with_since, recounted, replaced_once, without, up_to, mark_or, new_mark, gone_back, marked_applied, marked_acceptance, marked_answer_by, marked_by, marked_answer, marked, after_marked}
use Rattle.rules.specs.Cases.{attribute, inherent_one, first_operand, operation}
use Rattle.rules.specs.MarkCases.{MarkCases}

pub mark_cases_hold : MarkCases
unfolding every sum update_at attribute_total empty_store levels_left nesting_holds op_at op_exists operand_total owner_exists parent_exists successor_total value_exists acceptance after applied attributes_of built first_failed has_key op_with_attribute op_with_operand operation_fits operation_names operation_room put_attribute store_by tests values_for unmarked is_mark has_number is_set replaces remembered can_remember marked_tests with_since recounted replaced_once without up_to mark_or new_mark gone_back marked_applied marked_acceptance marked_answer_by marked_by marked_answer marked after_marked attribute inherent_one first_operand operation numbers_from numbers_where position block_at blocks_of block_exists is_parent op_around ops_of parent_of regions_of same_owner totals_hold value_at values_of full_op shells list_steps region_steps steps step_defines op_owner block_owner defines_owners fragment_ops defines_values defines_blocks no_numbers numbered copied_regions or_next renumbered op_copy block_copy region_copy value_copy owner_copy inner parent_copy copied_op copied_block copied_value copied has_place placed_outside numbered_names step_in_time in_time copy_nests copy_tests
mark_cases_hold =
    record {
      lowest = refl;
      highest = refl;
      set_zero = refl;
      set_nine = refl;
      back_zero = refl;
      back_nine = refl;
      none_set = refl;
      other_set = refl;
      stays = refl;
      younger = refl;
      moved = refl;
      key_restored = refl;
      flag_restored = refl;
      key_gone = refl;
      operand_restored = refl;
      given = refl;
      given_again = refl;
      same_operand = refl;
      key_there = refl;
      new_key = refl;
      no_mark = refl;
      refused_one = refl;
      new_owner = refl;
      forgotten = refl;
      all_forgotten = refl;
      oldest_moved = refl;
      last_remembered = refl;
      no_room = refl;
      no_room_for_key = refl;
      new_key_still = refl;
      cause_first = refl;
      unmarked_still = refl;
      room_again = refl;
      copy_gone = refl;
      copy_again = refl;
      copy_of_copy = refl;
      first_stays = refl;
      both_gone = refl;
      copy_uncounted = refl;
      copys_key = refl;
      copy_still = refl;
      copy_refused = refl;
      not_allowed = refl;
    }
