-- The limit tests of a call, causes 4, 5 and 3, ask only what soundness asks of the store with the call done, so a call whose names exist
-- is refused only where that store would not be sound. Assumes nothing.
use Prim.Native.Nat.{◌<◌}
use native.Mathlib.Omega.{arith}
use mathlib.Core.Bool.{true}
use mathlib.Core.Path.{◌≡◌, refl}
use borrow.Author.Tests.{ltb-true, le-leb}
use lib.ListN.{length}
use Rattle.rules.specs.Store.{Store, Op, Block, no_op, no_block, op_at, block_at, op_exists, block_exists, owner_exists, attribute_total, max_attributes}
use Rattle.rules.specs.declared.types.Owner.TheVariants.{Op as of_op, Block as of_block}
use Rattle.rules.specs.Building.{Call, new_operation, new_block, set_attribute, set_operand, attributes_of, tests, operation_names, operation_fits, operation_room, block_room, op_with_attribute, block_with_attribute, applied}
use Rattle.rules.specs.BuildingLaws.{of_names, names_hold, AcceptedExactly}
use Rattle.rules.proofs.Basics.Tests.{passed, every_of}
use Rattle.rules.proofs.Soundness.Sound.{Sound, facts, sound_of}
use Rattle.rules.proofs.Basics.Appended.{length_update, sum_update}
use Rattle.rules.proofs.Soundness.Accepted.{AllPassed, first_failed_none, all_passed}
use Rattle.rules.proofs.Soundness.KeptNewOperation.{OpAllowed}
use Rattle.rules.proofs.Soundness.KeptNewBlock.{BlockAllowed}
use Rattle.rules.proofs.Soundness.Kept.{applied_sound}
use Rattle.rules.proofs.Soundness.Room.{operation_allowed, block_allowed, update_there, put_allowed, keys_allowed}

limits_hold : (s : Store) (c : Call) → Sound s → names_hold s c ≡ true → Sound (applied s c) → AllPassed (tests s c)
unfolding names_hold of_names applied tests operation_names operation_fits operation_room block_room attributes_of attribute_total op_at block_at owner_exists op_exists block_exists op_with_attribute block_with_attribute
limits_hold s (new_operation o) h p u =
    let names = passed _ (passed _ p).0 in
    let c : OpAllowed s _ o.regions o.types = operation_allowed s _ o.regions o.types h u names.0 names.1.0 names.1.1.0 refl in (
      (passed _ p).0,
      (
        every_of _ (le-leb _ _ c.own_regions, (le-leb _ _ c.own_results, (le-leb _ _ c.fit.operands_fit, (le-leb _ _ c.fit.successors_fit, tt)))),
        (
          c.nesting,
          (
            every_of _ (le-leb _ _ c.ops, (le-leb _ _ c.regions_left, (le-leb _ _ c.values_left, (le-leb _ _ c.operands_left, (le-leb _ _ c.successors_left, tt))))),
            tt,
          ),
        ),
      ),
    )
limits_hold s (new_block b) h p u =
    let c : BlockAllowed s _ b.types = block_allowed s _ b.types h u (passed _ p).0 refl in
    (c.region_in, (le-leb _ _ c.own_arguments, (every_of _ (le-leb _ _ c.blocks_left, (le-leb _ _ c.values_left, tt)), tt)))
limits_hold s (set_attribute (of_op n) a) h p u =
    let names = passed _ p in
    let l : n < length s.ops = ltb-true _ _ names.1.0 in
    let fit = (u.op n (omega (arith, length_update (op_with_attribute a) n s.ops))).attributes_fit in (
      names.0,
      (
        names.1.0,
        (
          keys_allowed a _ (rw (update_there (op_with_attribute a) n s.ops no_op l) at fit),
          (
            put_allowed a _ (attribute_total s) max_attributes (omega (arith, sum_update (λ (o : Op). length o.attributes) (op_with_attribute a) n s.ops no_op l, u.totals.attributes)),
            tt,
          ),
        ),
      ),
    )
limits_hold s (set_attribute (of_block b) a) h p u =
    let names = passed _ p in
    let l : b < length s.blocks = ltb-true _ _ names.1.0 in
    let fit = (u.block b (omega (arith, length_update (block_with_attribute a) b s.blocks))).attributes_fit in (
      names.0,
      (
        names.1.0,
        (
          keys_allowed a _ (rw (update_there (block_with_attribute a) b s.blocks no_block l) at fit),
          (
            put_allowed a _ (attribute_total s) max_attributes (omega (arith, sum_update (λ (x : Block). length x.attributes) (block_with_attribute a) b s.blocks no_block l, u.totals.attributes)),
            tt,
          ),
        ),
      ),
    )
limits_hold s (set_operand o) h p u = passed _ p

pub accepted_exactly : AcceptedExactly
unfolding AcceptedExactly
accepted_exactly s c h p =
    (λ e. sound_of _ (applied_sound s c (facts s h) (first_failed_none _ e)), λ u. all_passed _ (limits_hold s c (facts s h) p (facts _ u)))
