-- Each building call, accepted or refused, keeps a sound store sound: an accepted one passed its tests, a refused one changes nothing.
-- Assumes nothing.
use Prim.Native.Nat.{◌<◌}
use native.Mathlib.Omega.{arith}
use mathlib.Core.Bool.{true}
use Rattle.rules.specs.declared.types.Cause.{Cause}
use Rattle.std.specs.Prelude.{Option, None, Some}
use mathlib.Core.List.{List, [], ◌∷◌}
use mathlib.Core.Path.{◌≡◌, refl}
use borrow.Author.Tests.{ltb-true, leb-true}
use lib.ListN.{length, set, length-set}
use Rattle.rules.specs.Lists.{every, all_below, sum}
use Rattle.rules.specs.Store.{Store, empty_store, op_at, op_exists, block_exists, owner_exists, operand_total, successor_total, attribute_total, max_attributes, totals_hold, sound}
use Rattle.rules.specs.declared.types.Owner.TheVariants.{Op as of_op, Block as of_block}
use Rattle.rules.specs.Building.{Call, new_operation, new_block, set_attribute, set_operand, attributes_of, tests, operation_names, operation_fits, operation_room, block_room, first_failed, op_with_attribute, block_with_attribute, op_with_operand, applied, store_by, built, after}
use Rattle.rules.proofs.Basics.Tests.{passed}
use Rattle.rules.proofs.Soundness.Sound.{Sound, facts, sound_of}
use Rattle.rules.proofs.Basics.Appended.{all_set}
use Rattle.rules.proofs.Soundness.Grown.{OpFits, fits}
use Rattle.rules.proofs.Soundness.Accepted.{AllPassed, first_failed_none}
use Rattle.rules.proofs.Soundness.KeptAttributes.{none_hold, put_within, put_holds}
use Rattle.rules.proofs.Soundness.KeptNewOperation.{with_operation_lem}
use Rattle.rules.proofs.Soundness.KeptNewBlock.{with_block_lem}
use Rattle.rules.proofs.Soundness.KeptSet.{op_set, block_set}

pub applied_sound : (s : Store) (c : Call) → Sound s → AllPassed (tests s c) → Sound (applied s c)
unfolding applied tests operation_names operation_fits operation_room block_room attributes_of owner_exists op_exists block_exists op_with_attribute block_with_attribute op_with_operand
applied_sound s (new_operation o) h p =
    let names = passed _ p.0 in
    let own = passed _ p.1.0 in
    let left = passed _ p.1.1.1.0 in
    with_operation_lem s _ o.regions o.types h (
    record {
      fit =
          record {
            operands_in = names.1.0;
            successors_in = names.1.1.0;
            operands_fit = leb-true _ _ own.1.1.0;
            successors_fit = leb-true _ _ own.1.1.1.0;
            attributes_fit = none_hold;
          };
      parent_in = names.0;
      nesting = p.1.1.0;
      bare = refl;
      own_regions = leb-true _ _ own.0;
      own_results = leb-true _ _ own.1.0;
      ops = leb-true _ _ left.0;
      regions_left = leb-true _ _ left.1.0;
      values_left = leb-true _ _ left.1.1.0;
      operands_left = leb-true _ _ left.1.1.1.0;
      successors_left = leb-true _ _ left.1.1.1.1.0;
    }
    )
applied_sound s (new_block b) h p =
    let left = passed _ p.1.1.0 in
    with_block_lem s _ b.types h (
    record {
      region_in = p.0;
      bare = refl;
      own_arguments = leb-true _ _ p.1.0;
      blocks_left = leb-true _ _ left.0;
      values_left = leb-true _ _ left.1.0;
    }
    )
applied_sound s (set_attribute (of_op n) a) h p =
    let l : n < length s.ops = ltb-true _ _ p.1.0 in
    let f : OpFits s (op_at s n) = fits s h n l in
    op_set s (op_with_attribute a) n h l (λ o. refl) (
    record {
      operands_in = f.operands_in;
      successors_in = f.successors_in;
      operands_fit = f.operands_fit;
      successors_fit = f.successors_fit;
      attributes_fit = put_holds a _ p.0 p.1.1.0 f.attributes_fit;
    }
    ) refl refl (put_within a _ (attribute_total s) max_attributes f.attributes_fit p.1.1.1.0 h.totals.attributes)
applied_sound s (set_attribute (of_block b) a) h p =
    let l : b < length s.blocks = ltb-true _ _ p.1.0 in
    let f = (h.block b l).attributes_fit in
    block_set s (block_with_attribute a) b h l (λ o. refl) (put_holds a _ p.0 p.1.1.0 f) (put_within a _ (attribute_total s) max_attributes f p.1.1.1.0 h.totals.attributes)
applied_sound s (set_operand u) h p =
    let n = u.operation in
    let i = u.index in
    let v = u.value in
    let names = passed _ p.0 in
    let l : n < length s.ops = ltb-true _ _ names.0 in
    let f : OpFits s (op_at s n) = fits s h n l in
    let e : length (set (op_at s n).operands i v) ≡ length (op_at s n).operands = length-set (op_at s n).operands i v in
    op_set s (op_with_operand i v) n h l (λ o. refl) (
    record {
      operands_in = all_set _ (op_at s n).operands i v f.operands_in names.1.0;
      successors_in = f.successors_in;
      operands_fit = rw e f.operands_fit;
      successors_fit = f.successors_fit;
      attributes_fit = f.attributes_fit;
    }
    ) e refl (omega (arith, h.totals.attributes))

pub built_sound : (s : Store) (c : Call) → sound s ≡ true → sound (built s c) ≡ true
unfolding built store_by
built_sound s c h = go (first_failed (tests s c)) refl
  where
    go : (f : Option Cause) → first_failed (tests s c) ≡ f → sound (store_by f s c) ≡ true
    go None e = sound_of _ (applied_sound s c (facts s h) (first_failed_none _ e))
    go (Some cause) e = h

pub after_sound : (s : Store) (cs : List Call) → sound s ≡ true → sound (after s cs) ≡ true
unfolding after
after_sound s [] h = h
after_sound s (c ∷ cs) h = after_sound (built s c) cs (built_sound s c h)

pub empty_sound : sound empty_store ≡ true
unfolding empty_store sound every all_below totals_hold operand_total successor_total attribute_total sum
empty_sound = refl
