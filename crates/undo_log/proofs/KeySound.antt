-- A key taken away from an owner of a sound store leaves it sound. Assumes nothing.
use Prim.Native.Nat.{ℕ, ◌<◌}
use native.Mathlib.Omega.{arith}
use mathlib.Core.Bool.{true}
use mathlib.Core.Path.{◌≡◌, refl}
use borrow.Author.Tests.{ltb-true}
use lib.ListN.{length}
use Rattle.rules.specs.Store.{Store, op_at, block_at, op_exists, block_exists, owner_exists, sound}
use Rattle.rules.specs.declared.types.Owner.{Owner}
use Rattle.rules.specs.declared.types.Owner.TheVariants.{Op as of_op, Block as of_block}
use Rattle.rules.proofs.Soundness.Sound.{Sound, facts, sound_of}
use Rattle.rules.proofs.Soundness.Grown.{OpFits, fits}
use Rattle.rules.proofs.Soundness.KeptSet.{op_set, block_set}
use Rattle.layout.specs.Journal.{op_without_key, block_without_key, key_taken}
use Rattle.undo_log.proofs.WithoutKey.{left_fewer, left_holds}

taken_facts : (s : Store) (w : Owner) (k : ℕ) → Sound s → owner_exists s w ≡ true → Sound (key_taken s w k)
unfolding owner_exists op_exists block_exists key_taken op_without_key block_without_key
taken_facts s (of_op n) k h e =
    let l : n < length s.ops = ltb-true _ _ e in
    let f : OpFits s (op_at s n) = fits s h n l in
    op_set s (op_without_key k) n h l (λ o. refl) (
    record {
      operands_in = f.operands_in;
      successors_in = f.successors_in;
      operands_fit = f.operands_fit;
      successors_fit = f.successors_fit;
      attributes_fit = left_holds k _ f.attributes_fit;
    }
    ) refl refl (omega (arith, left_fewer k (op_at s n).attributes, h.totals.attributes))
taken_facts s (of_block b) k h e =
    let l : b < length s.blocks = ltb-true _ _ e in
    block_set s (block_without_key k) b h l (λ o. refl) (left_holds k _ (h.block b l).attributes_fit) (omega (arith, left_fewer k (block_at s b).attributes, h.totals.attributes))

pub taken_sound : (s : Store) (w : Owner) (k : ℕ) → sound s ≡ true → owner_exists s w ≡ true → sound (key_taken s w k) ≡ true
taken_sound s w k h e = sound_of (key_taken s w k) (taken_facts s w k (facts s h) e)
