-- A new block keeps a store sound: its region exists and so stands in an operation whose own block is older, nothing of before names it,
-- and its arguments are its own. Assumes nothing.
use Prim.Native.Nat.{ℕ, ◌+◌, ◌<◌, ◌≤◌}
use native.Mathlib.Decide.{ℕ_discrete}
use native.Mathlib.Omega.{arith}
use mathlib.Core.Bool.{true, false}
use Rattle.std.specs.Prelude.{Option, None, Some}
use mathlib.Core.List.{List, [], ◌∷◌, ◌++◌, append-nil}
use mathlib.Core.Path.{◌≡◌, refl, sym, ap}
use borrow.Author.Tests.{ltb-true, lt-ltb, le-ltb}
use lib.ListN.{length, get_or, length-append, get_or-append}
use lib.Seq.{get_or-append_seam}
use Rattle.rules.specs.Lists.{sum}
use Rattle.rules.specs.Store.{Store, Block, no_block, op_at, block_at, block_exists, region_exists, owner_exists, parent_exists, parent_of, op_around, block_after, regions_of, results_of, arguments_of, operand_total, successor_total, attribute_total, max_blocks, max_values, max_own_values}
use Rattle.rules.specs.declared.types.Attribute.{Attribute}
use Rattle.rules.specs.declared.types.Owner.TheVariants.{Op as of_op, Block as of_block}
use Rattle.rules.specs.Building.{values_for}
use Rattle.rules.proofs.Soundness.Sound.{Sound, OpSound, BlockSound, TotalsSound}
use Rattle.rules.proofs.Basics.Appended.{sum_append}
use Rattle.rules.proofs.Soundness.KeptAttributes.{none_hold}
use Rattle.rules.proofs.Soundness.Grown.{Grown, appended_grown, fits, fits_kept, owner_op, owner_block, region_op_lem, parent_in_lem, op_kept, block_kept, regions_kept}
use Rattle.rules.proofs.Soundness.NewValues.{length_values_for, values_before, values_new, values_in_lem}

-- the store with one more block and its arguments
abbrev pub with_block : Store → Block → List ℕ → Store
with_block s b types =
    record { ops = s.ops; blocks = s.blocks ++ (b ∷ []); regions = s.regions; values = s.values ++ values_for (of_block (length s.blocks)) types }

-- what the tests say of the new block
pub record BlockAllowed (s : Store) (b : Block) (types : List ℕ) : Type 0 where
  pub region_in : region_exists s b.region ≡ true
  pub bare : b.attributes ≡ []
  pub own_arguments : length types ≤ max_own_values
  pub blocks_left : length s.blocks + 1 ≤ max_blocks
  pub values_left : length s.values + length types ≤ max_values

module _ (s : Store) (b : Block) (types : List ℕ) (h : Sound s) (c : BlockAllowed s b types) where
  abbrev t : Store
  t = with_block s b types

  old_block_at : (m : ℕ) → m < length s.blocks → block_at t m ≡ block_at s m
  unfolding block_at
  old_block_at m l = get_or-append s.blocks _ no_block m l

  new_block_at : block_at t (length s.blocks) ≡ b
  unfolding block_at
  new_block_at = get_or-append_seam s.blocks b [] no_block

  block_grown : Grown s t
  block_grown = appended_grown s t [] _ [] _ (sym (append-nil _)) refl (sym (append-nil _)) refl

  fresh : owner_exists s (of_block (length s.blocks)) ≡ false
  unfolding owner_exists block_exists
  fresh = le-ltb (length s.blocks) (length s.blocks) (omega arith)

  block_there : owner_exists t (of_block (length s.blocks)) ≡ true
  unfolding owner_exists block_exists
  block_there = lt-ltb (length s.blocks) _ (omega (arith, length-append s.blocks (b ∷ [])))

  later_than : (p : Option ℕ) → parent_exists s p ≡ true → block_after (length s.blocks) p ≡ true
  unfolding parent_exists block_exists block_after
  later_than None e = refl
  later_than (Some p) e = e

  -- the block around the operation that the new block stands in is one of before
  new_outer : parent_of t (op_around t (length s.blocks)) ≡ parent_of s (get_or s.regions b.region 0)
  unfolding parent_of op_at op_around
  new_outer = rw new_block_at refl

  new_block_lem : BlockSound t (length s.blocks)
  unfolding arguments_of region_exists
  new_block_lem =
      record {
        region_in = rw new_block_at c.region_in;
        later = rw new_outer (later_than _ (parent_in_lem s h _ (region_op_lem s h b.region (ltb-true _ _ c.region_in))));
        arguments_fit = rw (values_new s t h (of_block (length s.blocks)) types refl fresh) c.own_arguments;
        attributes_fit = rw (new_block_at, c.bare) none_hold;
      }

  old_block : (m : ℕ) → m < length s.blocks → BlockSound t m
  unfolding arguments_of
  old_block m l =
      block_kept s t block_grown h m l (rw (values_before s t h _ types refl fresh (of_block m) (owner_block s h m l)) (h.block m l).arguments_fit) (rw (old_block_at m l) (h.block m l).attributes_fit)

  block_at_lem : (m : ℕ) → m < length t.blocks → Dec (m ≡ length s.blocks) → BlockSound t m
  block_at_lem m l (yes e) = rw e new_block_lem
  block_at_lem m l (no ne) = old_block m (omega (arith, length-append s.blocks (b ∷ [])))

  old_op : (n : ℕ) → n < length s.ops → OpSound t n
  unfolding results_of regions_of op_at
  old_op n l =
      op_kept s t block_grown h n l (fits_kept s t block_grown _ (fits s h n l)) (h.op n l).regions_fit (
      rw (values_before s t h _ types refl fresh (of_op n) (owner_op s h n l)) (h.op n l).results_fit
      )

  block_totals : TotalsSound t
  unfolding operand_total successor_total attribute_total sum
  block_totals =
      record {
        ops = h.totals.ops;
        blocks = omega (arith, length-append s.blocks (b ∷ []));
        regions = h.totals.regions;
        values = omega (arith, length-append s.values (values_for (of_block (length s.blocks)) types), length_values_for (of_block (length s.blocks)) types);
        operands = h.totals.operands;
        successors = h.totals.successors;
        attributes = omega (arith, sum_append (λ (x : Block). length x.attributes) s.blocks (b ∷ []), ap (λ (as' : List Attribute). length as') c.bare, h.totals.attributes);
      }

  pub with_block_lem : Sound (with_block s b types)
  with_block_lem =
      record {
        op = old_op;
        block = λ m l. block_at_lem m l (ℕ_discrete m (length s.blocks));
        regions_in = regions_kept s t block_grown h;
        values_in = values_in_lem s t h (of_block (length s.blocks)) types refl fresh block_grown block_there;
        totals = block_totals;
      }
