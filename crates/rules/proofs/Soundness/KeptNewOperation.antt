-- A new operation keeps a store sound: its tests are what soundness asks of it, nothing of before names it, and what it adds is its own.
-- Assumes nothing.
use Prim.Native.Nat.{ℕ, ◌+◌, ◌<◌, ◌≤◌}
use native.Mathlib.Decide.{ℕ_discrete}
use native.Mathlib.Omega.{arith}
use mathlib.Core.Bool.{true, false}
use Rattle.std.specs.Prelude.{Option, None, Some}
use mathlib.Core.List.{List, [], ◌∷◌, ◌++◌, append-nil}
use mathlib.Core.Path.{◌≡◌, refl, sym, ap, ◌∙◌}
use borrow.Author.Tests.{ltb-true, lt-ltb, le-ltb, eq-eqb, ne_eqb}
use lib.ListN.{length, replicate, length-append, length-replicate, get_or-append}
use lib.Seq.{get_or-append_seam}
use Rattle.rules.specs.Lists.{sum}
use Rattle.rules.specs.Store.{Store, Op, no_op, op_at, block_at, op_exists, block_exists, owner_exists, parent_exists, parent_of, nesting_holds, op_after, regions_of, results_of, arguments_of, operand_total, successor_total, attribute_total, max_ops, max_regions, max_values, max_operands, max_successors, max_own_regions, max_own_values}
use Rattle.rules.specs.declared.types.Attribute.{Attribute}
use Rattle.rules.specs.declared.types.Owner.TheVariants.{Op as of_op, Block as of_block}
use Rattle.rules.specs.Building.{values_for}
use Rattle.rules.proofs.Basics.Tests.{all_at, all_of}
use Rattle.rules.proofs.Soundness.Sound.{Sound, OpSound, BlockSound, TotalsSound}
use Rattle.rules.proofs.Basics.Appended.{numbers_before, numbers_new, all_append, mem_replicate, sum_append}
use Rattle.rules.proofs.Soundness.Grown.{Grown, appended_grown, OpFits, fits, fits_kept, owner_op, owner_block, around_in, parent_kept, after_kept, nesting_kept, op_kept, block_kept, regions_kept}
use Rattle.rules.proofs.Soundness.NewValues.{length_values_for, values_before, values_new, values_in_lem}

-- the store with one more operation, its regions and its results
abbrev pub with_operation : Store → Op → ℕ → List ℕ → Store
with_operation s o regions types =
    record {
      ops = s.ops ++ (o ∷ []);
      blocks = s.blocks;
      regions = s.regions ++ replicate regions (length s.ops);
      values = s.values ++ values_for (of_op (length s.ops)) types;
    }

-- what the tests say of the new operation
pub record OpAllowed (s : Store) (o : Op) (regions : ℕ) (types : List ℕ) : Type 0 where
  pub fit : OpFits s o
  pub parent_in : parent_exists s o.parent ≡ true
  pub nesting : nesting_holds s o.parent ≡ true
  pub bare : o.attributes ≡ []
  pub own_regions : regions ≤ max_own_regions
  pub own_results : length types ≤ max_own_values
  pub ops : length s.ops + 1 ≤ max_ops
  pub regions_left : length s.regions + regions ≤ max_regions
  pub values_left : length s.values + length types ≤ max_values
  pub operands_left : operand_total s + length o.operands ≤ max_operands
  pub successors_left : successor_total s + length o.successors ≤ max_successors

-- nothing of a store has the number that its next operation gets
pub fresh_op : (s : Store) → owner_exists s (of_op (length s.ops)) ≡ false
unfolding owner_exists op_exists
fresh_op s = le-ltb (length s.ops) (length s.ops) (omega arith)

module _ (s : Store) (o : Op) (regions : ℕ) (types : List ℕ) where
  pub operation_grown : Grown s (with_operation s o regions types)
  operation_grown = appended_grown s (with_operation s o regions types) _ [] _ _ refl (sym (append-nil _)) refl refl

  pub new_op_at : op_at (with_operation s o regions types) (length s.ops) ≡ o
  unfolding op_at
  new_op_at = get_or-append_seam s.ops o [] no_op

  pub new_regions : Sound s → length (regions_of (with_operation s o regions types) (length s.ops)) ≡ regions
  unfolding regions_of op_exists
  new_regions h =
      numbers_new _ s.regions _ (λ x m. ne_eqb x (length s.ops) (λ e. omega (arith, ltb-true x (length s.ops) (all_at _ s.regions h.regions_in m)))) (λ x m. eq-eqb _ _ (mem_replicate regions (length s.ops) x m))
      ∙ length-replicate regions (length s.ops)

module _ (s : Store) (o : Op) (regions : ℕ) (types : List ℕ) (h : Sound s) (c : OpAllowed s o regions types) where
  abbrev t : Store
  t = with_operation s o regions types

  op_grown : Grown s t
  op_grown = operation_grown s o regions types

  op_there : op_exists t (length s.ops) ≡ true
  unfolding op_exists
  op_there = lt-ltb (length s.ops) _ (omega (arith, length-append s.ops (o ∷ [])))

  old_op_at : (n : ℕ) → n < length s.ops → op_at t n ≡ op_at s n
  unfolding op_at
  old_op_at n l = get_or-append s.ops _ no_op n l

  old_regions : (n : ℕ) → n < length s.ops → regions_of t n ≡ regions_of s n
  unfolding regions_of
  old_regions n l = numbers_before _ s.regions _ (λ x m. ne_eqb x n (λ e. omega (arith, mem_replicate regions (length s.ops) x m)))

  later_than_parent : (p : Option ℕ) → parent_exists s p ≡ true → op_after s (length s.ops) p ≡ true
  unfolding op_after parent_exists block_exists
  later_than_parent None e = refl
  later_than_parent (Some b) e = lt-ltb _ _ (around_in s h b (ltb-true _ _ e))

  old_op : (n : ℕ) → n < length s.ops → OpSound t n
  unfolding results_of
  old_op n l =
      op_kept s t op_grown h n l (rw (old_op_at n l) (fits_kept s t op_grown _ (fits s h n l))) (rw (old_regions n l) (h.op n l).regions_fit) (
      rw (values_before s t h _ types refl (fresh_op s) (of_op n) (owner_op s h n l)) (h.op n l).results_fit
      )

  new_parent : parent_of t (length s.ops) ≡ o.parent
  unfolding parent_of
  new_parent = ap (λ (x : Op). x.parent) (new_op_at s o regions types)

  new_op : OpSound t (length s.ops)
  unfolding results_of
  new_op =
      let f : OpFits t (op_at t (length s.ops)) = rw (new_op_at s o regions types) (fits_kept s t op_grown o c.fit) in
      record {
        parent_in = rw new_parent (parent_kept s t op_grown _ c.parent_in);
        operands_in = f.operands_in;
        successors_in = f.successors_in;
        later = rw new_parent (after_kept s t op_grown h _ _ c.parent_in (later_than_parent _ c.parent_in));
        nesting = rw new_parent (nesting_kept s t op_grown h _ c.parent_in c.nesting);
        regions_fit = rw (new_regions s o regions types h) c.own_regions;
        results_fit = rw (values_new s t h (of_op (length s.ops)) types refl (fresh_op s)) c.own_results;
        operands_fit = f.operands_fit;
        successors_fit = f.successors_fit;
        attributes_fit = f.attributes_fit;
      }

  op_at_lem : (n : ℕ) → n < length t.ops → Dec (n ≡ length s.ops) → OpSound t n
  op_at_lem n l (yes e) = rw e new_op
  op_at_lem n l (no ne) = old_op n (omega (arith, length-append s.ops (o ∷ [])))

  old_block : (m : ℕ) → m < length s.blocks → BlockSound t m
  unfolding arguments_of block_at
  old_block m l = block_kept s t op_grown h m l (rw (values_before s t h _ types refl (fresh_op s) (of_block m) (owner_block s h m l)) (h.block m l).arguments_fit) (h.block m l).attributes_fit

  op_totals : TotalsSound t
  unfolding operand_total successor_total attribute_total sum
  op_totals =
      let n : length t.ops ≡ length s.ops + 1 = length-append s.ops (o ∷ []) in
      record {
        ops = omega arith;
        blocks = h.totals.blocks;
        regions = omega (arith, length-append s.regions (replicate regions (length s.ops)), length-replicate regions (length s.ops));
        values = omega (arith, length-append s.values (values_for (of_op (length s.ops)) types), length_values_for (of_op (length s.ops)) types);
        operands = omega (arith, sum_append (λ (x : Op). length x.operands) s.ops (o ∷ []));
        successors = omega (arith, sum_append (λ (x : Op). length x.successors) s.ops (o ∷ []));
        attributes = omega (arith, sum_append (λ (x : Op). length x.attributes) s.ops (o ∷ []), ap (λ (as' : List Attribute). length as') c.bare, h.totals.attributes);
      }

  pub with_operation_lem : Sound (with_operation s o regions types)
  unfolding owner_exists
  with_operation_lem =
      record {
        op = λ n l. op_at_lem n l (ℕ_discrete n (length s.ops));
        block = old_block;
        regions_in = all_append _ s.regions _ (regions_kept s t op_grown h) (all_of _ _ (λ x m. rw (mem_replicate regions (length s.ops) x m) op_there));
        values_in = values_in_lem s t h (of_op (length s.ops)) types refl (fresh_op s) op_grown op_there;
        totals = op_totals;
      }
