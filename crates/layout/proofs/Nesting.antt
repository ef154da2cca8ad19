-- The column of depth is the number of regions around an operation: it is one more than that of the operation around, so each step out takes one of both. Assumes nothing.
use Prim.Native.Nat.{ℕ, zero, suc, ◌+◌, ◌-◌, ◌<◌, ◌≤◌}
use native.Mathlib.Numerals.{add-one}
use native.Mathlib.Omega.{arith}
use mathlib.Core.Bool.{true}
use Rattle.std.specs.Prelude.{Option, None, Some, is_some}
use mathlib.Core.Path.{◌≡◌, refl, sym, ap, subst, ◌∙◌}
use borrow.Author.Tests.{leb-true, le-leb, lt-leb, ltb-true, lt-ltb, eqb-true, eq-eqb}
use lib.Dec.{leb, leb-suc-suc}
use Rattle.rules.specs.Store.{Store, parent_of, levels_left, max_nesting, nesting_holds, sound}
use Rattle.rules.proofs.Basics.Tests.{passed, every_of}
use Rattle.rules.proofs.Soundness.Sound.{facts}
use Rattle.layout.specs.Columns.{Cols, at, op_depth, block_region, block_op_first, block_op_end}
use Rattle.layout.specs.Reading.{op_count, block_count, region_count, around, store_of}
use Rattle.layout.specs.Soundness.{placed}
use Rattle.layout.proofs.Laid.{Laid, InRange, within_facts, within_of}
use Rattle.layout.proofs.Tabulate.{ops_length, parent_read_lem, around_read}

-- what `placed` says of an operation in block b
pub record Placed (C : Cols) (n b : ℕ) : Type 0 where
  pub block_in : b < block_count C
  pub region_in : at C block_region b < region_count C
  pub later : around C b < n
  pub depth : at C op_depth n ≡ at C op_depth (around C b) + 1
  pub place : InRange (at C block_op_first b) (at C block_op_end b) n

pub placed_facts : (C : Cols) (n b : ℕ) → placed C n (Some b) ≡ true → Placed C n b
unfolding placed
placed_facts C n b h =
    let p = passed _ h in
    record {
      block_in = ltb-true _ _ p.0;
      region_in = ltb-true _ _ p.1.0;
      later = ltb-true _ _ p.1.1.0;
      depth = eqb-true _ _ p.1.1.1.0;
      place = within_facts _ _ _ p.1.1.1.1.0;
    }

pub placed_of : (C : Cols) (n b : ℕ) → Placed C n b → placed C n (Some b) ≡ true
unfolding placed
placed_of C n b p =
    every_of _ (
      lt-ltb _ _ p.block_in,
      (lt-ltb _ _ p.region_in, (lt-ltb _ _ p.later, (eq-eqb _ _ p.depth, (within_of _ _ _ p.place, tt)))),
    )

pub outermost : (k : ℕ) (s : Store) → is_some (levels_left k s None) ≡ true
unfolding levels_left
outermost zero s = refl
outermost (suc k) s = refl

module _ (C : Cols) where
  Left : ℕ → Type 0
  Left k = (b : ℕ) → b < block_count C → is_some (levels_left k (store_of C) (Some b)) ≡ leb (at C op_depth (around C b) + 1) k

  left_at : (k n : ℕ) (q : Option ℕ) → placed C n q ≡ true → Left k → is_some (levels_left k (store_of C) q) ≡ leb (at C op_depth n) k
  unfolding placed Left
  left_at k n None h under =
      let z : at C op_depth n ≡ 0 = eqb-true _ 0 h in outermost k (store_of C) ∙ sym (le-leb (at C op_depth n) k (omega arith))
  left_at k n (Some b) h under =
      let p = placed_facts C n b h in under b p.block_in ∙ ap (λ (d : ℕ). leb d k) (sym p.depth)

module _ (C : Cols) (h : Laid C) where
  left_under : (k : ℕ) → Left C k
  unfolding levels_left Left
  left_under zero b l = sym (lt-leb (at C op_depth (around C b) + 1) 0 (omega arith))
  left_under (suc k) b l =
      let r = (h.block b l).region_in in
      let o = (h.region _ r).op_in in
      ap (λ (q : Option ℕ). is_some (levels_left k (store_of C) q)) (ap (parent_of (store_of C)) (around_read C b l r) ∙ parent_read_lem C (around C b) o)
      ∙ left_at C k (around C b) _ (h.op (around C b) o).place (left_under k)
      ∙ sym (ap (λ (d : ℕ). leb d (suc k)) (add-one (at C op_depth (around C b))) ∙ leb-suc-suc (at C op_depth (around C b)) k)

  -- of k regions around, in block b
  pub levels_under : (k b : ℕ) → b < block_count C → is_some (levels_left k (store_of C) (Some b)) ≡ leb (at C op_depth (around C b) + 1) k
  unfolding Left
  levels_under k b l = left_under k b l

  pub nesting_under : (b : ℕ) → b < block_count C → nesting_holds (store_of C) (Some b) ≡ leb (at C op_depth (around C b) + 1) max_nesting
  unfolding nesting_holds
  nesting_under b l = levels_under max_nesting b l

  pub nesting_at : (n : ℕ) → n < op_count C → nesting_holds (store_of C) (parent_of (store_of C) n) ≡ leb (at C op_depth n) max_nesting
  unfolding nesting_holds
  nesting_at n l =
      ap (λ (q : Option ℕ). is_some (levels_left max_nesting (store_of C) q)) (parent_read_lem C n l)
      ∙ left_at C max_nesting n _ (h.op n l).place (left_under max_nesting)

  -- ---- what is left of so many levels inside an operation

  levels_in : (k n : ℕ) (q : Option ℕ) → placed C n q ≡ true → at C op_depth n ≤ k → levels_left k (store_of C) q ≡ Some (k - at C op_depth n)
  unfolding levels_left placed
  levels_in zero n None p l = ap Some (let e : 0 ≡ 0 - at C op_depth n = omega arith in e)
  levels_in (suc k) n None p l =
      let z : at C op_depth n ≡ 0 = eqb-true _ 0 p in ap Some (let e : suc k ≡ suc k - at C op_depth n = omega arith in e)
  levels_in zero n (Some b) p l = let d : at C op_depth n ≡ at C op_depth (around C b) + 1 = (placed_facts C n b p).depth in absurd (omega arith)
  levels_in (suc k) n (Some b) p l =
      let w = placed_facts C n b p in
      let d : at C op_depth n ≡ at C op_depth (around C b) + 1 = w.depth in
      let o = (h.region _ w.region_in).op_in in
      ap (levels_left k (store_of C)) (ap (parent_of (store_of C)) (around_read C b w.block_in w.region_in) ∙ parent_read_lem C (around C b) o)
      ∙ levels_in k (around C b) _ (h.op (around C b) o).place (omega arith)
      ∙ ap Some (let e : k - at C op_depth (around C b) ≡ suc k - at C op_depth n = omega arith in e)

  module _ (sd : sound (store_of C) ≡ true) (n : ℕ) (l : n < op_count C) where
    pub depth_most : at C op_depth n ≤ max_nesting
    depth_most = leb-true _ _ (sym (nesting_at n l) ∙ ((facts (store_of C) sd).op n (subst (λ (k : ℕ). n < k) (sym (ops_length C)) l)).nesting)

    pub levels_at : levels_left max_nesting (store_of C) (parent_of (store_of C) n) ≡ Some (max_nesting - at C op_depth n)
    levels_at = ap (levels_left max_nesting (store_of C)) (parent_read_lem C n l) ∙ levels_in max_nesting n _ (h.op n l).place depth_most
