-- The search for a child, word by word: what a word that was looked at leaves to search, and that the end of the search is the child list's first entry. Assumes nothing.
use Prim.Native.Nat.{ℕ, zero, suc, max, ◌+◌, ◌-◌, ◌<◌, ◌≤◌}
use native.Mathlib.Decide.{ℕ_discrete}
use native.Mathlib.Numerals.{add-one}
use native.Mathlib.Omega.{arith}
use mathlib.Core.Bool.{Bool, cond}
use mathlib.Core.List.{List}
use Rattle.std.specs.Prelude.{None, Some}
use mathlib.Core.Path.{◌≡◌, refl, sym, ap, subst, ◌∙◌}
use borrow.Author.Tests.{eq-eqb, ne_eqb}
use lib.Dec.{eqb}
use Rattle.rules.specs.Store.{ops_of, blocks_of}
use Rattle.layout.specs.Columns.{Cols, at, op_parent, region_block_first, region_block_end, block_region, block_op_first, block_op_end}
use Rattle.layout.specs.Reading.{op_count, block_count, region_count, store_of}
use Rattle.layout.specs.Children.{first_from, first_word}
use Rattle.layout.proofs.Laid.{Laid}
use Rattle.layout.proofs.ChildList.{Scan, ops_scan_all, blocks_scan_all, ops_scan, ops_facts, ops_mem, blocks_scan, blocks_facts, blocks_mem}

module _ (C : Cols) (k w : ℕ) where
  step : (a n : ℕ) → first_word C k w a (suc n) ≡ cond (eqb (at C k a) w) (Some a) (first_word C k w (suc a) n)
  unfolding first_word
  step a n = refl

  pub word_none : (a e : ℕ) → e ≤ a → first_word C k w a (e - a) ≡ None
  unfolding first_word
  word_none a e l = ap (first_word C k w a) (let z : e - a ≡ 0 = omega arith in z)

  first_step : (a e : ℕ) → a < e → first_word C k w a (e - a) ≡ cond (eqb (at C k a) w) (Some a) (first_word C k w (a + 1) (e - (a + 1)))
  first_step a e l =
      let z : e - a ≡ suc (e - (a + 1)) = omega arith in
      let s : suc a ≡ a + 1 = omega arith in
      ap (first_word C k w a) z ∙ step a (e - (a + 1)) ∙ ap (λ (b : ℕ). cond (eqb (at C k a) w) (Some a) (first_word C k w b (e - (a + 1)))) s

  pub word_here : (a e : ℕ) → a < e → at C k a ≡ w → first_word C k w a (e - a) ≡ Some a
  word_here a e l h = first_step a e l ∙ ap (λ (b : Bool). cond b (Some a) (first_word C k w (a + 1) (e - (a + 1)))) (eq-eqb _ w h)

  pub word_next : (a e : ℕ) → a < e → (at C k a ≡ w → ⊥) → first_word C k w a (e - a) ≡ first_word C k w (a + 1) (e - (a + 1))
  word_next a e l h = first_step a e l ∙ ap (λ (b : Bool). cond b (Some a) (first_word C k w (a + 1) (e - (a + 1)))) (ne_eqb _ w h)

  module _ (e : ℕ) (xs : List ℕ) (scan : Scan (at C k) w e xs) (n : ℕ) where
    -- no child stands from n on and before a
    abbrev Passed : ℕ → Type 0
    Passed a = (i : ℕ) → n ≤ i → i < a → i < e → at C k i ≡ w → ⊥

    scan_from : (m a : ℕ) → n ≤ a → m ≡ e - a → Passed a → first_from n xs ≡ first_word C k w a (e - a)
    scan_from zero a l h passed = scan.missing n (λ i p q. passed i p (omega arith) q) ∙ sym (word_none a e (omega arith))
    scan_from (suc m) a l h passed = go (ℕ_discrete (at C k a) w) (λ f. scan_from m (a + 1) (omega arith) (omega arith) f)
      where
        more : (at C k a ≡ w → ⊥) → (i : ℕ) → n ≤ i → i < a + 1 → i < e → Dec (i ≡ a) → at C k i ≡ w → ⊥
        more ne i p b f (yes q) v = ne (subst (λ (j : ℕ). at C k j ≡ w) q v)
        more ne i p b f (no o) v = passed i p (omega arith) f v

        go : Dec (at C k a ≡ w) → (Passed (a + 1) → first_from n xs ≡ first_word C k w (a + 1) (e - (a + 1))) → first_from n xs ≡ first_word C k w a (e - a)
        go (yes q) rest = scan.found n a l (omega arith) q (λ i p b. passed i p b (omega arith)) ∙ sym (word_here a e (omega arith) q)
        go (no ne) rest = rest (λ i p b f. more ne i p b f (ℕ_discrete i a)) ∙ sym (word_next a e (omega arith) ne)

    scan_first : (a : ℕ) → n ≤ a → Passed a → first_from n xs ≡ first_word C k w a (e - a)
    scan_first a l passed = scan_from (e - a) a l refl passed

-- ---- from a number on, among all children

module _ (C : Cols) where
  pub op_on : (b n : ℕ) → first_from n (ops_of (store_of C) b) ≡ first_word C op_parent (b + 1) n (op_count C - n)
  op_on b n = scan_first C op_parent (b + 1) (op_count C) _ (ops_scan_all C b) n n (omega arith) (λ i p q f e. omega arith)

  pub block_on : (r n : ℕ) → first_from n (blocks_of (store_of C) r) ≡ first_word C block_region r n (block_count C - n)
  block_on r n = scan_first C block_region r (block_count C) _ (blocks_scan_all C r) n n (omega arith) (λ i p q f e. omega arith)

-- ---- no child stands before the range, so to search from n on and from the range's begin on is to look for the first child from n on

module _ (C : Cols) (h : Laid C) where
  pub op_next_lem : (b : ℕ) → b < block_count C → (n : ℕ)
      → first_from n (ops_of (store_of C) b) ≡ first_word C op_parent (b + 1) (max n (at C block_op_first b)) (at C block_op_end b - max n (at C block_op_first b))
  op_next_lem b l n =
      scan_first C op_parent (b + 1) (at C block_op_end b) _ (ops_scan C h b l) n (max n (at C block_op_first b)) (omega arith)
      (λ i p q f e. let t = (h.block b l).ops in let s = (ops_facts C h b (ops_mem C h b i (omega arith) (e ∙ add-one b))).place in omega arith)

  pub block_next_lem : (r : ℕ) → r < region_count C → (n : ℕ)
      → first_from n (blocks_of (store_of C) r) ≡ first_word C block_region r (max n (at C region_block_first r)) (at C region_block_end r - max n (at C region_block_first r))
  block_next_lem r l n =
      scan_first C block_region r (at C region_block_end r) _ (blocks_scan C h r l) n (max n (at C region_block_first r)) (omega arith)
      (λ i p q f e. let t = (h.region r l).blocks in let s = (blocks_facts C h r (blocks_mem C h r i (omega arith) e)).place in omega arith)
