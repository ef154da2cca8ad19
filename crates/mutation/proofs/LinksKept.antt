-- Where no child came and none changed its owner, the next child of each is as before, so links that stayed hold still. Assumes nothing.
use Prim.Native.Nat.{ℕ, zero, suc, ◌+◌, ◌-◌, ◌<◌, ◌≤◌}
use native.Mathlib.Numerals.{add-one}
use native.Mathlib.Omega.{arith}
use mathlib.Core.Bool.{true, cond}
use Rattle.std.specs.Prelude.{Option, Some}
use mathlib.Core.Path.{◌≡◌, refl, sym, ap, ap₂, ◌∙◌}
use lib.Dec.{eqb}
use Rattle.layout.specs.Columns.{Cols, at, op_parent, op_next, region_block_end, block_region, block_op_end, block_next}
use Rattle.layout.specs.Reading.{op_count, block_count, region_count, parent_from}
use Rattle.layout.specs.Children.{first_word, word_from}
use Rattle.layout.specs.Soundness.{next_child, link_holds, parent_linked, op_linked, block_linked}
use Rattle.layout.proofs.Laid.{Laid}
use Rattle.layout.proofs.Linking.{link_of, op_link_lem, parent_low}

-- the entries of column k below n are those of before
abbrev pub EntriesKept : Cols → Cols → ℕ → ℕ → Type 0
EntriesKept C D k n = (i : ℕ) → i < n → at D k i ≡ at C k i

pub first_same : (C D : Cols) (k w a n N : ℕ) → a + n ≤ N → EntriesKept C D k N → first_word D k w a n ≡ first_word C k w a n
unfolding first_word
first_same C D k w a zero N l kept = refl
first_same C D k w a (suc n) N l kept =
    ap₂ (λ (v : ℕ) (o : Option ℕ). cond (eqb v w) (Some a) o) (kept a (omega arith)) (first_same C D k w (suc a) n N (omega arith) kept)

pub next_same : (C D : Cols) (k count n : ℕ) → n < count → EntriesKept C D k count → next_child D k count n ≡ next_child C k count n
unfolding next_child
next_same C D k count n l kept =
    ap (λ (w : ℕ). word_from (first_word D k w (n + 1) (count - (n + 1)))) (kept n l)
    ∙ ap word_from (first_same C D k (at C k n) (n + 1) (count - (n + 1)) count (omega arith) kept)

module _ (C D : Cols) (h : Laid C) where
  pub op_old : (n : ℕ) → n < op_count C → at D op_parent n ≡ at C op_parent n
      → ((b : ℕ) → b < block_count C → at C op_parent n ≡ suc b → link_holds (next_child D op_parent (op_count D) n) (at D op_next n) (at D block_op_end b) n ≡ true) → op_linked D n ≡ true
  unfolding op_linked parent_linked parent_from
  op_old n l e holds = ap (λ (w : ℕ). parent_linked D n (parent_from w) (next_child D op_parent (op_count D) n)) e ∙ go (at C op_parent n) refl
    where
      go : (w : ℕ) → at C op_parent n ≡ w → parent_linked D n (parent_from w) (next_child D op_parent (op_count D) n) ≡ true
      go zero q = refl
      go (suc b) q = holds b (let m : at C op_parent n ≤ block_count C = parent_low C n (at C op_parent n) (h.op n l).place in omega arith) q

  pub op_links_kept : op_count D ≡ op_count C → EntriesKept C D op_parent (op_count C) → EntriesKept C D op_next (op_count C) → EntriesKept C D block_op_end (block_count C)
      → (n : ℕ) → n < op_count D → op_linked D n ≡ true
  op_links_kept count parents links ends n l =
      let m : n < op_count C = omega arith in
      op_old n m (parents n m)
      (λ b lb e.
      let same : next_child D op_parent (op_count D) n ≡ next_child C op_parent (op_count C) n = ap (λ (N : ℕ). next_child D op_parent N n) count ∙ next_same C D op_parent (op_count C) n m parents in
      (λ i. link_holds (same i) (links n m i) (ends b lb i) n) ∙ link_of _ _ _ n (op_link_lem C h b n m (e ∙ sym (add-one b))))

  pub block_links_kept : block_count D ≡ block_count C → EntriesKept C D block_region (block_count C) → EntriesKept C D block_next (block_count C) → EntriesKept C D region_block_end (region_count C)
      → (m : ℕ) → m < block_count D → block_linked D m ≡ true
  unfolding block_linked
  block_links_kept count regions links ends m l =
      let k : m < block_count C = omega arith in
      let same : next_child D block_region (block_count D) m ≡ next_child C block_region (block_count C) m = ap (λ (N : ℕ). next_child D block_region N m) count ∙ next_same C D block_region (block_count C) m k regions in
      let end : at D region_block_end (at D block_region m) ≡ at C region_block_end (at C block_region m) = ap (at D region_block_end) (regions m k) ∙ ends _ (h.block m k).region_in in
      (λ i. link_holds (same i) (links m k i) (end i) m) ∙ h.block_link m k
