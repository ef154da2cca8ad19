-- Rows with numbers of marks, none twice, are at most eight. Assumes nothing.
use Prim.Native.Nat.{ℕ, suc, ◌<◌, ◌≤◌}
use native.Mathlib.Omega.{arith}
use mathlib.Core.Bool.{true}
use mathlib.Core.List.Memᴰ
use mathlib.Core.List.{List, [], ◌∷◌, map, Memᴰ}
use mathlib.Core.Logic.{⊎_elim}
use mathlib.Core.Path.{◌≡◌, refl, ap}
use borrow.Author.Tests.{leb-true, eq-eqb}
use lib.Dec.{leb}
use lib.ListN.{length}
use Rattle.rules.specs.Marks.{is_mark, max_marks}
use Rattle.rules.proofs.Basics.Tests.{and_left, and_right, clash}
use Rattle.rules.proofs.Basics.Filtered.{any_at}
use Rattle.rules.proofs.Basics.Distinct.{Distinct}
use Rattle.rules.proofs.Basics.Pigeons.{pigeons}
use Rattle.layout.specs.Journal.{MarkRow, row_has_number}
use Rattle.undo_log.proofs.MarkRows.{Numbered}

abbrev numbers : List MarkRow → List ℕ
numbers rs = map (λ (r : MarkRow). r.number) rs

numbers_length_lem : (rs : List MarkRow) → length (numbers rs) ≡ length rs
numbers_length_lem [] = refl
numbers_length_lem (r ∷ rs) = ap suc (numbers_length_lem rs)

mark_low : (k : ℕ) → is_mark k ≡ true → 1 ≤ k
unfolding is_mark
mark_low k h = leb-true 1 k (and_left (leb 1 k) (leb k max_marks) h)

mark_high : (k : ℕ) → is_mark k ≡ true → k < 9
unfolding is_mark
mark_high k h = omega (arith, leb-true k max_marks (and_right (leb 1 k) (leb k max_marks) h))

numbers_distinct : (rs : List MarkRow) → Numbered rs → Distinct (numbers rs)
unfolding row_has_number
numbers_distinct [] p = tt
numbers_distinct (r ∷ rs) p = (
  λ m. let w = Memᴰ.of_map (λ (q : MarkRow). q.number) rs m in
      clash (any_at (row_has_number r.number) w.1 (eq-eqb _ _ w.2)) p.1,
  numbers_distinct rs p.2,
)

marks_only : (rs : List MarkRow) → Numbered rs → (x : ℕ) → Memᴰ x (numbers rs) → (1 ≤ x) × (x < 9)
marks_only [] p x m = absurd (Memᴰ.not-nil m)
marks_only (r ∷ rs) p x m =
    ⊎_elim (λ e. (omega (arith, e, mark_low r.number p.0), omega (arith, e, mark_high r.number p.0))) (λ k. marks_only rs p.2 x k) (Memᴰ.cases_cons m)

pub numbered_few : (rs : List MarkRow) → Numbered rs → length rs ≤ max_marks
numbered_few rs p =
    let few : suc (length (numbers rs)) ≤ 9 =
    pigeons 9 (0 ∷ numbers rs) (λ m. let w : ⊥ = omega (arith, (marks_only rs p 0 m).0) in w, numbers_distinct rs p)
    (λ x m. ⊎_elim (λ e. omega (arith, e)) (λ k. (marks_only rs p x k).1) (Memᴰ.cases_cons m)) in
    omega (arith, numbers_length_lem rs)
