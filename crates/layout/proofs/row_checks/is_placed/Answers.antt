-- `is_placed` meets its contract: the word of the parent is 0 for none, else one more than the block's number. Assumes nothing.
use Prim.Native.Nat.{ℕ, zero, suc, ◌-◌}
use native.Mathlib.Omega.{arith}
use Rattle.std.specs.Prelude.{Some}
use mathlib.Core.Path.{◌≡◌, refl, ap, ◌∙◌}
use lib.Dec.{eqb}
use Rattle.layout.specs.Columns.{Cols, columns, at, op_depth}
use Rattle.layout.specs.Reading.{parent_from}
use Rattle.layout.specs.Soundness.{placed}
use Rattle.layout.proofs.row_checks.is_placed.Goals as goal

alone : (C : Cols) (n p : ℕ) → p ≡ 0 → eqb (at C op_depth n) 0 ≡ placed C n (parent_from p)
unfolding placed parent_from
alone C n zero h = refl
alone C n (suc p) h = absurd (let w : ⊥ = omega arith in w)

inside : (C : Cols) (n p : ℕ) → (p ≡ 0 → ⊥) → placed C n (Some (p - 1)) ≡ placed C n (parent_from p)
unfolding parent_from
inside C n zero h = absurd (h refl)
inside C n (suc p) h = ap (λ (b : ℕ). placed C n (Some b)) (let e : suc p - 1 ≡ p = omega arith in e)

pub returns-then-parent-eq0 : goal.returns-then-parent-eq0
returns-then-parent-eq0 c =
    let a = c.args in
    let C = columns a.store.now in
    ap (λ (x : ℕ). eqb x 0) c.number.ensures ∙ alone C a.n c.number-parent.result c.if-parent-eq0.true
    ∙ ap (λ (p : ℕ). placed C a.n (parent_from p)) c.number-parent.ensures

pub returns : goal.returns
returns c =
    let a = c.args in
    let C = columns a.store.now in
    c.placed_in.ensures ∙ inside C a.n c.number-parent.result c.if-parent-eq0.false
    ∙ ap (λ (p : ℕ). placed C a.n (parent_from p)) c.number-parent.ensures
