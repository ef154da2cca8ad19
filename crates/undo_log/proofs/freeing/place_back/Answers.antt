-- `place_back` meets its contract: each turn lowers one place. Assumes nothing.
use Prim.Native.Nat.{ℕ, ◌-◌, ◌<◌}
use native.Mathlib.Omega.{arith}
use mathlib.Core.Path.{◌≡◌, ap, ap₂, ◌∙◌}
use Rattle.layout.specs.Columns.{Cols, columns, at, write}
use Rattle.layout.proofs.Buffer.{columns_shaped}
use Rattle.layout.specs.MarkedReading.{mark_count}
use Rattle.undo_log.proofs.Lowered.{lower_word, lower_turn, lower_ends}
use Rattle.undo_log.proofs.freeing.place_back.Goals as goal

pub overflow_sub-place : goal.overflow_sub-place
unfolding mark_count
overflow_sub-place c =
    let a = c.args in
    let i = c.loop-i.i in
    let C = columns a.store.now in
    let low : i < mark_count C = omega (arith, c.number-count.ensures, c.loop-i-test.true) in
    let e : c.at-place.result ≡ at C 34 i =
    c.at-place.ensures ∙ ap (λ (X : Cols). at X 34 i) c.loop-i.invariant
    ∙ lower_word C a.n (columns_shaped a.store.now c.told-store) c.requires.store_bound i low in
    omega (arith, c.requires.set_from i low)

pub loop-i-preserved : goal.loop-i-preserved
unfolding mark_count
loop-i-preserved c =
    let a = c.args in
    let i = c.loop-i.i in
    let C = columns a.store.now in
    let e = c.loop-i.invariant in
    c.put.ensures
    ∙ ap₂ (λ (X : Cols) (x : ℕ). write X 34 i (x - a.n)) e (c.at-place.ensures ∙ ap (λ (X : Cols). at X 34 i) e)
    ∙ lower_turn C a.n (columns_shaped a.store.now c.told-store) c.requires.store_bound i
    (omega (arith, c.number-count.ensures, c.loop-i-test.true))

pub returns : goal.returns
unfolding mark_count
returns c =
    let a = c.args in
    c.loop-i.invariant
    ∙ lower_ends (columns a.store.now) a.n (columns_shaped a.store.now c.told-store) c.requires.store_bound c.loop-i.i
    (omega (arith, c.number-count.ensures, c.loop-i.auto.i-end, c.loop-i-test.false))
