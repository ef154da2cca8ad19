-- `sum_of` meets its contract: after each turn one entry more is in the sum, and entries of at most 8 keep it small. Assumes nothing.
use Prim.Native.Nat.{ℕ, ◌+◌, ◌<◌, ◌≤◌}
use native.Mathlib.Omega.{arith}
use mathlib.Core.Path.{◌≡◌, sym, ap, ap₂, ◌∙◌}
use borrow.Author.Tests.{leb-true}
use lib.Dec.{leb}
use Rattle.rules.specs.Lists.{sum}
use Rattle.rules.proofs.Basics.Tests.{all_below_at}
use Rattle.layout.specs.Columns.{columns, at}
use Rattle.layout.specs.Reading.{tabulate}
use Rattle.layout.proofs.Buffer.{base_fits}
use Rattle.layout.proofs.Sums.{sum_none, sum_next, sum_bound}
use Rattle.layout.proofs.checks.sum_of.Goals as goal

pub loop-i-init : goal.loop-i-init
loop-i-init c = (omega arith, sum_none (at (columns c.args.store.now) c.args.column))

pub overflow_add-total : goal.overflow_add-total
overflow_add-total c =
    let a = c.args in
    let f = at (columns a.store.now) a.column in
    let few : (k : ℕ) → k < a.n → f k ≤ 8 = λ k l. leb-true (f k) 8 (all_below_at a.n (λ (j : ℕ). leb (f j) 8) c.requires.i_value k l) in
    omega (arith, base_fits a.column, sum_bound c.loop-i.i f (λ k l. few k (omega arith)), few c.loop-i.i c.loop-i-test.true)

pub loop-i-preserved : goal.loop-i-preserved
loop-i-preserved c =
    let a = c.args in
    (omega arith, ap₂ ◌+◌ c.loop-i.invariant.1 c.number-total.ensures ∙ sym (sum_next c.loop-i.i (at (columns a.store.now) a.column)))

pub returns : goal.returns
returns c =
    let a = c.args in
    let f = at (columns a.store.now) a.column in
    c.loop-i.invariant.1 ∙ ap (λ (k : ℕ). sum (tabulate k f)) (let e : c.loop-i.i ≡ a.n = omega arith in e)
