-- `rows_hold` meets its contract: each turn goes back by one row, and the oldest one's place is left to test. Assumes nothing.
use Prim.Native.Nat.{ℕ, suc, ◌-◌}
use native.Mathlib.Omega.{arith}
use mathlib.Core.Path.{◌≡◌, sym, subst, subst₂, ◌∙◌}
use Rattle.layout.specs.Columns.{columns}
use Rattle.layout.specs.MarkedReading.{mark_count, entry_count}
use Rattle.validation.proofs.Reached.{Reached, reach_starts, step_on}
use Rattle.validation.proofs.Whole.{step_fails, all_told}
use Rattle.validation.proofs.Marks.{words_facts}
use Rattle.validation.proofs.steps.rows_hold.Goals as goal

pub loop-i-init : goal.loop-i-init
unfolding mark_count entry_count
loop-i-init c =
    let C = columns c.args.copy.now in
    record { sound = c.requires.sound; reached = subst₂ (λ (i end : ℕ). Reached C C i end) (sym c.number-i.ensures) (sym c.number-end.ensures) (reach_starts C) }

pub returns-then-not-step_back : goal.returns-then-not-step_back
returns-then-not-step_back c =
    let C = columns c.args.copy.now in
    let D = columns c.loop-i.copy in
    let e : c.loop-i.i ≡ suc (c.loop-i.i - 1) = omega arith in
    step_fails C c.requires.nonzero D (c.loop-i.i - 1) c.loop-i.end (subst (λ (i : ℕ). Reached C D i c.loop-i.end) e c.loop-i.invariant.reached)
    (sym c.step_back.ensures.told ∙ c.if-not-step_back.true)

pub loop-i-preserved : goal.loop-i-preserved
loop-i-preserved c =
    let C = columns c.args.copy.now in
    let D = columns c.loop-i.copy in
    let i = c.loop-i.i - 1 in
    let e : c.loop-i.i ≡ suc i = omega arith in
    let came = c.step_back.ensures in
    let yes = c.if-not-step_back.false in
    record {
      sound = came.sound yes;
      reached =
          step_on C c.requires.nonzero D i c.loop-i.end (subst (λ (k : ℕ). Reached C D k c.loop-i.end) e c.loop-i.invariant.reached)
          (sym came.told ∙ yes)
          (columns c.step_back.new.copy) (came.reads yes) (came.behind yes) c.number-end-in-loop-i.result c.number-end-in-loop-i.ensures;
    }

pub returns : goal.returns
returns c =
    let C = columns c.args.copy.now in
    let D = columns c.loop-i.copy in
    let w = words_facts C c.requires.nonzero c.requires.copy_value in
    let e : c.loop-i.i ≡ 0 = omega arith in
    all_told C c.requires.nonzero c.requires.sound.ruled w.most D c.loop-i.end
    (subst (λ (i : ℕ). Reached C D i c.loop-i.end) e c.loop-i.invariant.reached)
