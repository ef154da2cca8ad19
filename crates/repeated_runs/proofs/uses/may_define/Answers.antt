-- `may_define` meets its contract: a result of the left run has an owner that passes each of its tests. Assumes nothing.
use Prim.Native.Nat.{◌%◌}
use native.Mathlib.Omega.{arith}
use mathlib.Core.List.{Memᴰ}
use mathlib.Core.Path.{sym, ◌∙◌}
use borrow.Author.Tests.{leb-false, eqb-false}
use Rattle.layout.specs.Columns.{columns, at, value_owner}
use Rattle.layout.specs.Reading.{store_in}
use Rattle.layout.proofs.Laid.{laid_facts}
use Rattle.repeated_runs.specs.Walked.{left_results}
use Rattle.repeated_runs.proofs.FirstOperands.{OwnedWithin, result_owner}
use Rattle.repeated_runs.proofs.uses.may_define.Goals as goal
use Rattle.repeated_runs.proofs.uses.may_define.Goals.{After-at-owner, then-ops-two, else-ops-two}

owned : (c : After-at-owner) → Memᴰ c.args.value (left_results (store_in c.args.store.now) c.args.ops.now c.args.two) → OwnedWithin c.requires.runs_in (at (columns c.args.store.now) value_owner c.args.value)
owned c m = result_owner c.requires.runs_in c.args.value c.requires.value_bound m

pub at-owner-requires-clause-n_bound : goal.at-owner-requires-clause-n_bound
at-owner-requires-clause-n_bound c = omega (arith, c.requires.value_bound, (laid_facts (columns c.args.store.now) c.requires.sound.laid).counts.values)

pub returns-then-owner-ops : goal.returns-then-owner-ops
returns-then-owner-ops c e m =
    let o = owned ((goal.at.returns-then-owner-ops c).After-at-owner) m in
    omega (arith, o.code, eqb-false (c.at-owner.result % 2) 0 e, c.at-owner.ensures)

pub returns-else-owner-ops : goal.returns-else-owner-ops
returns-else-owner-ops c e m =
    let o = owned ((goal.at.returns-else-owner-ops c).After-at-owner) m in
    elim c.if-ops-two.branch [
      | then-ops-two w ↦ omega (arith, o.code, o.to, c.at-owner.ensures, leb-false _ _ (sym w.value-is ∙ e))
      | else-ops-two w ↦ omega (arith, o.code, o.from, c.at-owner.ensures, w.if-ops-two.false)
    ]
