-- `copy_nests` meets its contract: an operation's shell tests its copy's nesting, by the column of depths, and other steps test nothing. Assumes nothing.
use Rattle.std.proofs.Common.{refl, arith}
use Rattle.layout.specs.Columns.{columns}
use Rattle.layout.proofs.Laid.{laid_facts}
use Rattle.copying.proofs.Told.{op_there}
use Rattle.copying.proofs.Nested.{under_most, depth_fits, own_below, left_first, left_last, too_deep_lem, not_too_deep, passed_over}
use Rattle.copying.proofs.nesting.copy_nests.Goals as goal
use Rattle.copying.proofs.nesting.copy_nests.Goals.{in-OpShell+else-under-number-gt-MAX_NESTING, in_default}

pub number-own-requires-clause-n_bound : goal.number-own-requires-clause-n_bound
number-own-requires-clause-n_bound c = omega (arith, (laid_facts (columns c.args.original.now.store.now) c.args.original.now.sound.laid).counts.ops)

pub loop-step-init : goal.loop-step-init
loop-step-init c = left_first c.args.original.now.store.now c.args.original.now.sound c.args.original.now.n c.args.original.now.exists c.args.parent c.requires

pub number-requires-clause-n_bound : goal.number-requires-clause-n_bound
number-requires-clause-n_bound c =
    let r = c.requires in
    omega (
      arith,
      (laid_facts (columns c.args.original.now.store.now) c.args.original.now.sound.laid).counts.ops,
      op_there c.args.original.now.store.now c.args.original.now.sound c.args.original.now.n c.args.original.now.exists c.args.original.now.steps.now c.args.original.now.are_steps c.loop-step.step-index c.loop-step-test.true c.in-OpShell.m c.in-OpShell.is,
    )

pub overflow_sub-number : goal.overflow_sub-number
overflow_sub-number c =
    let r = c.requires in
    omega (
      arith,
      c.number-own.ensures,
      c.number.ensures,
      own_below c.args.original.now.store.now c.args.original.now.sound c.args.original.now.n c.args.original.now.exists c.args.parent r
          c.args.original.now.steps.now c.args.original.now.are_steps c.loop-step.step-index c.loop-step.invariant
          c.loop-step-test.true c.in-OpShell.m c.in-OpShell.is,
    )

pub overflow_add-under : goal.overflow_add-under
overflow_add-under c =
    let r = c.requires in
    omega (
      arith,
      c.depth_under-under.ensures,
      c.number.ensures,
      under_most c.args.original.now.store.now c.args.original.now.sound c.args.parent r,
      depth_fits c.args.original.now.store.now c.args.original.now.sound _
          (op_there c.args.original.now.store.now c.args.original.now.sound c.args.original.now.n c.args.original.now.exists c.args.original.now.steps.now c.args.original.now.are_steps c.loop-step.step-index c.loop-step-test.true c.in-OpShell.m c.in-OpShell.is),
    )

pub returns-then-under-number-gt-MAX_NESTING : goal.returns-then-under-number-gt-MAX_NESTING
returns-then-under-number-gt-MAX_NESTING c =
    let r = c.requires in
    too_deep_lem c.args.original.now.store.now c.args.original.now.sound c.args.original.now.n c.args.original.now.exists c.args.parent r
    c.args.original.now.steps.now c.args.original.now.are_steps c.loop-step.step-index c.loop-step.invariant
    c.loop-step-test.true c.in-OpShell.m c.in-OpShell.is (omega (arith, c.depth_under-under.ensures, c.number.ensures, c.number-own.ensures, c.if-under-number-gt-MAX_NESTING.true))

pub loop-step-preserved : goal.loop-step-preserved
loop-step-preserved c =
    let r = c.requires in
    elim c.match-step.branch [
      | in-OpShell+else-under-number-gt-MAX_NESTING w ↦
          not_too_deep c.args.original.now.store.now c.args.original.now.sound c.args.original.now.n c.args.original.now.exists c.args.parent r c.args.original.now.steps.now c.args.original.now.are_steps c.loop-step.step-index
          c.loop-step.invariant c.loop-step-test.true w.in-OpShell.m w.in-OpShell.is
          (omega (arith, c.depth_under-under.ensures, w.number.ensures, c.number-own.ensures, w.if-under-number-gt-MAX_NESTING.false))
      | in_default w ↦
          passed_over c.args.original.now.store.now c.args.original.now.sound c.args.original.now.n c.args.original.now.exists c.args.parent r c.args.original.now.steps.now c.args.original.now.are_steps c.loop-step.step-index
          c.loop-step.invariant c.loop-step-test.true _ refl w.in_default.not-OpShell
    ]

pub returns : goal.returns
returns c =
    let r = c.requires in
    left_last c.args.original.now.store.now c.args.original.now.sound c.args.original.now.n c.args.original.now.exists c.args.parent r
    c.args.original.now.steps.now c.args.original.now.are_steps c.loop-step.step-index c.loop-step.invariant
    c.loop-step-test.false
