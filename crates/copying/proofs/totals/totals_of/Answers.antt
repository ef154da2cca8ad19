-- `totals_of` meets its contract: a shell adds its operation or block to the totals, and an operation's names add nothing; sums that are a part of the
-- operation's are small. Assumes nothing.
use Rattle.std.proofs.Common.{◌≡◌, sym, ◌∙◌, subst}
use Rattle.rules.specs.Fragments.{steps}
use Rattle.rules.specs.declared.types.Sort.TheVariants.{Op as op}
use Rattle.layout.specs.Columns.{columns}
use Rattle.layout.specs.Reading.{store_in}
use Rattle.copying.specs.declared.totals.Totals.{Totals}
use Rattle.copying.specs.Totals.{no_totals, owners_totalled, totalled}
use Rattle.copying.proofs.Told.{owners_left, op_there, block_there}
use Rattle.copying.proofs.Totalled.{adds_first, adds_fit, adds_last, adds_op, adds_block, adds_names}
use Rattle.copying.proofs.totals.totals_of.Goals as goal
use Rattle.copying.proofs.totals.totals_of.Goals.{in-OpShell, in-BlockShell, in-Names}

pub loop-step-init : goal.loop-step-init
loop-step-init c =
    let e = c.default-sum.ensures in
    let none : c.default-sum.result ≡ no_totals = λ i. record {
      ops = e.0 i;
      blocks = e.1.0 i;
      regions = e.1.1.0 i;
      values = e.1.1.1.0 i;
      operands = e.1.1.1.1.0 i;
      successors = e.1.1.1.1.1.0 i;
      attributes = e.1.1.1.1.1.1 i;
    } in
    subst (λ (t : Totals). owners_totalled (columns c.args.original.now.store.now) t (owners_left (steps (store_in c.args.original.now.store.now) op c.args.original.now.n) 0) ≡ totalled (columns c.args.original.now.store.now) c.args.original.now.n) (sym none)
    (adds_first c.args.original.now.store.now c.args.original.now.sound c.args.original.now.n c.args.original.now.exists c.args.original.now.steps.now c.args.original.now.are_steps)

pub with_op-sum-requires-clause-m_bound : goal.with_op-sum-requires-clause-m_bound
with_op-sum-requires-clause-m_bound c =
    op_there c.args.original.now.store.now c.args.original.now.sound c.args.original.now.n c.args.original.now.exists
    c.args.original.now.steps.now c.args.original.now.are_steps c.loop-step.step-index c.loop-step-test.true c.in-OpShell.m c.in-OpShell.is

pub with_op-sum-requires-clause-few : goal.with_op-sum-requires-clause-few
with_op-sum-requires-clause-few c =
    adds_fit c.args.original.now.store.now c.args.original.now.sound c.args.original.now.n c.args.original.now.exists
    c.args.original.now.steps.now c.args.original.now.are_steps c.loop-step.sum c.loop-step.step-index c.loop-step.invariant

pub with_block-sum-requires-clause-b_bound : goal.with_block-sum-requires-clause-b_bound
with_block-sum-requires-clause-b_bound c =
    block_there c.args.original.now.store.now c.args.original.now.sound c.args.original.now.n c.args.original.now.exists
    c.args.original.now.steps.now c.args.original.now.are_steps c.loop-step.step-index c.loop-step-test.true c.in-BlockShell.b c.in-BlockShell.is

pub with_block-sum-requires-clause-few : goal.with_block-sum-requires-clause-few
with_block-sum-requires-clause-few c =
    adds_fit c.args.original.now.store.now c.args.original.now.sound c.args.original.now.n c.args.original.now.exists
    c.args.original.now.steps.now c.args.original.now.are_steps c.loop-step.sum c.loop-step.step-index c.loop-step.invariant

pub loop-step-preserved : goal.loop-step-preserved
loop-step-preserved c =
    let b = c.args.original.now.store.now in
    let ws = c.args.original.now.steps.now in
    let l = c.loop-step in
    let r = c.requires in
    elim c.match-step.branch [
      | in-OpShell w ↦
          adds_op b c.args.original.now.sound c.args.original.now.n c.args.original.now.exists ws c.args.original.now.are_steps l.sum l.step-index l.invariant c.loop-step-test.true c.match-step.sum
          w.in-OpShell.m w.in-OpShell.is (w.sum-is ∙ w.with_op-sum.ensures)
      | in-BlockShell w ↦
          adds_block b c.args.original.now.sound c.args.original.now.n c.args.original.now.exists ws c.args.original.now.are_steps l.sum l.step-index l.invariant c.loop-step-test.true c.match-step.sum
          w.in-BlockShell.b w.in-BlockShell.is (w.sum-is ∙ w.with_block-sum.ensures)
      | in-Names w ↦
          adds_names b c.args.original.now.sound c.args.original.now.n c.args.original.now.exists ws c.args.original.now.are_steps l.sum l.step-index l.invariant c.loop-step-test.true c.match-step.sum
          _ w.in-Names.is w.sum-is
    ]

pub returns : goal.returns
returns c =
    adds_last c.args.original.now.store.now c.args.original.now.sound c.args.original.now.n c.args.original.now.exists
    c.args.original.now.steps.now c.args.original.now.are_steps c.loop-step.sum c.loop-step.step-index c.loop-step.invariant
    c.loop-step-test.false
