-- `write_copies` meets its contract: each step writes the next copy, and behind the last step all copies are there. Assumes nothing.
use Rattle.std.proofs.Common.{refl}
use Rattle.copying.proofs.Walking.{starts, ends, step_ready, goes_on}
use Rattle.copying.proofs.writing.write_copies.Goals as goal

pub loop-step-init : goal.loop-step-init
loop-step-init c =
    let r = c.requires in
    starts c.args.store.now r.sound c.args.n r.n_bound c.args.parent r.passed c.args.steps.now r.are_steps c.args.mapping.now r.mapped

pub copy_step-requires-clause-ready : goal.copy_step-requires-clause-ready
copy_step-requires-clause-ready c =
    let r = c.requires in
    step_ready c.args.store.now r.sound c.args.n r.n_bound c.args.parent r.passed c.args.steps.now r.are_steps c.args.mapping.now r.mapped
    c.loop-step.step-index c.loop-step.store c.loop-step.invariant c.loop-step-test.true _ refl

pub loop-step-preserved : goal.loop-step-preserved
loop-step-preserved c =
    let r = c.requires in
    goes_on c.args.store.now r.sound c.args.n r.n_bound c.args.parent r.passed c.args.steps.now r.are_steps c.args.mapping.now r.mapped
    c.loop-step.step-index c.loop-step.store c.loop-step.invariant c.loop-step-test.true _ refl c.copy_step.new.store c.copy_step.ensures

pub returns : goal.returns
returns c =
    let r = c.requires in
    ends c.args.store.now r.sound c.args.n r.n_bound c.args.parent r.passed c.args.steps.now r.are_steps c.args.mapping.now r.mapped
    c.loop-step.step-index c.loop-step.store c.loop-step.invariant c.loop-step-test.false
