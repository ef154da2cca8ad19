-- `enter_copies` meets its contract: what is left to enter, entered in the mapping as it is with the next numbers, is the whole mapping of the copy.
-- Assumes nothing.
use Rattle.std.proofs.Common.{ℕ, refl, sym, ◌∙◌, lt-ltb}
use Rattle.rules.specs.Store.{Store}
use Rattle.rules.specs.Fragments.{steps}
use Rattle.rules.specs.declared.types.Sort.TheVariants.{Op as op}
use Rattle.rules.proofs.Soundness.Sound.{facts}
use Rattle.layout.specs.Columns.{Cols, columns}
use Rattle.layout.specs.Reading.{op_count, block_count, value_count, store_in}
use Rattle.layout.proofs.Tabulate.{op_exists_lem, ops_length, blocks_length, values_length}
use Rattle.copying.proofs.Told.{are_steps_lem, no_owners_left, step_owners_left, step_there}
use Rattle.copying.proofs.Imaged.{emptied, entering_begun, entering_over, entering_fits, entering_next}
use Rattle.copying.proofs.images.enter_copies.Goals as goal

pub loop-step-init : goal.loop-step-init
unfolding op_count block_count value_count
loop-step-init c =
    let C : Cols = columns c.args.original.now.store.now in
    let S : Store = store_in c.args.original.now.store.now in
    let n : ℕ = c.args.original.now.n in
    entering_begun S n (facts S c.args.original.now.sound.ruled) (op_exists_lem C n ∙ lt-ltb n (op_count C) c.args.original.now.exists) c.requires
    (c.number.ensures ∙ sym (ops_length C), c.number-2.ensures ∙ sym (blocks_length C), c.number-3.ensures ∙ sym (values_length C))
    c.fill.new.self
    (emptied c.args.mapping.now c.fill.new.self c.told-mapping (c.fill.ensures.after (λ y e. e)))

pub enter_step-next-requires-clause-there : goal.enter_step-next-requires-clause-there
enter_step-next-requires-clause-there c =
    let a = c.args in
    let r = c.requires in
    step_there c.args.original.now.store.now c.args.original.now.sound c.args.original.now.n c.args.original.now.exists c.args.original.now.steps.now c.args.original.now.are_steps c.loop-step.step-index c.loop-step-test.true _ refl

pub enter_step-next-requires-clause-copies_fit : goal.enter_step-next-requires-clause-copies_fit
enter_step-next-requires-clause-copies_fit c =
    let S : Store = store_in c.args.original.now.store.now in
    let n : ℕ = c.args.original.now.n in
    let are = are_steps_lem c.args.original.now.store.now n c.args.original.now.steps.now c.args.original.now.are_steps in
    let at = c.loop-step in
    entering_fits S n at.step-index at.invariant _ (step_owners_left (steps S op n) c.args.original.now.steps.now are at.step-index c.loop-step-test.true _ refl)

pub loop-step-preserved : goal.loop-step-preserved
loop-step-preserved c =
    let S : Store = store_in c.args.original.now.store.now in
    let n : ℕ = c.args.original.now.n in
    let are = are_steps_lem c.args.original.now.store.now n c.args.original.now.steps.now c.args.original.now.are_steps in
    let at = c.loop-step in
    entering_next S n at.step-index at.invariant _ (step_owners_left (steps S op n) c.args.original.now.steps.now are at.step-index c.loop-step-test.true _ refl)
    c.enter_step-next.ensures.counted c.enter_step-next.ensures.entered

pub returns : goal.returns
returns c =
    let S : Store = store_in c.args.original.now.store.now in
    let n : ℕ = c.args.original.now.n in
    let are = are_steps_lem c.args.original.now.store.now n c.args.original.now.steps.now c.args.original.now.are_steps in
    let at = c.loop-step in
    entering_over S n at.step-index at.invariant (no_owners_left (steps S op n) c.args.original.now.steps.now are at.step-index c.loop-step-test.false)
