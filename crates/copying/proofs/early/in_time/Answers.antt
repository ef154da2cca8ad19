-- `in_time` meets its contract: what is left of the steps, with the numbering that the words stand for, tells of them all. Assumes nothing.
use Rattle.std.proofs.Common.{ℕ, List, [], ◌∷◌, sym, subst, ◌∙◌, lt-ltb}
use Rattle.rules.specs.Store.{Store}
use Rattle.rules.specs.declared.types.Owner.TheVariants.{Op as of_op, Block as of_block}
use Rattle.rules.specs.Fragments.{Step, shell, names, steps}
use Rattle.rules.specs.declared.types.Sort.TheVariants.{Op as op}
use Rattle.layout.specs.Columns.{Cols, columns}
use Rattle.layout.specs.Reading.{op_count, store_in}
use Rattle.layout.proofs.Tabulate.{op_exists_lem}
use Rattle.fragments.specs.Numbered.{Numbers}
use Rattle.copying.proofs.Told.{are_steps_lem, none_left, op_left, block_left, names_left, op_there, block_there, names_there}
use Rattle.copying.proofs.InTime.{timely_begun, timely_over, timely_fits, timely_late, timely_next, names_number, shell_timely}
use Rattle.copying.proofs.early.in_time.Goals as goal
use Rattle.copying.proofs.early.in_time.Goals.{in-OpShell, in-BlockShell, in-Names+else-not-names_in_time}

pub loop-step-init : goal.loop-step-init
loop-step-init c =
    let C : Cols = columns c.args.original.now.store.now in
    let n : ℕ = c.args.original.now.n in
    timely_begun (store_in c.args.original.now.store.now) n c.args.original.now.sound.ruled (op_exists_lem C n ∙ lt-ltb n (op_count C) c.args.original.now.exists)

pub names_in_time-requires : goal.names_in_time-requires
names_in_time-requires c =
    let a = c.args in
    let r = c.requires in
    names_there c.args.original.now.store.now c.args.original.now.sound c.args.original.now.n c.args.original.now.exists c.args.original.now.steps.now c.args.original.now.are_steps c.loop-step.step-index c.loop-step-test.true c.in-Names.m c.in-Names.is

pub returns-then-not-names_in_time : goal.returns-then-not-names_in_time
returns-then-not-names_in_time c =
    let S : Store = store_in c.args.original.now.store.now in
    let n : ℕ = c.args.original.now.n in
    let at = c.loop-step in
    let h = at.invariant in
    timely_late S n (steps S op n) at.step-index h _
    (names_left (steps S op n) c.args.original.now.steps.now (are_steps_lem c.args.original.now.store.now n c.args.original.now.steps.now c.args.original.now.are_steps) at.step-index c.loop-step-test.true c.in-Names.m c.in-Names.is)
    (sym c.if-not-names_in_time.true ∙ c.names_in_time.ensures h.numbering h.stands)

pub define_op-requires-clause-n_bound : goal.define_op-requires-clause-n_bound
define_op-requires-clause-n_bound c =
    let a = c.args in
    let r = c.requires in
    op_there c.args.original.now.store.now c.args.original.now.sound c.args.original.now.n c.args.original.now.exists c.args.original.now.steps.now c.args.original.now.are_steps c.loop-step.step-index c.loop-step-test.true c.in-OpShell.m c.in-OpShell.is

pub define_op-requires-clause-definitions_fit : goal.define_op-requires-clause-definitions_fit
define_op-requires-clause-definitions_fit c =
    let S : Store = store_in c.args.original.now.store.now in
    let n : ℕ = c.args.original.now.n in
    let at = c.loop-step in
    timely_fits S n (steps S op n) at.step-index at.invariant _
    (op_left (steps S op n) c.args.original.now.steps.now (are_steps_lem c.args.original.now.store.now n c.args.original.now.steps.now c.args.original.now.are_steps) at.step-index c.loop-step-test.true c.in-OpShell.m c.in-OpShell.is)

pub define_block-requires-clause-b_bound : goal.define_block-requires-clause-b_bound
define_block-requires-clause-b_bound c =
    let a = c.args in
    let r = c.requires in
    block_there c.args.original.now.store.now c.args.original.now.sound c.args.original.now.n c.args.original.now.exists c.args.original.now.steps.now c.args.original.now.are_steps c.loop-step.step-index c.loop-step-test.true c.in-BlockShell.b c.in-BlockShell.is

pub define_block-requires-clause-definitions_fit : goal.define_block-requires-clause-definitions_fit
define_block-requires-clause-definitions_fit c =
    let S : Store = store_in c.args.original.now.store.now in
    let n : ℕ = c.args.original.now.n in
    let at = c.loop-step in
    timely_fits S n (steps S op n) at.step-index at.invariant _
    (block_left (steps S op n) c.args.original.now.steps.now (are_steps_lem c.args.original.now.store.now n c.args.original.now.steps.now c.args.original.now.are_steps) at.step-index c.loop-step-test.true c.in-BlockShell.b c.in-BlockShell.is)

pub loop-step-preserved : goal.loop-step-preserved
loop-step-preserved c =
    let S : Store = store_in c.args.original.now.store.now in
    let n : ℕ = c.args.original.now.n in
    let ws = c.args.original.now.steps.now in
    let are = are_steps_lem c.args.original.now.store.now n ws c.args.original.now.are_steps in
    let xs : List Step = steps S op n in
    let at = c.loop-step in
    let l = c.loop-step-test.true in
    let h = at.invariant in
    elim c.match-step.branch [
      | in-OpShell w ↦
          let x : Step = shell (of_op w.in-OpShell.m) in
          timely_next S n xs at.step-index h x (op_left xs ws are at.step-index l w.in-OpShell.m w.in-OpShell.is) (shell_timely S n _ h.numbering)
          (subst (λ (b : List ℕ). Numbers S (x ∷ []) at.numbers b) (sym w.numbers-is) w.define_op.ensures)
      | in-BlockShell w ↦
          let x : Step = shell (of_block w.in-BlockShell.b) in
          timely_next S n xs at.step-index h x (block_left xs ws are at.step-index l w.in-BlockShell.b w.in-BlockShell.is) (shell_timely S n _ h.numbering)
          (subst (λ (b : List ℕ). Numbers S (x ∷ []) at.numbers b) (sym w.numbers-is) w.define_block.ensures)
      | in-Names+else-not-names_in_time w ↦
          let m : ℕ = w.in-Names.m in
          timely_next S n xs at.step-index h (names m) (names_left xs ws are at.step-index l m w.in-Names.is)
          (sym w.if-not-names_in_time.false ∙ w.names_in_time.ensures h.numbering h.stands)
          (subst (λ (b : List ℕ). Numbers S (names m ∷ []) at.numbers b) (sym w.numbers-is) (names_number S m at.numbers))
    ]

pub returns : goal.returns
returns c =
    let S : Store = store_in c.args.original.now.store.now in
    let n : ℕ = c.args.original.now.n in
    let at = c.loop-step in
    timely_over S n (steps S op n) at.step-index at.invariant
    (none_left (steps S op n) c.args.original.now.steps.now (are_steps_lem c.args.original.now.store.now n c.args.original.now.steps.now c.args.original.now.are_steps) at.step-index c.loop-step-test.false)
