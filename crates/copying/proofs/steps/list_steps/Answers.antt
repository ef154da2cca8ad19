-- `list_steps` meets its contract: the shell is the first step, and the operation in full the others; there is room for the steps of every walk. Assumes nothing.
use Rattle.std.proofs.Common.{◌<◌, List, [], ◌∷◌, ◌++◌, length, sym, ap, subst, ◌∙◌, arith}
use borrow.Author.Tests.{lt-ltb}
use Rattle.rules.specs.declared.types.Owner.TheVariants.{Op as of_op}
use Rattle.rules.specs.Fragments.{shell, steps}
use Rattle.rules.specs.declared.types.Sort.TheVariants.{Op as op}
use Rattle.rules.specs.Fragments as rules
use Rattle.layout.specs.Columns.{columns}
use Rattle.layout.specs.Reading.{store_in}
use Rattle.layout.proofs.Laid.{laid_facts}
use Rattle.layout.proofs.Tabulate.{op_exists_lem}
use Rattle.fragments.specs.Parts.{full_steps}
use Rattle.fragments.proofs.Rounds.{op_steps}
use Rattle.copying.specs.declared.steps.Step.{Step}
use Rattle.copying.specs.declared.steps.Step.TheVariants.{OpShell}
use Rattle.copying.specs.Steps.{steps_listed, StepsFit, AreSteps, step_of}
use Rattle.copying.proofs.Listing.{listed_one, listed_then, fit_rest}
use Rattle.copying.proofs.FewSteps.{few_steps}
use Rattle.copying.proofs.steps.list_steps.Goals as goal

pub overflow_cast-n : goal.overflow_cast-n
overflow_cast-n c =
    let few : c.args.n < 512 = omega (arith, (laid_facts (columns c.args.store.now) c.requires.sound.laid).counts.ops, c.requires.n_bound) in
    record { fits = omega (arith, few) }

pub list_op_full-requires-clause-steps_fit : goal.list_op_full-requires-clause-steps_fit
unfolding step_of
list_op_full-requires-clause-steps_fit c =
    let S = store_in c.args.store.now in
    let n = c.args.n in
    let few = few_steps S c.requires.sound.ruled n (op_exists_lem (columns c.args.store.now) n ∙ lt-ltb n _ c.requires.n_bound) in
    let all : StepsFit (steps S op n) c.new-walk.result = record { room = omega (arith, few, ap length c.new-walk.ensures) } in
    let parts = subst (λ (xs : List rules.Step). StepsFit xs c.new-walk.result) (op_steps S n) all in
    fit_rest (shell (of_op n) ∷ []) (full_steps S n) parts (listed_one (OpShell n) c.push.ensures)

pub returns : goal.returns
unfolding step_of AreSteps
returns c =
    let S = store_in c.args.store.now in
    let n = c.args.n in
    (listed_then (shell (of_op n) ∷ []) (full_steps S n) (listed_one (OpShell n) c.push.ensures) c.list_op_full.ensures).read
    ∙ ap (λ (w : List Step). w ++ steps_listed ((shell (of_op n) ∷ []) ++ full_steps S n)) c.new-walk.ensures
    ∙ ap steps_listed (sym (op_steps S n))
