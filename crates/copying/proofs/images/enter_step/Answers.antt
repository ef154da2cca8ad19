-- `enter_step` meets its contract: an operation or a block gets the next number, and its values are a run of numbers of the store. Assumes nothing.
use Rattle.std.proofs.Common.{◌<◌, sym, ap, subst, ◌∙◌, arith}
use Rattle.rules.specs.declared.types.Owner.TheVariants.{Op as of_op, Block as of_block}
use Rattle.rules.specs.Fragments.{step_defines}
use Rattle.layout.specs.Columns.{columns}
use Rattle.layout.specs.Reading.{op_count, block_count, store_in, consecutive}
use Rattle.layout.proofs.Laid.{laid_facts}
use Rattle.equivalence.specs.MappingWords.{mapping_of, values_mapped}
use Rattle.copying.specs.declared.steps.Step.{Step}
use Rattle.copying.specs.Steps.{StepThere, step_of, step_owners}
use Rattle.copying.specs.Images.{CopiesFit, owners_entered, owners_copied}
use Rattle.copying.proofs.Imaged.{owners_none, none_copied, run_fits, op_entered, op_counted_lem, block_entered, block_counted_lem}
use Rattle.copying.proofs.images.enter_step.Goals as goal

-- ---- an operation

pub map_op-requires : goal.map_op-requires
unfolding StepThere
map_op-requires c =
    let there : c.in-OpShell.m < op_count (columns c.args.store.now) = subst (StepThere (columns c.args.store.now)) c.in-OpShell.is c.requires.there in
    omega (arith, (laid_facts (columns c.args.store.now) c.requires.sound.laid).counts.ops)

pub op_row-requires-clause-n_bound : goal.op_row-requires-clause-n_bound
unfolding StepThere
op_row-requires-clause-n_bound c = subst (StepThere (columns c.args.store.now)) c.in-OpShell.is c.requires.there

pub enter_values-requires-clause-copies_bound : goal.enter_values-requires-clause-copies_bound
unfolding step_owners step_of step_defines
enter_values-requires-clause-copies_bound c =
    let fit = subst (λ (x : Step). CopiesFit (store_in c.args.store.now) (step_owners x) c.args.next) c.in-OpShell.is c.requires.copies_fit in
    run_fits (store_in c.args.store.now) (of_op c.in-OpShell.m) fit c.op_row.result.value c.op_row.result.values c.op_row.ensures.values

pub returns-in-OpShell-clause-entered : goal.returns-in-OpShell-clause-entered
unfolding step_owners step_of step_defines
returns-in-OpShell-clause-entered c =
    let a = c.args in
    let r = c.op_row.result in
    c.enter_values.ensures.entered
    ∙ ap (λ m. values_mapped m (consecutive r.value r.values) (consecutive a.next.values r.values)) c.map_op.ensures
    ∙ op_entered (store_in a.store.now) c.in-OpShell.m a.next r.value r.values c.op_row.ensures.values _
    ∙ ap (λ (x : Step). owners_entered (store_in a.store.now) (step_owners x) a.next (mapping_of a.mapping.now)) (sym c.in-OpShell.is)

pub returns-in-OpShell-clause-counted : goal.returns-in-OpShell-clause-counted
unfolding step_owners step_of step_defines
returns-in-OpShell-clause-counted c =
    let a = c.args in
    let r = c.op_row.result in
    c.enter_values.ensures.counted
    ∙ op_counted_lem (store_in a.store.now) c.in-OpShell.m a.next r.value r.values c.op_row.ensures.values
    ∙ ap (λ (x : Step). owners_copied (store_in a.store.now) (step_owners x) a.next) (sym c.in-OpShell.is)

-- ---- a block

pub map_block-requires : goal.map_block-requires
unfolding StepThere
map_block-requires c =
    let there : c.in-BlockShell.b < block_count (columns c.args.store.now) = subst (StepThere (columns c.args.store.now)) c.in-BlockShell.is c.requires.there in
    omega (arith, (laid_facts (columns c.args.store.now) c.requires.sound.laid).counts.blocks)

pub block_row-requires-clause-n_bound : goal.block_row-requires-clause-n_bound
unfolding StepThere
block_row-requires-clause-n_bound c = subst (StepThere (columns c.args.store.now)) c.in-BlockShell.is c.requires.there

pub enter_values-requires-in-BlockShell-clause-copies_bound : goal.enter_values-requires-in-BlockShell-clause-copies_bound
unfolding step_owners step_of step_defines
enter_values-requires-in-BlockShell-clause-copies_bound c =
    let fit = subst (λ (x : Step). CopiesFit (store_in c.args.store.now) (step_owners x) c.args.next) c.in-BlockShell.is c.requires.copies_fit in
    run_fits (store_in c.args.store.now) (of_block c.in-BlockShell.b) fit c.block_row.result.value c.block_row.result.values c.block_row.ensures.values

pub returns-in-BlockShell-clause-entered : goal.returns-in-BlockShell-clause-entered
unfolding step_owners step_of step_defines
returns-in-BlockShell-clause-entered c =
    let a = c.args in
    let r = c.block_row.result in
    c.enter_values-in-BlockShell.ensures.entered
    ∙ ap (λ m. values_mapped m (consecutive r.value r.values) (consecutive a.next.values r.values)) c.map_block.ensures
    ∙ block_entered (store_in a.store.now) c.in-BlockShell.b a.next r.value r.values c.block_row.ensures.values _
    ∙ ap (λ (x : Step). owners_entered (store_in a.store.now) (step_owners x) a.next (mapping_of a.mapping.now)) (sym c.in-BlockShell.is)

pub returns-in-BlockShell-clause-counted : goal.returns-in-BlockShell-clause-counted
unfolding step_owners step_of step_defines
returns-in-BlockShell-clause-counted c =
    let a = c.args in
    let r = c.block_row.result in
    c.enter_values-in-BlockShell.ensures.counted
    ∙ block_counted_lem (store_in a.store.now) c.in-BlockShell.b a.next r.value r.values c.block_row.ensures.values
    ∙ ap (λ (x : Step). owners_copied (store_in a.store.now) (step_owners x) a.next) (sym c.in-BlockShell.is)

-- ---- names

pub returns-in-Names-clause-entered : goal.returns-in-Names-clause-entered
unfolding step_owners step_of step_defines
returns-in-Names-clause-entered c =
    let a = c.args in
    sym (owners_none (store_in a.store.now) a.next (mapping_of a.mapping.now))
    ∙ ap (λ (x : Step). owners_entered (store_in a.store.now) (step_owners x) a.next (mapping_of a.mapping.now)) (sym c.in-Names.is)

pub returns-in-Names-clause-counted : goal.returns-in-Names-clause-counted
unfolding step_owners step_of step_defines
returns-in-Names-clause-counted c =
    let a = c.args in
    sym (none_copied (store_in a.store.now) a.next)
    ∙ ap (λ (x : Step). owners_copied (store_in a.store.now) (step_owners x) a.next) (sym c.in-Names.is)
