-- `copy_step` meets its contract: it tells of an operation's shell, of a block's, or of neither. Assumes nothing.
use Rattle.std.proofs.Common.{ℕ, sym, ap, subst, ◌∙◌, arith}
use Rattle.std.specs.Prelude.{Option}
use Rattle.rules.specs.Store.{parent_exists}
use Rattle.layout.specs.Columns.{columns}
use Rattle.layout.specs.Reading.{store_in}
use Rattle.layout.proofs.Tabulate.{ops_length, blocks_length}
use Rattle.equivalence.specs.MappingWords.{mapping_of}
use Rattle.copying.specs.Written.{OpStep, BlockStep, StepReady, op_made, step_made}
use Rattle.copying.proofs.Wrote.{wrote_none, wrote_as}
use Rattle.copying.proofs.writing.copy_step.Goals as goal
use Rattle.copying.proofs.writing.copy_step.Goals.{In-OpShell, In-BlockShell}

op_ready : (c : In-OpShell) → OpStep (store_in c.args.store.now) (mapping_of c.args.mapping.now) c.args.n c.args.parent c.in-OpShell.m
unfolding StepReady
op_ready c = subst (StepReady (store_in c.args.store.now) (mapping_of c.args.mapping.now) c.args.n c.args.parent) c.in-OpShell.is c.requires.ready

block_ready : (c : In-BlockShell) → BlockStep (store_in c.args.store.now) (mapping_of c.args.mapping.now) c.in-BlockShell.b
unfolding StepReady
block_ready c = subst (StepReady (store_in c.args.store.now) (mapping_of c.args.mapping.now) c.args.n c.args.parent) c.in-BlockShell.is c.requires.ready

pub parent_copy-under-requires-clause-m_bound : goal.parent_copy-under-requires-clause-m_bound
parent_copy-under-requires-clause-m_bound c =
    let ready = op_ready ((goal.at.parent_copy-under-requires-clause-m_bound c).In-OpShell) in
    omega (arith, ready.op_in, ops_length (columns c.args.store.now))

pub copy_op-requires-clause-m_bound : goal.copy_op-requires-clause-m_bound
copy_op-requires-clause-m_bound c =
    let ready = op_ready ((goal.at.copy_op-requires-clause-m_bound c).In-OpShell) in
    omega (arith, ready.op_in, ops_length (columns c.args.store.now))

pub copy_op-requires-clause-parent_value : goal.copy_op-requires-clause-parent_value
copy_op-requires-clause-parent_value c =
    let ready = op_ready ((goal.at.copy_op-requires-clause-parent_value c).In-OpShell) in
    ap (parent_exists (store_in c.args.store.now)) c.parent_copy-under.ensures ∙ ready.parent_in

pub copy_op-requires-clause-ready : goal.copy_op-requires-clause-ready
copy_op-requires-clause-ready c =
    let ready = op_ready ((goal.at.copy_op-requires-clause-ready c).In-OpShell) in
    ready.op

pub copy_block-requires-clause-b_bound : goal.copy_block-requires-clause-b_bound
copy_block-requires-clause-b_bound c =
    let ready = block_ready ((goal.at.copy_block-requires-clause-b_bound c).In-BlockShell) in
    omega (arith, ready.block_in, blocks_length (columns c.args.store.now))

pub copy_block-requires-clause-ready : goal.copy_block-requires-clause-ready
copy_block-requires-clause-ready c =
    let ready = block_ready ((goal.at.copy_block-requires-clause-ready c).In-BlockShell) in
    ready.block

pub returns-in-OpShell : goal.returns-in-OpShell
unfolding step_made
returns-in-OpShell c =
    let s = store_in c.args.store.now in
    let M = mapping_of c.args.mapping.now in
    wrote_as c.args.store.now c.copy_op.new.store _ _
    (ap (λ (p : Option ℕ). op_made s M p c.in-OpShell.m) c.parent_copy-under.ensures
    ∙ ap (step_made s M c.args.n c.args.parent) (sym c.in-OpShell.is))
    c.copy_op.ensures

pub returns-in-BlockShell : goal.returns-in-BlockShell
unfolding step_made
returns-in-BlockShell c =
    wrote_as c.args.store.now c.copy_block.new.store _ _
    (ap (step_made (store_in c.args.store.now) (mapping_of c.args.mapping.now) c.args.n c.args.parent) (sym c.in-BlockShell.is))
    c.copy_block.ensures

pub returns-in-Names : goal.returns-in-Names
unfolding step_made
returns-in-Names c =
    wrote_as c.args.store.now c.args.store.now _ _
    (ap (step_made (store_in c.args.store.now) (mapping_of c.args.mapping.now) c.args.n c.args.parent) (sym c.in-Names.is))
    (wrote_none c.args.store.now c.requires.arranged)
