-- `clone_operation` meets its contract: an operation or a parent that isn't there is refused first. Assumes nothing.
use Rattle.rules.specs.declared.types.Cause.TheVariants.{NotThere}
use mathlib.Core.Path.{sym, ◌∙◌}
use Rattle.layout.specs.Columns.{columns}
use Rattle.layout.specs.Reading.{store_in}
use Rattle.layout.proofs.Tabulate.{op_in_lem}
use Rattle.mutation.specs.Types.{made_of}
use Rattle.undo_log.proofs.Lent.{lent_facts}
use Rattle.copying.proofs.Refusing.{no_op_lem, no_parent}
use Rattle.copying.proofs.Deciding.{refused_by}
use Rattle.copying.proofs.cloning.clone_operation.Goals as goal
use Rattle.copying.proofs.cloning.clone_operation.Goals.{then-not-op_exists-via-then-not-op_exists, then-not-op_exists-via-else-not-op_exists+then-not-parent_exists}

pub parent_exists-requires : goal.parent_exists-requires
parent_exists-requires c = (lent_facts _ c.requires.lent).tables

pub returns-then-not-op_exists : goal.returns-then-not-op_exists
unfolding made_of
returns-then-not-op_exists c =
    let a = c.args in
    let s = store_in a.store.now in
    refused_by a.store.now c.requires.lent a.mapping.now a.op a.parent NotThere
    (elim c.then-not-op_exists.branch [
      | then-not-op_exists-via-then-not-op_exists w ↦ no_op_lem s a.op a.parent (sym c.op_exists.ensures ∙ w.if-not-op_exists.true)
      | then-not-op_exists-via-else-not-op_exists+then-not-parent_exists w ↦
          no_parent s a.op a.parent (sym c.op_exists.ensures ∙ w.if-not-op_exists.false)
          (sym w.parent_exists.ensures ∙ w.if-not-parent_exists.true)
    ])

pub copy_known-requires-clause-n_bound : goal.copy_known-requires-clause-n_bound
copy_known-requires-clause-n_bound c = op_in_lem (columns c.args.store.now) c.args.op (sym c.op_exists.ensures ∙ c.if-not-op_exists.false)
