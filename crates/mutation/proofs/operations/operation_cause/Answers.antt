-- `operation_cause` meets its contract: the first test that fails is the answer. Assumes nothing.
use native.Mathlib.Omega.{arith}
use mathlib.Core.Path.{sym, ◌∙◌}
use Rattle.std.proofs.lemmas.Grind.{common_steps}
use Rattle.rules.specs.Building.{tests, first_failed}
use Rattle.mutation.specs.Types.{operation_of}
use Rattle.rules.specs.Causes.{cause_of}
use Rattle.mutation.proofs.Operating.{names_parent}
use Rattle.mutation.proofs.operations.operation_cause.Goals as goal

pub returns-then-not-operation_names : goal.returns-then-not-operation_names
unfolding tests first_failed cause_of
returns-then-not-operation_names c = grind (arith, common_steps, c.operation_names.ensures c.args.types.now)

pub returns-then-not-operation_fits : goal.returns-then-not-operation_fits
unfolding tests first_failed cause_of
returns-then-not-operation_fits c = grind (arith, common_steps, c.operation_names.ensures c.args.types.now)

pub returns-then-not-nesting_holds : goal.returns-then-not-nesting_holds
unfolding tests first_failed cause_of
returns-then-not-nesting_holds c = grind (arith, common_steps, c.operation_names.ensures c.args.types.now)

pub returns-then-not-operation_room : goal.returns-then-not-operation_room
unfolding tests first_failed cause_of
returns-then-not-operation_room c = grind (arith, common_steps, c.operation_names.ensures c.args.types.now)

pub returns : goal.returns
unfolding tests first_failed cause_of
returns c = grind (arith, common_steps, c.operation_names.ensures c.args.types.now)

pub nesting_holds-requires : goal.nesting_holds-requires
nesting_holds-requires c =
    let a = c.args in
    record {
      sound = c.requires;
      parent_value = names_parent a.store.now c.requires (operation_of a.fields a.types.now a.operands.now a.successors.now)
          (sym (c.operation_names.ensures _) ∙ c.if-not-operation_names.false);
    }
