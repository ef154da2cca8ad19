-- `operand_cause` meets its contract: it makes the tests in their order. Assumes nothing.
use Prim.Native.Nat.{◌<◌, ◌≤◌}
use native.Mathlib.Omega.{arith}
use mathlib.Core.Path.{sym, ◌∙◌}
use Rattle.std.proofs.lemmas.Bool.Decides.{nat_tests}
use Rattle.rules.specs.Lists.{every}
use Rattle.rules.specs.Building.{tests, first_failed}
use Rattle.layout.specs.Columns.{columns}
use Rattle.layout.specs.Reading.{op_count}
use Rattle.rules.specs.Causes.{cause_of}
use Rattle.layout.proofs.Tabulate.{op_in_lem}
use Rattle.mutation.proofs.Facts.{laid}
use Rattle.mutation.proofs.OperandCauses.{indexed}
use Rattle.mutation.proofs.operands.operand_cause.Goals as goal

pub returns-then-not-op_exists : goal.returns-then-not-op_exists
unfolding cause_of tests first_failed every
returns-then-not-op_exists c = grind (arith, nat_tests)

pub at-first-requires : goal.at-first-requires
at-first-requires c =
    let a = c.args in
    let C = columns a.store.now in
    let l : a.n < op_count C = op_in_lem C a.n (sym c.op_exists.ensures ∙ c.if-not-op_exists.false) in
    let few : op_count C ≤ 512 = (laid a.store.now c.requires).counts.ops in
    record { column_lt_column_count = omega arith; n_bound = omega arith }

pub at-requires : goal.at-requires
at-requires c =
    let a = c.args in
    let C = columns a.store.now in
    let l : a.n < op_count C = op_in_lem C a.n (sym c.op_exists.ensures ∙ c.if-not-op_exists.false) in
    let few : op_count C ≤ 512 = (laid a.store.now c.requires).counts.ops in
    record { column_lt_column_count = omega arith; n_bound = omega arith }

pub overflow_sub-at : goal.overflow_sub-at
overflow_sub-at c =
    let a = c.args in
    let C = columns a.store.now in
    let k =
    ((laid a.store.now c.requires).op a.n (op_in_lem C a.n (sym c.op_exists.ensures ∙ c.if-not-op_exists.false))).operands.range.rises in
    omega arith

pub returns-then-i-at : goal.returns-then-i-at
unfolding cause_of tests first_failed every
returns-then-i-at c =
    let a = c.args in
    let own = indexed a.store.now c.requires a.n a.i a.v (op_in_lem (columns a.store.now) a.n (sym c.op_exists.ensures ∙ c.if-not-op_exists.false)) in
    grind (arith, nat_tests, own)

pub returns : goal.returns
unfolding cause_of tests first_failed every
returns c =
    let a = c.args in
    let own = indexed a.store.now c.requires a.n a.i a.v (op_in_lem (columns a.store.now) a.n (sym c.op_exists.ensures ∙ c.if-not-op_exists.false)) in
    grind (arith, nat_tests, own)
