-- `new_operation` meets its contract: it refuses by the first test that fails, or writes what the rules say. Assumes nothing.
use native.Mathlib.Omega.{arith}
use mathlib.Core.Path.{◌≡◌, sym, ap}
use Rattle.std.proofs.Common.{rules}
use Rattle.std.specs.Prelude as std
use Rattle.rules.specs.Building.{new_operation, made}
use Rattle.layout.specs.Reading.{op_count}
use Rattle.rules.specs.Causes.{cause_of}
use Rattle.mutation.specs.Types.{operation_of, made_of}
use Rattle.mutation.proofs.Doing.{did_refuse}
use Rattle.mutation.proofs.Operating.{allowed}
use Rattle.mutation.proofs.Done.{operation_done}
use Rattle.mutation.proofs.operations.new_operation.Goals as goal

pub returns-in_err-operation_cause : goal.returns-in_err-operation_cause
unfolding cause_of made_of
returns-in_err-operation_cause c =
    let a = c.args in
    let e = c.in_err-operation_cause.field-0.0 in
    let told : c.from_residual.result ≡ std.Err e = search rules in
    did_refuse a.store.now c.requires (new_operation (operation_of a.fields a.types.now a.operands.now a.successors.now)) _ e
    (sym c.in_err-operation_cause.ensures) (ap made_of told)

pub put_operation-requires : goal.put_operation-requires
unfolding cause_of
put_operation-requires c =
    let a = c.args in
    let ok = allowed a.store.now c.requires (operation_of a.fields a.types.now a.operands.now a.successors.now) (sym c.in_ok-operation_cause.ensures) in
    record { arranged = record { sized = c.requires.sized; laid = c.requires.laid }; parent_value = ok.parent; op_room = ok.room }

pub returns : goal.returns
unfolding cause_of made_of op_count
returns c =
    let a = c.args in
    operation_done a.store.now c.requires c.put_operation.new.store omega arith _
    (operation_of a.fields a.types.now a.operands.now a.successors.now)
    (sym c.in_ok-operation_cause.ensures) c.put_operation.ensures (ap made c.at-n.ensures)
