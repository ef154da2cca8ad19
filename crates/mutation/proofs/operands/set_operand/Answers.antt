-- `set_operand` meets its contract: it refuses by the first test that fails, and else writes the operand. Assumes nothing.
use native.Mathlib.Omega.{arith}
use mathlib.Core.Path.{◌≡◌, sym, ap}
use Rattle.std.proofs.Common.{rules}
use Rattle.std.specs.Prelude as std
use Rattle.rules.specs.Building.{set_operand}
use Rattle.rules.specs.Causes.{cause_of}
use Rattle.mutation.specs.Types.{done_of}
use Rattle.mutation.proofs.Doing.{did_refuse}
use Rattle.mutation.proofs.OperandDone.{operand_reached, operand_done}
use Rattle.mutation.proofs.operands.set_operand.Goals as goal

pub returns-in_err-operand_cause : goal.returns-in_err-operand_cause
unfolding cause_of done_of
returns-in_err-operand_cause c =
    let a = c.args in
    let e = c.in_err-operand_cause.field-0.0 in
    let told : c.from_residual.result ≡ std.Err e = search rules in
    did_refuse a.store.now c.requires (set_operand (record { operation = a.n; index = a.i; value = a.v })) _ e (sym c.in_err-operand_cause.ensures) (ap done_of told)

pub put_operand-requires : goal.put_operand-requires
unfolding cause_of
put_operand-requires c =
    let a = c.args in
    let reached = operand_reached a.store.now c.requires a.n a.i a.v (sym c.in_ok-operand_cause.ensures) in
    record { n_bound = reached.0; i_bound = reached.1 }

pub returns : goal.returns
unfolding cause_of done_of
returns c =
    let a = c.args in
    operand_done a.store.now c.requires a.n a.i a.v (sym c.in_ok-operand_cause.ensures) c.put_operand.new.store omega arith c.put_operand.ensures
