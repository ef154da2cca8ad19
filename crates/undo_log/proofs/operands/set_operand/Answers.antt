-- `set_operand` meets its contract: with no mark set by the call on a sound buffer, and else by the tests in their order. Assumes nothing.
use Rattle.std.proofs.lemmas.Grind.{common_steps}
use native.Mathlib.Omega.{arith}
use mathlib.Core.Path.{◌≡◌, sym, ap, ◌∙◌}
use Rattle.std.proofs.Common.{rules}
use Rattle.std.specs.Prelude as std
use Rattle.rules.specs.Building.{set_operand}
use Rattle.rules.specs.Causes.{cause_of}
use Rattle.mutation.specs.Types.{done_of}
use Rattle.layout.specs.MarkedReading.{mark_count}
use Rattle.undo_log.proofs.Done.{marked_refuse}
use Rattle.undo_log.proofs.Unremembered.{unmarked_call}
use Rattle.undo_log.proofs.operands.set_operand.Goals as goal

pub returns-then-at-eq0 : goal.returns-then-at-eq0
unfolding mark_count
returns-then-at-eq0 c =
    unmarked_call c.args.store.now c.requires _ _ _ c.set_operand.ensures (sym c.at.ensures ∙ c.if-at-eq0.true)

pub returns-in_err-operand_cause : goal.returns-in_err-operand_cause
unfolding cause_of done_of
returns-in_err-operand_cause c =
    let a = c.args in
    let e = c.in_err-operand_cause.field-0.0 in
    let told : c.from_residual.result ≡ std.Err e = search rules in
    marked_refuse a.store.now c.requires (set_operand (record { operation = a.n; index = a.i; value = a.v })) _ e
    (sym c.in_err-operand_cause.ensures) (ap done_of told)

pub replace_operand-requires : goal.replace_operand-requires
unfolding mark_count cause_of
replace_operand-requires c = grind (arith, common_steps)
