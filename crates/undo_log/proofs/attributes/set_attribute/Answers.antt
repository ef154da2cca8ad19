-- `set_attribute` meets its contract: with no mark set by the call on a sound buffer, and else by where the attribute goes. Assumes nothing.
use Rattle.std.proofs.lemmas.Grind.{common_steps}
use native.Mathlib.Omega.{arith}
use mathlib.Core.Path.{◌≡◌, sym, ap, ◌∙◌}
use Rattle.std.proofs.Common.{rules}
use Rattle.std.specs.Prelude as std
use Rattle.rules.specs.Building.{set_attribute}
use Rattle.rules.specs.Causes.{cause_of}
use Rattle.mutation.specs.Types.{done_of}
use Rattle.layout.specs.MarkedReading.{mark_count}
use Rattle.undo_log.proofs.Done.{marked_refuse}
use Rattle.undo_log.proofs.Unremembered.{unmarked_call}
use Rattle.undo_log.proofs.attributes.set_attribute.Goals as goal

pub returns-then-at-eq0 : goal.returns-then-at-eq0
unfolding mark_count
returns-then-at-eq0 c =
    unmarked_call c.args.store.now c.requires _ _ _ c.set_attribute.ensures (sym c.at.ensures ∙ c.if-at-eq0.true)

pub returns-in_err-slot : goal.returns-in_err-slot
unfolding cause_of done_of
returns-in_err-slot c =
    let a = c.args in
    let e = c.in_err-slot.field-0.0 in
    let told : c.from_residual.result ≡ std.Err e = search rules in
    marked_refuse a.store.now c.requires (set_attribute a.owner a.attribute) _ e
    (sym c.in_err-slot.ensures.refused) (ap done_of told)

pub replace_attribute-requires : goal.replace_attribute-requires
unfolding mark_count cause_of
replace_attribute-requires c = grind (arith, common_steps)

pub add_attribute-requires : goal.add_attribute-requires
unfolding mark_count cause_of
add_attribute-requires c = grind (arith, common_steps)

pub returns-in-Adds : goal.returns-in-Adds
unfolding done_of
returns-in-Adds c = c.add_attribute.ensures
