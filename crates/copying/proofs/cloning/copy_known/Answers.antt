-- `copy_known` meets its contract: a refusal comes before anything is written, and what is written is the copier's. Assumes nothing.
use mathlib.Core.Path.{◌≡◌, sym, ap, ◌∙◌}
use Rattle.std.proofs.Common.{ℕ, true, subst, rules}
use Rattle.std.specs.Prelude as std
use Rattle.std.specs.Prelude.{None}
use Rattle.rules.specs.Building.{first_failed}
use Rattle.rules.specs.Copying.{copy_tests}
use Rattle.rules.specs.Causes.{cause_of}
use Rattle.rules.specs.declared.types.Cause.{Cause}
use Rattle.copying.specs.Cloned.{Cloned}
use Rattle.layout.specs.Reading.{op_count, store_in}
use Rattle.mutation.specs.Types.{made_of}
use Rattle.undo_log.proofs.Lent.{lent_facts}
use Rattle.copying.specs.Steps.{AreSteps}
use Rattle.copying.proofs.Refusing.{clear_totals, totals_anywhere}
use Rattle.copying.proofs.Deciding.{refused_by, cloned}
use Rattle.copying.proofs.cloning.copy_known.Goals as goal

pub list_steps-walk-requires-clause-sound : goal.list_steps-walk-requires-clause-sound
list_steps-walk-requires-clause-sound c = (lent_facts _ c.requires.lent).tables

pub invariant_of-original : goal.invariant_of-original
unfolding AreSteps
invariant_of-original c =
    record { sound = (lent_facts _ c.requires.lent).tables; exists = c.requires.n_bound; are_steps = c.as_slice-steps.ensures ∙ c.list_steps-walk.ensures }

pub enter_copies-requires : goal.enter_copies-requires
unfolding cause_of
enter_copies-requires c =
    let a = c.args in
    let b = a.store.now in
    let clear : first_failed (copy_tests (store_in b) a.n a.parent) ≡ None = sym c.copy_cause.ensures ∙ ap cause_of c.in_ok-copy_cause.was in
    totals_anywhere b (lent_facts _ c.requires.lent).tables a.n c.requires.n_bound None a.parent
    ∙ clear_totals (store_in b) a.n a.parent clear

pub write_copies-requires-clause-sound : goal.write_copies-requires-clause-sound
write_copies-requires-clause-sound c = (lent_facts _ c.requires.lent).tables

pub write_copies-requires-clause-passed : goal.write_copies-requires-clause-passed
unfolding cause_of
write_copies-requires-clause-passed c = sym c.copy_cause.ensures ∙ ap cause_of c.in_ok-copy_cause.was

pub returns-in_err-copy_cause : goal.returns-in_err-copy_cause
unfolding cause_of made_of
returns-in_err-copy_cause c =
    let a = c.args in
    let e = c.in_err-copy_cause.field-0.0 in
    let told : c.from_residual.result ≡ std.Err e = search rules in
    subst (λ (r : std.Result ℕ Cause). Cloned true a.store.now a.store.now a.mapping.now a.mapping.now a.n a.parent (made_of r)) (sym told)
    (refused_by a.store.now c.requires.lent a.mapping.now a.n a.parent e (sym c.in_err-copy_cause.ensures))

pub returns : goal.returns
unfolding cause_of made_of op_count
returns c =
    let a = c.args in
    cloned a.store.now c.requires.lent a.mapping.now a.n a.parent (sym c.copy_cause.ensures ∙ ap cause_of c.in_ok-copy_cause.was)
    c.write_copies.new.store c.enter_copies.new.mapping c.write_copies.ensures c.at-copy.result c.at-copy.ensures
