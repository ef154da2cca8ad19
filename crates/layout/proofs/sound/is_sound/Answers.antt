-- `is_sound` meets its contract, test by test; each asks for what those before it showed. Assumes nothing.
use Prim.Native.Nat.{ℕ}
use mathlib.Core.List.{List}
use mathlib.Core.Path.{sym, ap, ◌∙◌}
use borrow.Author.Tests.{eq-eqb, ne_eqb}
use lib.ListN.{length}
use Rattle.rules.specs.Store.{sound}
use Rattle.layout.specs.Columns.{columns, buffer_length}
use Rattle.layout.specs.Reading.{store_of}
use Rattle.layout.specs.Soundness.{laid_out, sound_buffer}
use Rattle.layout.proofs.Scans.{stop, next, last}
use Rattle.layout.proofs.sound.is_sound.Goals as goal

pub returns-in_default : goal.returns-in_default
unfolding sound_buffer
returns-in_default c = sym (stop _ _ (ne_eqb (length c.args.store.now) buffer_length c.in_default.ensures.cases))

pub is_ruled-requires : goal.is_ruled-requires
is_ruled-requires c = record { sized = ap length c.in-Some.ensures.cases.same ∙ c.in-Some.ensures.cases.long; laid = sym c.laid_out.ensures ∙ c.if-laid_out.true }

pub returns-then-laid_out : goal.returns-then-laid_out
unfolding sound_buffer
returns-then-laid_out c =
    let w = c.in-Some.ensures.cases in
    sym (next _ _ (eq-eqb (length c.args.store.now) buffer_length w.long)
    (next _ _ (ap (λ (b : List ℕ). laid_out (columns b)) (sym w.same) ∙ sym c.laid_out.ensures ∙ c.if-laid_out.true)
    (last _ (ap (λ (b : List ℕ). sound (store_of (columns b))) (sym w.same) ∙ sym c.is_ruled.ensures))))

pub returns-else-laid_out : goal.returns-else-laid_out
unfolding sound_buffer
returns-else-laid_out c =
    let w = c.in-Some.ensures.cases in
    c.if-laid_out.false
    ∙ sym (next _ _ (eq-eqb (length c.args.store.now) buffer_length w.long)
    (stop _ _ (ap (λ (b : List ℕ). laid_out (columns b)) (sym w.same) ∙ sym c.laid_out.ensures ∙ c.if-laid_out.false)))
