-- An offered call that refuses a buffer that isn't sound by 1, or does on a lent one what the call of the same name does, answers as it
-- should. Assumes nothing.
use Rattle.rules.specs.declared.types.Cause.TheVariants.{NotSound}
use Prim.Native.Nat.{ℕ}
use mathlib.Core.Bool.{Bool, true, false, cond}
use mathlib.Core.List.{List}
use mathlib.Core.Path.{◌≡◌, refl, sym, ap, subst, ◌∙◌}
use Rattle.rules.specs.Building.{Built, refused}
use Rattle.rules.specs.Marks.{MarkedCall, marked_answer}
use Rattle.rules.proofs.Basics.Tests.{clash}
use Rattle.layout.specs.MarkedReading.{marked_in, sound_lent}
use Rattle.undo_log.specs.MarkedCalls.{PerformsMarked}
use Rattle.api.specs.Building.{CallAnswers}

module _ (b : List ℕ) (c : MarkedCall) (r : Built) where
  chosen : (t : Bool) → sound_lent b ≡ t → cond (sound_lent b) (marked_answer (marked_in b) c) (refused NotSound) ≡ cond t (marked_answer (marked_in b) c) (refused NotSound)
  chosen t e = ap (λ (x : Bool). cond x (marked_answer (marked_in b) c) (refused NotSound)) e

  pub turned_down : sound_lent b ≡ false → r ≡ refused NotSound → CallAnswers b b c r
  turned_down h q =
      record {
        answered = q ∙ sym (chosen false h);
        reads = λ s. clash s h;
        sound = λ s. s;
        unchanged = λ k z. refl;
      }

  pub taken_up : (exit : List ℕ) → sound_lent b ≡ true → PerformsMarked b exit c r → CallAnswers b exit c r
  taken_up exit h did =
      record {
        answered = did.answered ∙ sym (chosen true h);
        reads = λ s. did.reads;
        sound = λ s. did.sound;
        unchanged = did.unchanged;
      }

-- what is done to the words of a buffer that is found to be sound is done to the buffer
module _ {b w : List ℕ} (same : w ≡ b) (c : MarkedCall) (r : Built) where
  pub taken_over : (exit : List ℕ) → sound_lent w ≡ true → PerformsMarked w exit c r → CallAnswers b exit c r
  taken_over exit h did = subst (λ (x : List ℕ). CallAnswers x exit c r) same (taken_up w c r exit h did)
