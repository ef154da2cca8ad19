-- A copying call that refuses by the first test that fails leaves store and mapping as they were, and one that passes them all leaves the
-- copier's. Assumes nothing.
use Rattle.rules.specs.declared.types.Cause.{Cause}
use Rattle.rules.specs.declared.types.Cause.TheVariants.{BadMapping}
use Prim.Native.Nat.{ℕ}
use native.Mathlib.Omega.{arith}
use mathlib.Core.Bool.{Bool, true, false}
use mathlib.Core.List.{List}
use Rattle.std.specs.Prelude.{Option, None, Some}
use mathlib.Core.Path.{◌≡◌, refl, sym, ap, ◌∙◌}
use Rattle.rules.specs.Building.{made, refused, first_failed}
use Rattle.rules.specs.Copying.{copy_tests}
use Rattle.rules.specs.Marks.{copy, marked_tests, marked_acceptance}
use Rattle.layout.specs.Columns.{columns}
use Rattle.layout.specs.Reading.{op_count, store_in}
use Rattle.layout.proofs.Tabulate.{ops_length}
use Rattle.layout.specs.Journal.{marked_of}
use Rattle.layout.specs.MarkedReading.{journaled_of, marked_in, IsLent}
use Rattle.undo_log.proofs.Doing as doing
use Rattle.copying.specs.Cloned.{Written, Mapped, Cloned}
use Rattle.copying.proofs.Standing.{written_done}

-- a refusal is no number, and a number is no refusal
never_made : (cause : Cause) (k : ℕ) → refused cause ≡ made k → ⊥
never_made cause k h = let z : ◌≡◌ {A = ℕ} 0 1 = cc in omega arith

never_refused : (cause : Cause) (k : ℕ) → made k ≡ refused cause → ⊥
never_refused cause k h = let z : ◌≡◌ {A = ℕ} 0 1 = cc in omega arith

-- a refusal leaves the mapping as it was
pub unmapped : (b m : List ℕ) (n : ℕ) (cause : Cause) → Mapped b n m m (refused cause)
unmapped b m n cause = record { accepted = λ k q. absurd (never_made cause k q); unchanged = λ k q. refl }

module _ (b : List ℕ) (h : IsLent b) (m : List ℕ) (n : ℕ) (place : Option ℕ) where
  refused_as : (ok : Bool) (cause : Cause) → first_failed (marked_tests (marked_in b) (copy ok n place)) ≡ Some cause
      → Cloned ok b b m m n place (refused cause)
  refused_as ok cause e =
      record {
        did = doing.marked_refuse b (copy ok n place) (refused cause) h cause e refl;
        mapping = unmapped b m n cause;
      }

  pub refused_by : (cause : Cause) → first_failed (copy_tests (store_in b) n place) ≡ Some cause → Cloned true b b m m n place (refused cause)
  unfolding marked_tests first_failed marked_of journaled_of
  refused_by cause e = refused_as true cause e

  -- the lent mapping is not allowed
  pub refused_mapping : Cloned false b b m m n place (refused BadMapping)
  unfolding marked_tests first_failed marked_of journaled_of
  refused_mapping = refused_as false BadMapping refl

  module _ (clear : first_failed (copy_tests (store_in b) n place) ≡ None) (exit after : List ℕ) (w : Written b exit n place after) where
    pub cloned : (k : ℕ) → k ≡ op_count (columns b) → Cloned true b exit m after n place (made k)
    unfolding marked_acceptance marked_of journaled_of
    cloned k e =
        record {
          did = written_done b h n place clear exit after w (made k) (ap made (e ∙ sym (ops_length (columns b))));
          mapping = record { accepted = λ i q. w.mapped; unchanged = λ cause q. absurd (never_refused cause k q) };
        }
