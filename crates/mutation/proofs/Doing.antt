-- A call that refuses by the first test that fails and changes nothing, or passes them all and writes what the rules say, does what a
-- call has to. Assumes nothing.
use Rattle.rules.specs.declared.types.Cause.{Cause}
use Prim.Native.Nat.{ℕ}
use native.Mathlib.Omega.{arith}
use mathlib.Core.Bool.{true}
use mathlib.Core.List.{List}
use Rattle.std.specs.Prelude.{Option, None, Some}
use mathlib.Core.Path.{◌≡◌, refl, sym, ap, subst, ◌∙◌}
use lib.ListN.{length}
use Rattle.rules.specs.Store.{Store, sound}
use Rattle.rules.specs.Building.{Call, Built, new_operation, new_block, set_attribute, set_operand, refused, tests, first_failed, applied, acceptance, answer_by, store_by, answer, built}
use Rattle.rules.proofs.Soundness.Kept.{built_sound}
use Rattle.layout.specs.Columns.{columns}
use Rattle.layout.specs.Reading.{store_of, store_in}
use Rattle.layout.specs.Soundness.{IsSound}
use Rattle.layout.proofs.Laid.{Laid, laid_of}
use Rattle.mutation.specs.Doing.{Behind, Performs}

-- an accepted call is not refused
never : (s : Store) (c : Call) (cause : Cause) → acceptance s c ≡ refused cause → ⊥
unfolding acceptance
never s (new_operation o) cause h = let z : ◌≡◌ {A = ℕ} 0 1 = cc in omega arith
never s (new_block b) cause h = let z : ◌≡◌ {A = ℕ} 0 1 = cc in omega arith
never s (set_attribute w a) cause h = let z : ◌≡◌ {A = ℕ} 0 1 = cc in omega arith
never s (set_operand u) cause h = let z : ◌≡◌ {A = ℕ} 0 1 = cc in omega arith

module _ (b : List ℕ) (h : IsSound b) (c : Call) (r : Built) where
  pub did_refuse : (cause : Cause) → first_failed (tests (store_in b) c) ≡ Some cause → r ≡ refused cause → Performs b b c r
  unfolding answer built answer_by store_by
  did_refuse cause e q =
      record {
        answered = q ∙ sym (ap (λ (o : Option Cause). answer_by o (store_in b) c) e);
        reads = sym (ap (λ (o : Option Cause). store_by o (store_in b) c) e);
        sound = h;
        unchanged = λ k z. refl;
        behind = record { words = λ k l. refl; marks = refl; regions = λ n l. refl; results = λ n l. refl; arguments = λ m l. refl };
      }

  pub did_work : (exit : List ℕ) → first_failed (tests (store_in b) c) ≡ None → length exit ≡ length b
      → store_of (columns exit) ≡ applied (store_of (columns b)) c → Laid (columns exit) → Behind (columns b) (columns exit) → r ≡ acceptance (store_in b) c → Performs b exit c r
  unfolding answer built answer_by store_by
  did_work exit e len reads laid after q =
      let made : built (store_of (columns b)) c ≡ applied (store_of (columns b)) c = ap (λ (o : Option Cause). store_by o (store_of (columns b)) c) e in
      record {
        answered = q ∙ sym (ap (λ (o : Option Cause). answer_by o (store_of (columns b)) c) e);
        reads = reads ∙ sym made;
        sound =
            record {
              sized = len ∙ h.sized;
              laid = laid_of (columns exit) laid;
              ruled = subst (λ (s : Store). sound s ≡ true) (made ∙ sym reads) (built_sound (store_of (columns b)) c h.ruled);
            };
        unchanged = λ k z. absurd (never (store_of (columns b)) c k (sym q ∙ z));
        behind = after;
      }
