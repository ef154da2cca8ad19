-- A buffer's words are given exactly where they are sound. Assumes nothing.
use Prim.Native.Nat.{ℕ}
use mathlib.Core.Bool.{true, false}
use mathlib.Core.List.{List}
use mathlib.Core.Path.{◌≡◌, ap, subst, ◌∙◌}
use lib.ListN.{length}
use denote.Ref.{MutBor}
use Rattle.std.specs.Prelude as std
use Rattle.std.specs.Prelude.{MatchOption}
use Rattle.std.specs.Array.{IsWholeChunk}
use Rattle.layout.specs.Columns.{buffer_length}
use Rattle.layout.specs.Soundness.{IsSound}
use Rattle.layout.specs.MarkedReading.{sound_lent}
use Rattle.undo_log.proofs.Lent.{lent_facts}
use Rattle.validation.proofs.Marks.{long_unsound}

-- sound words are of the right length, and so they are an array
pub sound_cases : (b : List ℕ) (r : std.Option (MutBor (List ℕ)))
    → MatchOption r (length b ≡ buffer_length → ⊥) (λ w. IsWholeChunk b w.now buffer_length) → sound_lent b ≡ true
    → MatchOption r (sound_lent b ≡ false) (λ w. (w.now ≡ b) × (sound_lent b ≡ true))
sound_cases b std.None long h = long_unsound b long
sound_cases b (std.Some w) same h = (same.same, h)

module _ (b : List ℕ) {r : std.Option (MutBor (List ℕ))} (cases : MatchOption r (sound_lent b ≡ false) (λ w. (w.now ≡ b) × (sound_lent b ≡ true))) where
  pub not_given : r ≡ std.None → sound_lent b ≡ false
  not_given e = subst (λ (q : std.Option (MutBor (List ℕ))). MatchOption q (sound_lent b ≡ false) (λ w. (w.now ≡ b) × (sound_lent b ≡ true))) e cases

  pub given : {w : MutBor (List ℕ)} → r ≡ std.Some w → (w.now ≡ b) × (sound_lent w.now ≡ true)
  given e =
      let h = subst (λ (q : std.Option (MutBor (List ℕ))). MatchOption q (sound_lent b ≡ false) (λ w. (w.now ≡ b) × (sound_lent b ≡ true))) e cases in
      (h.0, ap sound_lent h.0 ∙ h.1)

-- words that are found to be sound have sound tables
pub words_sound : {b w : List ℕ} → (w ≡ b) × (sound_lent b ≡ true) → IsSound w
words_sound h = (lent_facts _ (ap sound_lent h.0 ∙ h.1)).tables
