-- `entry_at` meets its contract: the entry's sort says what it tells. Assumes nothing.
use Prim.Native.Nat.{ℕ, zero, suc, ◌<◌}
use native.Mathlib.Nat.{not-suc-le-zero, le_of_suc-le-suc}
use native.Mathlib.Omega.{arith}
use mathlib.Core.Path.{◌≡◌, refl, sym, ◌∙◌}
use Rattle.layout.specs.MarkedReading.{entry_from, entry_at}
use Rattle.undo_log.specs.Entries.{words_of, entry_of}
use Rattle.undo_log.proofs.entries.entry_at.Goals as goal

pub returns-in-0 : goal.returns-in-0
unfolding entry_of words_of entry_from entry_at
returns-in-0 c =
    λ j. entry_from ((sym c.in-0.is ∙ c.at.ensures) j) (c.at-owner.ensures j) (c.at-key.ensures j) (c.at-kind.ensures j) (c.at-content.ensures j)

pub returns-in-1 : goal.returns-in-1
unfolding entry_of words_of entry_from entry_at
returns-in-1 c =
    λ j. entry_from ((sym c.in-1.is ∙ c.at.ensures) j) (c.at-owner.ensures j) (c.at-key.ensures j) (c.at-kind.ensures j) (c.at-content.ensures j)

-- any sort but these two is a new key
new_key : (sort owner key kind content : ℕ) → 1 < sort → entry_from 2 owner key 0 0 ≡ entry_from sort owner key kind content
unfolding entry_from
new_key zero owner key kind content l = absurd (not-suc-le-zero l)
new_key (suc zero) owner key kind content l = absurd (not-suc-le-zero (le_of_suc-le-suc l))
new_key (suc (suc n)) owner key kind content l = refl

pub returns-in_default : goal.returns-in_default
unfolding entry_of words_of entry_at
returns-in_default c =
    new_key c.at.result _ _ c.at-kind.result c.at-content.result (omega arith)
    ∙ (λ j. entry_from (c.at.ensures j) (c.at-owner.ensures j) (c.at-key.ensures j) (c.at-kind.ensures j) (c.at-content.ensures j))
