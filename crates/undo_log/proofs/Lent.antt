-- What a lent buffer gives: its tables are sound, its journal is, and its words hold. Assumes nothing.
use Prim.Native.Nat.{ℕ, ◌≤◌}
use mathlib.Core.Bool.{true}
use mathlib.Core.List.{List}
use mathlib.Core.Path.{◌≡◌}
use borrow.Author.Tests.{leb-true, le-leb}
use Rattle.rules.specs.Marks.{max_marks}
use Rattle.rules.proofs.Basics.Tests.{and_left, and_right, and_both, passed, every_of}
use Rattle.layout.specs.Columns.{columns}
use Rattle.layout.specs.Soundness.{sound_buffer, IsSound}
use Rattle.layout.proofs.Empty.{sound_facts, sound_of}
use Rattle.layout.specs.Journal.{journal_sound}
use Rattle.layout.specs.MarkedReading.{mark_count, journaled_of, journal_holds, marks_hold_in, sound_lent, IsLent}

pub record Lent (b : List ℕ) : Type 0 where
  pub tables : IsSound b
  pub few : mark_count (columns b) ≤ max_marks
  pub holds : journal_holds (columns b) ≡ true
  pub journal : journal_sound (journaled_of (columns b)) ≡ true

pub lent_facts : (b : List ℕ) → IsLent b → Lent b
unfolding sound_lent marks_hold_in
lent_facts b h =
    let p = passed _ (and_right (sound_buffer b) (marks_hold_in (columns b)) h) in
    record {
      tables = sound_facts b (and_left (sound_buffer b) (marks_hold_in (columns b)) h);
      few = leb-true _ max_marks p.0;
      holds = p.1.0;
      journal = p.1.1.0;
    }

pub lent_of : (b : List ℕ) → Lent b → IsLent b
unfolding sound_lent marks_hold_in
lent_of b h = and_both _ _ (sound_of b h.tables) (every_of _ (le-leb _ max_marks h.few, (h.holds, (h.journal, tt))))
