-- What is asked of the words alone and what is asked row by row are together what is asked of marks; without a mark nothing is. Assumes
-- nothing.
use Prim.Native.Nat.{ℕ, ◌<◌, ◌≤◌}
use native.Mathlib.Omega.{arith}
use mathlib.Core.Bool.{Bool, true, false, ◌&&◌}
use mathlib.Core.List.{List}
use mathlib.Core.Path.{◌≡◌, refl, sym, ap, ◌∙◌}
use lib.ListN.{length}
use borrow.Author.Tests.{leb-true, le-leb, eqb-true, eq-eqb, ne_eqb}
use Rattle.rules.specs.Lists.{all_below}
use Rattle.rules.specs.Marks.{max_marks, max_remembered}
use Rattle.rules.proofs.Basics.Tests.{and_left, and_both, passed, every_of, all_below_of, clash}
use Rattle.layout.specs.Columns.{Cols, columns, at, journal_counts, buffer_length}
use Rattle.layout.specs.Soundness.{sound_buffer}
use Rattle.layout.proofs.Scans.{same_tests, stop}
use Rattle.layout.proofs.Empty.{sound_facts}
use Rattle.layout.specs.Journal.{replaced_in, journal_sound}
use Rattle.layout.specs.MarkedReading.{mark_count, entry_count, journal_of, journaled_of, max_entries, row_holds, journal_holds, marks_hold_in, sound_lent}
use Rattle.undo_log.proofs.MarkRows.{facts}
use Rattle.undo_log.specs.MarkWrites.{first_entries}
use Rattle.layout.proofs.Bare.{bare_lent}
use Rattle.undo_log.proofs.Holding.{Remembered, holds_facts, holds_of}
use Rattle.validation.specs.Lending.{words_hold, rows_hold_in}
use Rattle.validation.proofs.Reached.{journal_is}
use Rattle.validation.proofs.Whole.{hold_facts}

-- ---- the words alone

pub record Words (C : Cols) : Type 0 where
  pub few : mark_count C ≤ max_marks
  pub short : entry_count C ≤ max_entries
  pub counted : at C journal_counts 1 ≡ replaced_in (journal_of C)
  pub most : replaced_in (journal_of C) ≤ max_remembered

module _ (C : Cols) (some : 0 < mark_count C) where
  entries_are : first_entries C (entry_count C) ≡ journal_of C
  unfolding first_entries
  entries_are = sym (journal_is C some)

  pub words_facts : words_hold C ≡ true → Words C
  unfolding words_hold
  words_facts h =
      let p = passed _ h in
      let e : replaced_in (first_entries C (entry_count C)) ≡ replaced_in (journal_of C) = ap replaced_in entries_are in
      record {
        few = leb-true (mark_count C) max_marks p.0;
        short = leb-true (entry_count C) max_entries p.1.0;
        counted = eqb-true _ _ p.1.1.0 ∙ e;
        most = omega (arith, leb-true (replaced_in (first_entries C (entry_count C))) max_remembered p.1.1.1.0);
      }

  words_of : Words C → words_hold C ≡ true
  unfolding words_hold
  words_of w =
      let e : replaced_in (first_entries C (entry_count C)) ≡ replaced_in (journal_of C) = ap replaced_in entries_are in
      every_of _ (
        le-leb (mark_count C) max_marks w.few,
        (
          le-leb (entry_count C) max_entries w.short,
          (eq-eqb _ _ (w.counted ∙ sym e), (le-leb (replaced_in (first_entries C (entry_count C))) max_remembered (omega (arith, w.most)), tt)),
        ),
      )

  -- ---- and row by row

  abbrev remembers : journal_holds C ≡ true → Remembered C
  remembers h = holds_facts C h (ne_eqb (mark_count C) 0 (λ e. omega arith))

  marks_words : marks_hold_in C ≡ true → words_hold C ≡ true
  unfolding marks_hold_in journaled_of
  marks_words h =
      let p = passed _ h in
      let m = remembers p.1.0 in
      words_of (record { few = leb-true (mark_count C) max_marks p.0; short = m.short; counted = m.counted; most = (facts (journaled_of C) p.1.1.0).few })

  marks_rows : marks_hold_in C ≡ true → rows_hold_in C ≡ true
  unfolding marks_hold_in rows_hold_in
  marks_rows h =
      let p = passed _ h in
      and_both _ _ p.1.1.0 (all_below_of (mark_count C) (row_holds C) (remembers p.1.0).rows)

  marks_of : words_hold C ≡ true → rows_hold_in C ≡ true → marks_hold_in C ≡ true
  unfolding marks_hold_in rows_hold_in
  marks_of h g =
      let w = words_facts h in
      every_of _ (
        le-leb (mark_count C) max_marks w.few,
        (
          holds_of C (record { short = w.short; counted = w.counted; rows = (hold_facts C g).1 }),
          (and_left (journal_sound (journaled_of C)) (all_below (mark_count C) (row_holds C)) g, tt),
        ),
      )

  pub words_fail : words_hold C ≡ false → false ≡ marks_hold_in C
  words_fail e = same_tests false (marks_hold_in C) (λ h. clash h refl) (λ h. clash (marks_words h) e)

  pub rows_tell : words_hold C ≡ true → rows_hold_in C ≡ marks_hold_in C
  rows_tell h = same_tests (rows_hold_in C) (marks_hold_in C) (λ g. marks_of h g) (λ g. marks_rows g)

-- ---- the buffer

module _ (b : List ℕ) where
  pub not_sound : sound_buffer b ≡ false → false ≡ sound_lent b
  unfolding sound_lent
  not_sound e = sym (ap (λ (t : Bool). t && marks_hold_in (columns b)) e)

  pub long_unsound : (length b ≡ buffer_length → ⊥) → sound_lent b ≡ false
  unfolding sound_buffer
  long_unsound long = sym (not_sound (stop _ _ (ne_eqb (length b) buffer_length long)))

  pub lent_is : sound_buffer b ≡ true → sound_lent b ≡ marks_hold_in (columns b)
  unfolding sound_lent
  lent_is e = ap (λ (t : Bool). t && marks_hold_in (columns b)) e

  pub lent_bare : sound_buffer b ≡ true → mark_count (columns b) ≡ 0 → true ≡ sound_lent b
  lent_bare e none = sym (bare_lent b (sound_facts b e) none)
