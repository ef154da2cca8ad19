-- Words without a mark: nothing of the journal is read, so a sound buffer may be lent, and reads as its store without marks. Assumes nothing.
use Prim.Native.Nat.{ℕ}
use native.Mathlib.Omega.{arith}
use mathlib.Core.Bool.{Bool, true, false, cond}
use mathlib.Core.List.{List, []}
use mathlib.Core.Path.{◌≡◌, refl, ap, ◌∙◌}
use borrow.Author.Tests.{le-leb, eq-eqb}
use lib.Dec.{eqb}
use Rattle.rules.specs.Store.{Store, sound}
use Rattle.rules.specs.Marks.{unmarked, max_marks}
use Rattle.rules.proofs.Basics.Tests.{every_of, and_both, clash}
use Rattle.layout.specs.Columns.{Cols, columns}
use Rattle.layout.specs.Reading.{tabulate, tabulate_from, store_of, store_in}
use Rattle.layout.specs.Soundness.{IsSound}
use Rattle.layout.proofs.Empty.{sound_of}
use Rattle.layout.specs.Journal.{Journaled, Counts, counts_of, counts_within, no_counts, rows_hold, none_older, steps_back, replaced_in, marked_of, journal_sound}
use Rattle.layout.specs.MarkedReading.{IsLent, mark_count, entry_count, entry_at, journal_of, row_at, rows_of, journaled_of, journal_holds, marks_hold_in, marked_in, sound_lent}

within_none : (a : Counts) → counts_within no_counts a ≡ true
unfolding counts_within no_counts
within_none a =
    every_of _ (
      le-leb 0 a.ops (omega arith),
      (le-leb 0 a.blocks (omega arith), (le-leb 0 a.regions (omega arith), (le-leb 0 a.values (omega arith), tt))),
    )

-- a sound store alone, with nothing remembered and no mark
abbrev alone : Store → Journaled
alone s = record { store = s; journal = []; rows = [] }

pub alone_sound : (s : Store) → sound s ≡ true → journal_sound (alone s) ≡ true
unfolding journal_sound rows_hold none_older steps_back replaced_in
alone_sound s h = every_of _ (h, (and_both _ _ refl (within_none (counts_of s)), (refl, (refl, (refl, tt)))))

pub alone_reads : (s : Store) → marked_of (alone s) ≡ unmarked s
unfolding marked_of unmarked
alone_reads s = refl

module _ (C : Cols) (none : mark_count C ≡ 0) where
  none_there : eqb (mark_count C) 0 ≡ true
  none_there = eq-eqb (mark_count C) 0 none

  pub no_journal : journal_of C ≡ []
  unfolding journal_of
  no_journal = ap (λ (t : Bool). cond t [] (tabulate (entry_count C) (entry_at C))) none_there

  no_rows : rows_of C ≡ []
  unfolding rows_of tabulate tabulate_from
  no_rows = ap (λ (n : ℕ). tabulate n (row_at C)) none

  bare : journaled_of C ≡ record { store = store_of C; journal = []; rows = [] }
  unfolding journaled_of
  bare = λ t. record { store = store_of C; journal = no_journal t; rows = no_rows t }

  passed_over : (t x : Bool) → t ≡ true → cond t true x ≡ true
  passed_over true x e = refl
  passed_over false x e = clash e refl

  pub none_held : sound (store_of C) ≡ true → marks_hold_in C ≡ true
  unfolding marks_hold_in journal_holds
  none_held h =
      every_of _ (
        le-leb (mark_count C) max_marks (omega (arith, none)),
        (passed_over _ _ none_there, (ap journal_sound bare ∙ alone_sound (store_of C) h, tt)),
      )

module _ (b : List ℕ) (h : IsSound b) (none : mark_count (columns b) ≡ 0) where
  pub bare_lent : IsLent b
  unfolding sound_lent
  bare_lent = and_both _ _ (sound_of b h) (none_held (columns b) none h.ruled)

  pub bare_reads : marked_in b ≡ unmarked (store_in b)
  bare_reads = ap marked_of (bare (columns b) none) ∙ alone_reads (store_in b)
