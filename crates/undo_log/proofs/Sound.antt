-- A sound journal is read as a sound marked store, and a sound store alone is a sound journal. Assumes nothing.
use Prim.Native.Nat.{ℕ, ◌-◌, ◌≤◌}
use native.Mathlib.Omega.{arith}
use mathlib.Core.Bool.{true}
use mathlib.Core.List.{List, [], ◌∷◌, map}
use mathlib.Core.Path.{◌≡◌, refl, ap, ◌∙◌}
use lib.ListN.{drop}
use Rattle.rules.specs.Store.{Store}
use Rattle.rules.specs.Marks.{has_number, is_set, max_remembered, snapshots_sound, sound_marked}
use Rattle.rules.proofs.Basics.Tests.{and_both, every_of}
use Rattle.rules.proofs.Basics.Filtered.{any_map}
use Rattle.rules.proofs.Basics.Cut.{drop_from}
use Rattle.rules.proofs.Marks.Ordered.{Ordered, marks_hold_lem}
use Rattle.layout.specs.Journal.{Entry, Counts, no_counts, replaced_in, MarkRow, mark_of, marked_of, row_has_number}
use Rattle.undo_log.specs.JournalLaws.{SoundRead, BareSound}
use Rattle.layout.proofs.Bare.{alone_sound, alone_reads}
use Rattle.undo_log.proofs.MarkRows.{Rising, Numbered, Steps, facts}
use Rattle.undo_log.proofs.Replaced.{replaced_drop}

module _ (s : Store) (journal : List Entry) where
  snapshots_sound_lem : (rs : List MarkRow) → Steps s journal rs → snapshots_sound (map (mark_of s journal) rs) ≡ true
  unfolding snapshots_sound mark_of
  snapshots_sound_lem [] g = refl
  snapshots_sound_lem (r ∷ rs) g = and_both _ _ g.1 (snapshots_sound_lem rs g.2)

  -- the younger a mark, the less of the journal lies behind it
  marks_ordered : (place : ℕ) (counts : Counts) (n : ℕ) (end : Counts) (most : ℕ) (rs : List MarkRow) → Rising place counts n end rs → Numbered rs
      → replaced_in (drop place journal) ≤ most → Ordered most (map (mark_of s journal) rs)
  unfolding is_set has_number row_has_number mark_of
  marks_ordered place counts n end most [] p q l = tt
  marks_ordered place counts n end most (r ∷ rs) p q l =
      let e : replaced_in (drop (r.place - place) (drop place journal)) ≡ replaced_in (drop r.place journal) = ap replaced_in (drop_from place r.place journal p.0) in (
        q.0,
        any_map (has_number r.number) (mark_of s journal) rs ∙ q.1,
        omega (arith, replaced_drop (r.place - place) (drop place journal)),
        marks_ordered r.place r.counts n end (replaced_in (drop r.place journal)) rs p.2 q.2 (omega arith),
      )

pub sound_read : SoundRead
unfolding SoundRead sound_marked marked_of
sound_read j h =
    let f = facts j h in
    every_of _ (
      f.now,
      (
        snapshots_sound_lem j.store j.journal j.rows f.steps,
        (marks_hold_lem max_remembered _ (marks_ordered j.store j.journal 0 no_counts _ _ max_remembered j.rows f.rising f.numbered f.few), tt),
      ),
    )

pub bare_sound : BareSound
unfolding BareSound
bare_sound s h = (alone_sound s h, alone_reads s)
