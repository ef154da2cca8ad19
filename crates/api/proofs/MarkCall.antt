-- A mark set or gone back to on a lent buffer: where the mark is none, or is not set, the buffer is as it was; else what is written, and before
-- that what is undone and cut, keeps the columns' lengths. Assumes nothing.
use Rattle.rules.specs.declared.types.Cause.TheVariants.{NoMark}
use Prim.Native.Nat.{ℕ, ◌<◌, ◌≤◌}
use native.Mathlib.Decide.{dec_lt}
use native.Mathlib.Omega.{arith}
use mathlib.Core.Bool.{Bool, true, false}
use mathlib.Core.List.{List}
use mathlib.Core.Path.{◌≡◌, refl, sym, ap, subst, ◌∙◌}
use borrow.Author.Tests.{le-ltb}
use Rattle.rules.specs.Building.{refused, accepted}
use Rattle.rules.specs.Marks.{set_mark, go_back, is_mark}
use Rattle.layout.specs.Columns.{Cols, columns, at, mark_place}
use Rattle.layout.specs.Reading.{store_of}
use Rattle.layout.proofs.Buffer.{columns_shaped}
use Rattle.layout.proofs.Filled.{filled}
use Rattle.mutation.proofs.Facts.{shaped, laid}
use Rattle.layout.specs.MarkedReading.{mark_count, entry_count, IsLent}
use Rattle.undo_log.specs.MarkWrites.{row_of, row_found, with_mark}
use Rattle.undo_log.proofs.Lent.{Lent, lent_facts}
use Rattle.undo_log.proofs.Doing.{marked_refuse}
use Rattle.undo_log.proofs.SetMark.{refused_as, freed_so, mark_done}
use Rattle.undo_log.specs.Undoing.{UndidAll}
use Rattle.undo_log.specs.CutWrites.{tables_cut}
use Rattle.undo_log.specs.CutBack.{MarksKept}
use Rattle.undo_log.proofs.CountsTaken.{ops_fit, blocks_fit}
use Rattle.undo_log.proofs.CutColumns.{cut_marks}
use Rattle.undo_log.proofs.CutTables.{tables_read, tables_sound}
use Rattle.undo_log.specs.Returning.{rows_cut, PutBack}
use Rattle.undo_log.proofs.UndoneToMark.{behind, place_fits, within}
use Rattle.undo_log.proofs.GoneBack.{went_back}
use Rattle.undo_log.proofs.Answer.{not_set, back_done}
use Rattle.api.proofs.Shapes.{tables_shaped, rows_shaped}
use Rattle.api.proofs.LentCall.{DoingMarked}
use Rattle.api.proofs.Undoing.{undo_all}

module _ (b : List ℕ) (h : IsLent b) where
  abbrev C : Cols
  C = columns b

  abbrev f : Lent b
  f = lent_facts b h

  -- ---- a mark set

  pub setting : (k : ℕ) → DoingMarked b (set_mark k)
  setting k = go (is_mark k) refl
    where
      go : (t : Bool) → is_mark k ≡ t → DoingMarked b (set_mark k)
      go false e = (b, refused NoMark, marked_refuse b (set_mark k) (refused NoMark) h NoMark (refused_as b k e) refl)
      go true e =
          let x = filled (with_mark C k) (freed_so b f k e).shaped in
          (x.0, accepted, mark_done b f k e x.0 (x.1 ∙ sym f.tables.sized) x.2)

  -- ---- and gone back to: what is behind it is undone, the tables are cut, and the rest is forgotten

  module _ (row : ℕ) (set : row < mark_count C) where
    abbrev PuttingBack : Type 0
    PuttingBack = (exit : List ℕ) × PutBack b exit row

    cut_back : (u : List ℕ) (q : Bool) → UndidAll b u (behind b f row set) q → PuttingBack
    cut_back u q d =
        let U = columns u in
        let n = at C mark_place row in
        let s = shaped u d.sound in
        let l = laid u d.sound in
        let w = within b f row set u q d in
        let x = filled (tables_cut U row) (tables_shaped U row s (ops_fit U row s l w refl).ends_long (blocks_fit U row s l w refl).ends_long) in
        let t = x.0 in
        let y = filled (rows_cut (columns t) n row) (rows_shaped (columns t) n row (columns_shaped t x.1)) in (
          y.0,
          went_back b f row set u q d t (ap store_of x.2 ∙ tables_read U row s l w) (tables_sound U row s l w t x.1 x.2)
              (subst (MarksKept U) (sym x.2) (cut_marks U row s)) y.0 (y.1 ∙ sym f.tables.sized) y.2,
        )

    put_back : PuttingBack
    put_back =
        let x = undo_all b f.tables (at C mark_place row) (entry_count C) (place_fits b f row set) in
        cut_back x.0 x.1 x.2

  pub returning : (k : ℕ) → DoingMarked b (go_back k)
  unfolding row_found
  returning k = go (dec_lt (row_of C k) (mark_count C))
    where
      go : Dec (row_of C k < mark_count C) → DoingMarked b (go_back k)
      go (yes l) = let x = put_back (row_of C k) l in (x.0, accepted, back_done b f k l x.0 x.1)
      go (no n) =
          let past : mark_count C ≤ row_of C k = omega arith in
          (b, refused NoMark, marked_refuse b (go_back k) (refused NoMark) h NoMark (not_set b f k (rw (le-ltb (row_of C k) (mark_count C) past) refl)) refl)
