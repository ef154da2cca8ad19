-- The journal begins with no entry where no mark is set, and what is before the oldest mark goes: what the words stand for then. Assumes nothing.
use Prim.Native.Nat.{ℕ, ◌+◌, ◌*◌, ◌-◌, ◌<◌, ◌≤◌}
use native.Mathlib.Nat.{zero-add}
use native.Mathlib.Omega.{arith}
use mathlib.Core.Bool.{Bool, true, false, cond}
use mathlib.Core.List.{List, [], map}
use mathlib.Core.Path.{◌≡◌, refl, sym, ap, ◌∙◌}
use lib.Dec.{eqb}
use lib.ListN.{length, get_or, set, take, drop, length-set, take-append-drop}
use lib.Seq.{get_or-set_same, get_or-set_other}
use Rattle.layout.specs.Columns.{Cols, at, pasted, write, write_range, mark_place, mark_counts, journal_counts, journal_sort, journal_owner, journal_key, journal_kind, journal_content}
use Rattle.layout.specs.Reading.{tabulate, tabulate_from, slice}
use Rattle.layout.proofs.Laid.{Shaped}
use Rattle.layout.proofs.Pasted.{pasted_new}
use Rattle.layout.proofs.Tabulate.{length_tabulate, get_d_tabulate}
use Rattle.layout.specs.Journal.{Entry, replaced_in, placed_back}
use Rattle.layout.specs.MarkedReading.{entry_from, entry_at, mark_count, entry_count, journal_of, row_counts, row_at, journal_holds}
use Rattle.undo_log.proofs.Replaced.{replaced_append}
use Rattle.undo_log.specs.MarkWrites.{copied, begun, first_entries, entries_back, places_back, freed_before, Freeable}
use Rattle.undo_log.proofs.Tables.{kept_same}
use Rattle.undo_log.proofs.Holding.{holds_facts}
use Rattle.undo_log.proofs.Listed.{first_tabulate, drop_tabulate, map_tabulate}
use Rattle.undo_log.proofs.Standing.{Full, full_at, fulls_of, entries_of, full_back, Stands, copied_there}
use Rattle.undo_log.proofs.MarkSteps.{Kept, kept_word, kept_run, kept_copy}

-- ---- the journal begins

empty_stands : (C : Cols) → Shaped C → Stands C (write (write C journal_counts 0 0) journal_counts 1 0) (fulls_of C) []
unfolding fulls_of full_at row_at row_counts mark_count entries_of entry_count write at replaced_in tabulate tabulate_from
empty_stands C shaped =
    let k : Kept C (write (write C journal_counts 0 0) journal_counts 1 0) = kept_word C _ journal_counts 1 0 (omega arith) (kept_word C C journal_counts 0 0 (omega arith) (shaped, kept_same C shaped)) in
    let none : at (write (write C journal_counts 0 0) journal_counts 1 0) journal_counts 0 ≡ 0 =
    get_or-set_other (set (C journal_counts) 0 0) 1 0 0 0 (λ e. omega arith) ∙ get_or-set_same (C journal_counts) 0 0 0 (omega (arith, shaped journal_counts)) in
    record {
      shaped = k.0;
      kept = k.1;
      rows = refl;
      entries = ap (λ (n : ℕ). tabulate n (entry_at (write (write C journal_counts 0 0) journal_counts 1 0))) none;
      counted = get_or-set_same (set (C journal_counts) 0 0) 1 0 0 (omega (arith, shaped journal_counts, length-set (C journal_counts) 0 0));
    }

-- without a mark nothing is remembered, and with one what the words say
pub begun_stands : (C : Cols) → Shaped C → journal_holds C ≡ true → Stands C (begun C) (fulls_of C) (journal_of C)
unfolding begun journal_of entries_of
begun_stands C shaped h = go (eqb (mark_count C) 0) (λ e. (holds_facts C h e).counted)
  where
    go : (t : Bool) → (t ≡ false → at C journal_counts 1 ≡ replaced_in (cond t [] (entries_of C))) → Stands C (cond t (write (write C journal_counts 0 0) journal_counts 1 0) C) (fulls_of C) (cond t [] (entries_of C))
    go true counted = empty_stands C shaped
    go false counted = record { shaped = shaped; kept = kept_same C shaped; rows = refl; entries = refl; counted = counted refl }

-- ---- what is before entry n goes

module _ (B C : Cols) (fulls : List Full) (journal : List Entry) (g : Stands B C fulls journal) (n : ℕ) (free : Freeable C n) where
  word_back : (k i : ℕ) → length (C k) ≡ 2048 → i < entry_count C - n → get_or (pasted (C k) 0 (slice (C k) n (entry_count C))) i 0 ≡ get_or (C k) (n + i) 0
  word_back k i e l =
      copied_there (C k) 0 (C k) n (entry_count C) (omega (arith, free.short)) (omega (arith, free.short)) i (n + i) (omega arith) (omega arith) (omega (arith, free.within))

  entry_back : (i : ℕ) → i < entry_count C - n → entry_at (freed_before C n) i ≡ entry_at C (n + i)
  unfolding entry_at freed_before places_back entries_back copied write write_range at
  entry_back i l =
      λ t.
      entry_from (word_back journal_sort i (g.shaped journal_sort) l t) (word_back journal_owner i (g.shaped journal_owner) l t) (word_back journal_key i (g.shaped journal_key) l t)
      (word_back journal_kind i (g.shaped journal_kind) l t) (word_back journal_content i (g.shaped journal_content) l t)

  places : List ℕ
  places = tabulate (mark_count C) (λ (i : ℕ). at C mark_place i - n)

  places_length : length places ≡ mark_count C
  unfolding places
  places_length = length_tabulate (mark_count C) (λ (i : ℕ). at C mark_place i - n)

  place_back : (i : ℕ) → i < mark_count C → get_or (pasted (C mark_place) 0 places) i 0 ≡ at C mark_place i - n
  unfolding places
  place_back i l =
      ap (λ (m : ℕ). get_or (pasted (C mark_place) 0 places) m 0) (sym (zero-add i))
      ∙ pasted_new (C mark_place) 0 places (omega (arith, places_length, g.shaped mark_place, free.few)) i (omega (arith, places_length))
      ∙ get_d_tabulate (mark_count C) (λ (m : ℕ). at C mark_place m - n) i 0 l

  full_back_lem : (i : ℕ) → i < mark_count C → full_at (freed_before C n) i ≡ full_back n (full_at C i)
  unfolding places full_at row_at row_counts placed_back mark_count freed_before places_back entries_back copied write write_range at
  full_back_lem i l =
      λ t. record {
        row = record { number = (row_at C i).number; counts = (row_at C i).counts; place = place_back i l t };
        operands = at C mark_counts (8 * i + 4);
        successors = at C mark_counts (8 * i + 5);
        attributes = at C mark_counts (8 * i + 6);
      }

  back_count : mark_count (entries_back C n) ≡ mark_count C
  unfolding mark_count entries_back copied write_range at
  back_count = refl

  freed_kept : Kept B (freed_before C n)
  unfolding places freed_before places_back entries_back
  freed_kept =
      let s : entry_count C ≤ 2048 = free.short in
      let w : n ≤ entry_count C = free.within in
      kept_word B _ journal_counts 1 _ (omega arith)
      (kept_word B _ journal_counts 0 _ (omega arith)
      (kept_run B (entries_back C n) mark_place 0 _ (omega arith) (omega (arith, free.few, back_count, length_tabulate (mark_count (entries_back C n)) (λ (i : ℕ). at (entries_back C n) mark_place i - n)))
      (kept_copy B _ journal_content 0 journal_content n (entry_count C) (omega arith) (omega arith) (omega arith)
      (kept_copy B _ journal_kind 0 journal_kind n (entry_count C) (omega arith) (omega arith) (omega arith)
      (kept_copy B _ journal_key 0 journal_key n (entry_count C) (omega arith) (omega arith) (omega arith)
      (kept_copy B _ journal_owner 0 journal_owner n (entry_count C) (omega arith) (omega arith) (omega arith)
      (kept_copy B C journal_sort 0 journal_sort n (entry_count C) (omega arith) (omega arith) (omega arith) (g.shaped, g.kept))))))))

  freed_count : mark_count (freed_before C n) ≡ mark_count C
  unfolding mark_count freed_before places_back entries_back copied write write_range at
  freed_count = refl

  freed_entries : entry_count (freed_before C n) ≡ entry_count C - n
  unfolding entry_count freed_before places_back entries_back copied write write_range at
  freed_entries =
      get_or-set_other (set (C journal_counts) 0 (entry_count C - n)) 1 0 _ 0 (λ e. omega arith)
      ∙ get_or-set_same (C journal_counts) 0 (entry_count C - n) 0 (omega (arith, g.shaped journal_counts))

  gone : first_entries C n ≡ take n journal
  unfolding first_entries entries_of
  gone = first_tabulate (entry_count C) n (entry_at C) free.within ∙ ap (take n) g.entries

  freed_counted : at (freed_before C n) journal_counts 1 ≡ replaced_in (drop n journal)
  unfolding freed_before places_back entries_back copied write write_range at
  freed_counted =
      get_or-set_same (set (C journal_counts) 0 (entry_count C - n)) 1 _ 0 (omega (arith, g.shaped journal_counts, length-set (C journal_counts) 0 (entry_count C - n)))
      ∙ omega (arith, ap replaced_in gone, g.counted, replaced_append (take n journal) (drop n journal), ap replaced_in (take-append-drop n journal))

  pub freed_stands : Stands B (freed_before C n) (map (full_back n) fulls) (drop n journal)
  unfolding fulls_of entries_of
  freed_stands =
      record {
        shaped = freed_kept.0;
        kept = freed_kept.1;
        rows =
            ap (λ (m : ℕ). tabulate m (full_at (freed_before C n))) freed_count
            ∙ map_tabulate (full_back n) (mark_count C) (full_at C) (full_at (freed_before C n)) full_back_lem ∙ ap (map (full_back n)) g.rows;
        entries =
            ap (λ (m : ℕ). tabulate m (entry_at (freed_before C n))) freed_entries
            ∙ drop_tabulate (entry_count C) n (entry_at C) free.within (entry_at (freed_before C n)) entry_back ∙ ap (drop n) g.entries;
        counted = freed_counted;
      }
