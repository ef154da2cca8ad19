-- Setting a mark in the journal does to the marks that are read what the rules' call does. Assumes nothing.
use Prim.Native.Nat.{ℕ, ◌≤◌}
use native.Mathlib.Omega.{arith}
use mathlib.Core.Bool.{not}
use mathlib.Core.List.{List, [], ◌∷◌, ◌++◌, map, map-append, Memᴰ}
use mathlib.Core.Path.{◌≡◌, sym, ap, ap₂, subst, ◌∙◌}
use lib.ListN.{length, drop}
use lib.Seq.{drop-length}
use Rattle.rules.specs.Store.{Store}
use Rattle.rules.specs.Marks.{Mark, has_number, without, new_mark, marked_applied}
use Rattle.rules.proofs.Basics.Filtered.{filter_map}
use Rattle.rules.proofs.Basics.Cut.{drop_from, map_through}
use Rattle.layout.specs.Journal.{Entry, undone_all, Counts, counts_of, cut_to, no_counts, replaced_in, MarkRow, Journaled, snapshot_of, mark_of, marked_of, row_has_number, oldest_place, placed_back, freed, rows_without, journaled_mark}
use Rattle.undo_log.specs.JournalLaws.{CutWhole, MarkRead}
use Rattle.undo_log.proofs.CutJournal.{cut_whole}
use Rattle.undo_log.proofs.MarkRows.{Rising, row_at_lem, rising_filter, rising_new, facts}

-- a mark from a later place on reads the same
pub placed_mark : (s : Store) (journal : List Entry) (n : ℕ) (r : MarkRow) → n ≤ r.place → mark_of s journal r ≡ mark_of s (drop n journal) (placed_back n r)
unfolding mark_of snapshot_of placed_back
placed_mark s journal n r l =
    ap (λ (es : List Entry). record { number = r.number; snapshot = cut_to r.counts (undone_all es s); since = replaced_in es })
    (sym (drop_from n r.place journal l))

-- the oldest row's place is the smallest
pub oldest_least : (place : ℕ) (counts : Counts) (n : ℕ) (most : Counts) (rs : List MarkRow) → Rising place counts n most rs
    → (r : MarkRow) → Memᴰ r rs → oldest_place rs ≤ r.place
unfolding oldest_place
oldest_least place counts n most [] p r m = omega arith
oldest_least place counts n most (q ∷ qs) p r (Memᴰ.head e) = subst (λ (z : MarkRow). q.place ≤ z.place) (sym e) (omega arith)
oldest_least place counts n most (q ∷ qs) p r (Memᴰ.tail m) = (row_at_lem q.place q.counts n most qs p.2 m).from

freed_read : (j : Journaled) → Rising 0 no_counts (length j.journal) (counts_of j.store) j.rows → marked_of (freed j) ≡ marked_of j
unfolding marked_of freed
freed_read j p =
    ap (λ (ms : List Mark). record { store = j.store; marks = ms })
    (sym (map_through (mark_of j.store j.journal) _ _ j.rows
    (λ r m. placed_mark j.store j.journal (oldest_place j.rows) r (oldest_least 0 no_counts _ _ j.rows p r m))))

pub new_mark_lem : (s : Store) (journal : List Entry) (k : ℕ) → mark_of s journal (record { number = k; counts = counts_of s; place = length journal }) ≡ new_mark k s
unfolding mark_of snapshot_of new_mark undone_all replaced_in CutWhole
new_mark_lem s journal k =
    ap (λ (es : List Entry). record { number = k; snapshot = cut_to (counts_of s) (undone_all es s); since = replaced_in es }) (drop-length journal)
    ∙ ap (λ (t : Store). record { number = k; snapshot = t; since = 0 }) (cut_whole s)

without_read : (s : Store) (journal : List Entry) (k : ℕ) (rs : List MarkRow)
    → map (mark_of s journal) (rows_without k rs) ≡ without k (map (mark_of s journal) rs)
unfolding rows_without without row_has_number has_number mark_of
without_read s journal k rs = sym (filter_map (λ (m : Mark). not (has_number k m)) (mark_of s journal) rs)

pub mark_read : MarkRead
unfolding MarkRead journaled_mark marked_of marked_applied rows_without
mark_read j k h =
    let s = j.store in
    let n = length j.journal in
    let last : MarkRow = record { number = k; counts = counts_of s; place = n } in
    let rows = rows_without k j.rows in
    let kept : Rising 0 no_counts n (counts_of s) rows = rising_filter _ 0 no_counts n (counts_of s) j.rows (facts j h).rising in
    freed_read (record { store = s; journal = j.journal; rows = rows ++ (last ∷ []) }) (rising_new k 0 no_counts n (counts_of s) rows kept)
    ∙ ap (λ (ms : List Mark). record { store = s; marks = ms })
    (map-append (mark_of s j.journal) rows (last ∷ []) ∙ ap₂ (λ (ms : List Mark) (m : Mark). ms ++ (m ∷ [])) (without_read s j.journal k j.rows) (new_mark_lem s j.journal k))
