-- What is proved of the journal, statement by statement; the name of its proof stands beside each.
use Rattle.std.specs.Prelude.{Bool, ℕ, ◌+◌, ◌≤◌, true, List, [], ◌++◌, ◌≡◌, length, Option, None}
use Rattle.std.specs.List.{list_any}
use Rattle.rules.specs.Store.{Store, max_attributes, sound}
use Rattle.rules.specs.Building.{Call, tests, first_failed, applied}
use Rattle.rules.specs.Copying.{copied}
use Rattle.rules.specs.Marks.{unmarked, build, set_mark, go_back, copy, is_mark, is_set, max_remembered, remembered, marked_tests, marked_applied, sound_marked}
use Rattle.layout.specs.Journal.{Entry, undone, undone_all, Counts, counts_of, cut_to, counts_within, entries_for, replaced_in, undoable_all, MarkRow, Journaled, marked_of, row_has_number, row_or, journaled_call, journaled_copy, journaled_mark, journaled_back, journal_sound}

-- ---- undoing and cutting

-- what is undone and then cut may be cut and then undone: `cut_commutes`; all entries of a list too: `cut_commutes_all`
unfoldable pub CutCommutes : Type 0
CutCommutes = (e : Entry) (k : Counts) (s : Store) → cut_to k (undone e s) ≡ undone e (cut_to k s)

unfoldable pub CutCommutesAll : Type 0
CutCommutesAll = (es : List Entry) (k : Counts) (s : Store) → cut_to k (undone_all es s) ≡ undone_all es (cut_to k s)

-- cut to more and then to less, a store is as if cut to less at once: `cut_twice`
unfoldable pub CutTwice : Type 0
CutTwice = (a b : Counts) (s : Store) → counts_within a b ≡ true → cut_to a (cut_to b s) ≡ cut_to a s

-- cut to what it has, a store is as it was: `cut_whole`
unfoldable pub CutWhole : Type 0
CutWhole = (s : Store) → cut_to (counts_of s) s ≡ s

-- the newer part is undone first: `undone_parts`
unfoldable pub UndoneParts : Type 0
UndoneParts = (xs ys : List Entry) (s : Store) → undone_all (xs ++ ys) s ≡ undone_all xs (undone_all ys s)

-- an accepted call is undone by what is remembered of it, and by cutting: `call_undone`
unfoldable pub CallUndone : Type 0
CallUndone =
    (s : Store) (c : Call) → sound s ≡ true → first_failed (tests s c) ≡ None
    → undone_all (entries_for s c) (cut_to (counts_of s) (applied s c)) ≡ s

-- and that can be undone: `call_undoable`
unfoldable pub CallUndoable : Type 0
CallUndoable =
    (s : Store) (c : Call) → sound s ≡ true → first_failed (tests s c) ≡ None → undoable_all (entries_for s c) (applied s c) ≡ true

-- a copy is undone by cutting alone: `copy_undone`
unfoldable pub CopyUndone : Type 0
CopyUndone = (s : Store) (n : ℕ) (place : Option ℕ) → cut_to (counts_of s) (copied s n place) ≡ s

-- ---- a call on the journal is read as the rules' call on the marks

-- an accepted building call: `call_read`
unfoldable pub CallRead : Type 0
CallRead =
    (j : Journaled) (c : Call) → journal_sound j ≡ true → first_failed (tests j.store c) ≡ None
    → marked_of (journaled_call j c) ≡ marked_applied (marked_of j) (build c)

-- a copy, which leaves every snapshot what it was, accepted or not: `copy_read`
unfoldable pub CopyRead : Type 0
CopyRead =
    (j : Journaled) (ok : Bool) (n : ℕ) (place : Option ℕ) → journal_sound j ≡ true
    → marked_of (journaled_copy j n place) ≡ marked_applied (marked_of j) (copy ok n place)

-- setting a mark: `mark_read`
unfoldable pub MarkRead : Type 0
MarkRead = (j : Journaled) (k : ℕ) → journal_sound j ≡ true → marked_of (journaled_mark j k) ≡ marked_applied (marked_of j) (set_mark k)

-- going back to a mark that is set: `back_read`
unfoldable pub BackRead : Type 0
BackRead =
    (j : Journaled) (k : ℕ) → journal_sound j ≡ true → list_any (row_has_number k) j.rows ≡ true → (other : MarkRow)
    → marked_of (journaled_back j (row_or other k j.rows)) ≡ marked_applied (marked_of j) (go_back k)

-- what the rules' tests ask: which marks are set, and how many replacements are remembered: `tests_read`
unfoldable pub TestsRead : Type 0
TestsRead =
    (j : Journaled)
    → ((k : ℕ) → is_set k (marked_of j).marks ≡ list_any (row_has_number k) j.rows)
    × (journal_sound j ≡ true → remembered (marked_of j).marks ≡ replaced_in j.journal)

-- ---- soundness

-- a sound journal is read as a sound marked store: `sound_read`
unfoldable pub SoundRead : Type 0
SoundRead = (j : Journaled) → journal_sound j ≡ true → sound_marked (marked_of j) ≡ true

-- with nothing remembered and no mark set, a sound store is a sound journal, read as the store without marks: `bare_sound`
unfoldable pub BareSound : Type 0
BareSound =
    (s : Store) → sound s ≡ true
    → (journal_sound (record { store = s; journal = []; rows = [] }) ≡ true)
    × (marked_of (record { store = s; journal = []; rows = [] }) ≡ unmarked s)

-- accepted calls keep it sound: `call_sound`, `copy_sound`, `mark_sound`, `back_sound_lem`
unfoldable pub CallSound : Type 0
CallSound =
    (j : Journaled) (c : Call) → journal_sound j ≡ true → first_failed (marked_tests (marked_of j) (build c)) ≡ None
    → journal_sound (journaled_call j c) ≡ true

unfoldable pub CopySound : Type 0
CopySound =
    (j : Journaled) (ok : Bool) (n : ℕ) (place : Option ℕ) → journal_sound j ≡ true → first_failed (marked_tests (marked_of j) (copy ok n place)) ≡ None
    → journal_sound (journaled_copy j n place) ≡ true

unfoldable pub MarkSound : Type 0
MarkSound = (j : Journaled) (k : ℕ) → journal_sound j ≡ true → is_mark k ≡ true → journal_sound (journaled_mark j k) ≡ true

unfoldable pub BackSound : Type 0
BackSound =
    (j : Journaled) (k : ℕ) → journal_sound j ≡ true → list_any (row_has_number k) j.rows ≡ true → (other : MarkRow)
    → journal_sound (journaled_back j (row_or other k j.rows)) ≡ true

-- ---- length

-- no more entries than replacements can be remembered and attributes can be there, 2,048: each key that came new is there: `journal_short`
unfoldable pub JournalShort : Type 0
JournalShort = (j : Journaled) → journal_sound j ≡ true → length j.journal ≤ max_remembered + max_attributes
