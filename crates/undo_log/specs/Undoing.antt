-- What undoing does to a sound buffer.
use Rattle.std.specs.Prelude.{ℕ, Bool, true, false, List, ◌≡◌}
use Rattle.layout.specs.Columns.{columns}
use Rattle.layout.specs.Reading.{store_in}
use Rattle.layout.specs.Soundness.{IsSound}
use Rattle.mutation.specs.Doing.{Behind}
use Rattle.layout.specs.Journal.{Entry, undone, undone_all, undoable, undoable_all}

-- an entry is undone where that can be done, and told whether it was; else no word has changed
pub record Undid (entry exit : List ℕ) (e : Entry) (q : Bool) : Type 0 where
  pub told : q ≡ undoable e (store_in entry)
  pub reads : q ≡ true → store_in exit ≡ undone e (store_in entry)
  pub unchanged : q ≡ false → exit ≡ entry
  pub sound : IsSound exit
  pub behind : Behind (columns entry) (columns exit)

-- entries are undone, the newest first, where that can be done with each
pub record UndidAll (entry exit : List ℕ) (es : List Entry) (q : Bool) : Type 0 where
  pub told : q ≡ undoable_all es (store_in entry)
  pub reads : q ≡ true → store_in exit ≡ undone_all es (store_in entry)
  pub sound : IsSound exit
  pub behind : Behind (columns entry) (columns exit)
