-- A building call on a lent buffer: the call on a sound one leaves it lent where nothing is remembered, and else there is a buffer with an
-- entry more in its journal; a call that fails a test, or finds the journal full, leaves the buffer as it was. Assumes nothing.
use Rattle.rules.specs.declared.types.Cause.{Cause}
use Rattle.rules.specs.declared.types.Cause.TheVariants.{JournalFull}
use Prim.Native.Nat.{ℕ, zero, suc, ◌<◌}
use native.Mathlib.Omega.{arith}
use mathlib.Core.Bool.{Bool, true, false}
use mathlib.Core.List.{List, [], ◌∷◌}
use Rattle.std.specs.Prelude.{Option, None, Some}
use mathlib.Core.Path.{◌≡◌, refl, sym, ◌∙◌}
use lib.Dec.{leb}
use Rattle.rules.specs.Store.{owner_exists}
use Rattle.rules.specs.declared.types.Attribute.{Attribute}
use Rattle.rules.specs.declared.types.Owner.{Owner}
use Rattle.rules.specs.Building.{Call, new_operation, new_block, set_attribute, set_operand, tests, first_failed, Built, refused}
use Rattle.rules.specs.Marks.{MarkedCall, build, replaces, max_remembered, can_remember}
use Rattle.layout.specs.Columns.{Cols, columns}
use Rattle.layout.specs.Reading.{store_in}
use Rattle.layout.specs.Soundness.{IsSound}
use Rattle.layout.proofs.Filled.{filled}
use Rattle.mutation.proofs.Facts.{shaped}
use Rattle.mutation.specs.SetWrites.{slot_for, key_there}
use Rattle.mutation.proofs.AttributeCauses.{owner_there}
use Rattle.layout.specs.Journal.{entries_for}
use Rattle.layout.specs.MarkedReading.{mark_count, marked_in, IsLent}
use Rattle.undo_log.specs.Entries.{entry_of}
use Rattle.undo_log.specs.declared.entries.Entry.{Entry}
use Rattle.undo_log.specs.MarkedCalls.{PerformsMarked}
use Rattle.undo_log.proofs.Lent.{lent_facts}
use Rattle.undo_log.specs.EntryWrites.{replaced_count, with_entry, operand_entry, attribute_entry, key_entry}
use Rattle.undo_log.proofs.Done.{marked_refuse, marked_full}
use Rattle.undo_log.proofs.Unremembered.{unmarked_call, adding_call}
use Rattle.undo_log.proofs.Remembered.{remembered_call}
use Rattle.undo_log.proofs.Room.{new_fits, one_fits, none_fits}
use Rattle.undo_log.proofs.WasOperand.{operand_entry_lem}
use Rattle.undo_log.proofs.WasAttribute.{key_replaced, attribute_entry_lem, key_entry_lem}
use Rattle.api.proofs.Shapes.{entry_shaped}
use Rattle.api.proofs.SoundCall.{doing}

-- there is an answer, and a buffer afterwards
abbrev pub DoingMarked : List ℕ → MarkedCall → Type 0
DoingMarked b c = (exit : List ℕ) × (r : Built) × PerformsMarked b exit c r

module _ (b : List ℕ) (h : IsLent b) where
  abbrev C : Cols
  C = columns b

  tables : IsSound b
  tables = (lent_facts b h).tables

  refuse : (c : Call) (cause : Cause) → first_failed (tests (store_in b) c) ≡ Some cause → DoingMarked b (build c)
  refuse c cause e = (b, refused cause, marked_refuse b h c (refused cause) cause e refl)

  -- ---- nothing is remembered

  adding : (c : Call) → replaces (store_in b) c ≡ false → entries_for (store_in b) c ≡ [] → DoingMarked b (build c)
  adding c new empty = let d = doing b tables c in (d.0, d.1, adding_call b h d.0 c d.1 d.2 new empty)

  -- without a mark, or as it is done with one
  with_mark_lem : (c : Call) → (0 < mark_count C → DoingMarked b (build c)) → DoingMarked b (build c)
  with_mark_lem c f = go (mark_count C) refl
    where
      go : (n : ℕ) → mark_count C ≡ n → DoingMarked b (build c)
      go zero e = let d = doing b tables c in (d.0, d.1, unmarked_call b h d.0 c d.1 d.2 e)
      go (suc n) e = f (omega arith)

  -- ---- a mark is set, and all tests hold

  module _
      (c : Call)
      (clear : first_failed (tests (store_in b) c) ≡ None)
      (l : 0 < mark_count C)
      (e : Entry)
      (is : entry_of e ∷ [] ≡ entries_for (store_in b) c) where
    remember : can_remember (marked_in b) c ≡ true → DoingMarked b (build c)
    remember can =
        let d = doing b tables c in
        let s = d.2.sound in
        let x = filled (with_entry (columns d.0) e) (entry_shaped (columns d.0) e (shaped d.0 s)) in
        (x.0, d.1, remembered_call b h c l clear can e is d.0 d.1 d.2 x.0 (x.1 ∙ sym s.sized) x.2)

    -- a replacement needs room in the journal
    replace : replaces (store_in b) c ≡ true → DoingMarked b (build c)
    replace r = go (leb max_remembered (replaced_count C)) refl
      where
        go : (t : Bool) → leb max_remembered (replaced_count C) ≡ t → DoingMarked b (build c)
        go true full = (b, refused JournalFull, marked_full b h c (refused JournalFull) clear (none_fits b h l c full r) refl)
        go false room = remember (one_fits b h l c room)

  module _ (w : Owner) (a : Attribute) (clear : first_failed (tests (store_in b) (set_attribute w a)) ≡ None) (l : 0 < mark_count C) where
    there : owner_exists (store_in b) w ≡ true
    there = owner_there b tables w a clear

    set_attribute_lem : DoingMarked b (build (set_attribute w a))
    set_attribute_lem = go (key_there C w a.key) refl
      where
        go : (t : Bool) → key_there C w a.key ≡ t → DoingMarked b (build (set_attribute w a))
        go true k =
            let s = slot_for C w a.key in
            replace (set_attribute w a) clear l (attribute_entry C w s) (attribute_entry_lem b tables w there a s k refl)
            (key_replaced b tables w there a true k)
        go false k =
            remember (set_attribute w a) clear l (key_entry w a.key) (key_entry_lem b tables w there a k)
            (new_fits b h l (set_attribute w a) (key_replaced b tables w there a false k))

  -- ---- every call

  work : (c : Call) → first_failed (tests (store_in b) c) ≡ None → DoingMarked b (build c)
  unfolding replaces entries_for
  work (new_operation new) e = adding (new_operation new) refl refl
  work (new_block new) e = adding (new_block new) refl refl
  work (set_attribute w a) e = with_mark_lem (set_attribute w a) (set_attribute_lem w a e)
  work (set_operand u) e =
      let n = u.operation in
      let i = u.index in
      with_mark_lem (set_operand u) (λ l. replace (set_operand u) e l (operand_entry C n i) (operand_entry_lem b tables n i u.value e) refl)

  pub building : (c : Call) → DoingMarked b (build c)
  building c = go (first_failed (tests (store_in b) c)) refl
    where
      go : (o : Option Cause) → first_failed (tests (store_in b) c) ≡ o → DoingMarked b (build c)
      go None e = work c e
      go (Some cause) e = refuse c cause e
