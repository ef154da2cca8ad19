-- The word that is remembered of an operand is the operand. Assumes nothing.
use Prim.Native.Nat.{ℕ, ◌<◌, ◌≤◌}
use mathlib.Core.Bool.{false}
use mathlib.Core.List.{List, [], ◌∷◌}
use Rattle.std.specs.Prelude.{None}
use mathlib.Core.Path.{◌≡◌, sym, ap, ◌∙◌}
use lib.Dec.{leb}
use lib.ListN.{length, get_or}
use Rattle.rules.specs.Store.{Op}
use Rattle.rules.specs.Building.{Call, set_operand, tests, first_failed, accepted}
use Rattle.rules.specs.Marks.{build, max_remembered}
use Rattle.layout.specs.Columns.{buffer_length, columns, at, op_operand_first, op_operand_end, operand_words}
use Rattle.layout.specs.Reading.{op_of, store_in}
use Rattle.layout.specs.Soundness.{IsSound}
use Rattle.layout.proofs.Scans.{slice_at}
use Rattle.layout.proofs.Tabulate.{op_read}
use Rattle.mutation.specs.Doing.{Performs}
use Rattle.mutation.specs.SetWrites.{with_operand}
use Rattle.mutation.proofs.OperandCauses.{there_operand}
use Rattle.mutation.proofs.OperandDone.{operand_done}
use Rattle.layout.specs.Journal.{operand_was, entries_for}
use Rattle.layout.specs.MarkedReading.{entry_from, mark_count, entry_count, max_entries, IsLent}
use Rattle.undo_log.specs.Entries.{words_of, entry_of}
use Rattle.undo_log.specs.MarkedCalls.{PerformsMarked}
use Rattle.undo_log.proofs.Lent.{lent_facts}
use Rattle.undo_log.specs.EntryWrites.{replaced_count, with_entry, operand_entry}
use Rattle.undo_log.proofs.Room.{one_fits}
use Rattle.undo_log.proofs.Remembered.{entry_room, remembered_call}

module _ (b : List ℕ) (h : IsSound b) (n i v : ℕ) (clear : first_failed (tests (store_in b) (set_operand (record { operation = n; index = i; value = v }))) ≡ None) where
  pub operand_entry_lem : entry_of (operand_entry (columns b) n i) ∷ [] ≡ entries_for (store_in b) (set_operand (record { operation = n; index = i; value = v }))
  unfolding entry_of words_of entry_from operand_entry entries_for op_of at
  operand_entry_lem =
      let C = columns b in
      let t = there_operand b h n i v clear in
      ap (λ (x : ℕ). operand_was n i x ∷ [])
      (sym (ap (λ (o : Op). get_or o.operands i 0) (op_read C n t.op) ∙ slice_at (C operand_words) (at C op_operand_first n) (at C op_operand_end n) i t.operand))

-- ---- the call

module _ (b : List ℕ) (h : IsLent b) (n i v : ℕ) (l : 0 < mark_count (columns b)) (clear : first_failed (tests (store_in b) (set_operand (record { operation = n; index = i; value = v }))) ≡ None)
    (room : leb max_remembered (replaced_count (columns b)) ≡ false) (mid : List ℕ) (len : length mid ≡ length b) (q : columns mid ≡ with_operand (columns b) n i v) where
  abbrev c : Call
  c = set_operand (record { operation = n; index = i; value = v })

  tables : IsSound b
  tables = (lent_facts b h).tables

  did : Performs b mid c accepted
  did = operand_done b tables n i v clear mid len q

  pub operand_room_lem : (length mid ≡ buffer_length) × ((entry_count (columns mid) < max_entries) × (replaced_count (columns mid) ≤ max_remembered))
  operand_room_lem =
      (len ∙ tables.sized, entry_room b h c l clear (one_fits b h l c room) (operand_entry (columns b) n i) (operand_entry_lem b tables n i v clear) mid _ did)

  pub operand_remembered : (exit : List ℕ) → length exit ≡ length mid → columns exit ≡ with_entry (columns mid) (operand_entry (columns b) n i) → PerformsMarked b exit (build c) accepted
  operand_remembered exit more written =
      remembered_call b h c l clear (one_fits b h l c room) (operand_entry (columns b) n i) (operand_entry_lem b tables n i v clear) mid _ did exit more written
