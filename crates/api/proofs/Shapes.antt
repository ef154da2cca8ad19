-- What an accepted call writes, it writes over words that are there: so the columns keep their lengths. Assumes nothing.
use Prim.Native.Nat.{ℕ, ◌+◌, ◌<◌, ◌≤◌}
use native.Mathlib.Omega.{arith}
use mathlib.Core.Bool.{Bool, true, false, cond}
use mathlib.Core.List.{List, ◌∷◌}
use Rattle.std.specs.Prelude.{None}
use mathlib.Core.Path.{◌≡◌, refl, sym, ap, ◌∙◌}
use borrow.Author.Tests.{eqb-true}
use lib.Dec.{eqb}
use lib.ListN.{length, replicate, length-replicate}
use Rattle.rules.specs.declared.types.Attribute.{Attribute}
use Rattle.rules.specs.declared.types.Owner.{Owner}
use Rattle.rules.specs.Building.{set_attribute, tests, first_failed}
use Rattle.layout.specs.Columns.{Cols, columns, column_size, at, counts, region_block_end, block_op_end, slot_key, slot_kind, slot_content, operand_words, slot_count, journal_counts, journal_sort, journal_owner, journal_key, journal_kind, journal_content}
use Rattle.layout.specs.Reading.{slice, slots_of, store_in}
use Rattle.layout.specs.Soundness.{IsSound}
use Rattle.layout.specs.Owners.{key_count, count_column, owner_number}
use Rattle.layout.specs.declared.families.Family.{Family}
use Rattle.layout.specs.Families.{ops_in_blocks, blocks_in_regions}
use Rattle.layout.proofs.Laid.{Shaped}
use Rattle.layout.proofs.Buffer.{write_shaped, write_range_shaped}
use Rattle.layout.proofs.Scans.{slice_length}
use Rattle.mutation.proofs.Facts.{shaped}
use Rattle.mutation.specs.SetWrites.{with_attribute, with_operand, inserted, replaced, added, slot_for, key_there}
use Rattle.mutation.proofs.Owners.{reachable}
use Rattle.mutation.proofs.KeySlot.{slot_low}
use Rattle.mutation.proofs.AttributeCauses.{owner_there, room_there}
use Rattle.undo_log.specs.declared.entries.Entry.{Entry}
use Rattle.undo_log.specs.EntryWrites.{words_put, with_words, with_entry}
use Rattle.undo_log.specs.KeyRemoval.{removed, without_slot}
use Rattle.undo_log.specs.CutWrites.{with_column, counts_taken, links_cut, ends_made, children_cut, ops_cut, blocks_cut, tables_cut}
use Rattle.undo_log.proofs.Written.{first_length}
use Rattle.undo_log.proofs.Ends.{ends_length}
use Rattle.undo_log.specs.Returning.{forgotten, rows_cut}

-- ---- operands, and slots

pub operand_shaped : (C : Cols) (n i v : ℕ) → Shaped C → Shaped (with_operand C n i v)
unfolding with_operand
operand_shaped C n i v sh = write_shaped C operand_words _ v sh

-- a word put among those of the slots, or taken out
module _ (C : Cols) (k i e : ℕ) (sh : Shaped C) (size : column_size k ≡ slot_count) where
  inserted_shaped : (v : ℕ) → i ≤ e → e + 1 ≤ slot_count → Shaped (inserted C k i e v)
  unfolding inserted
  inserted_shaped v l r = write_range_shaped C k i (v ∷ slice (C k) i e) sh (omega (arith, slice_length (C k) i e (omega (arith, sh k))))

  removed_shaped : i < e → e ≤ slot_count → Shaped (removed C k i e)
  unfolding removed
  removed_shaped l r = write_range_shaped C k i (slice (C k) (i + 1) e) sh (omega (arith, slice_length (C k) (i + 1) e (omega (arith, sh k))))

pub added_shaped : (C : Cols) (w : Owner) (s : ℕ) (a : Attribute) → Shaped C → s ≤ slots_of w + key_count C w → slots_of w + key_count C w + 1 ≤ slot_count
    → Shaped (added C w s a)
unfolding added
added_shaped C w s a sh i fits =
    write_shaped _ counts 6 _
    (write_shaped _ (count_column w) (owner_number w) _
    (inserted_shaped _ slot_content s _
    (inserted_shaped _ slot_kind s _ (inserted_shaped C slot_key s _ sh refl _ i fits) refl _ i fits)
    refl _ i fits))

module _ (b : List ℕ) (h : IsSound b) (w : Owner) (a : Attribute) (clear : first_failed (tests (store_in b) (set_attribute w a)) ≡ None) where
  pub attribute_shaped : Shaped (with_attribute (columns b) w a)
  unfolding with_attribute replaced
  attribute_shaped = go (key_there C w a.key) refl
    where
      C : Cols
      C = columns b

      s : ℕ
      s = slot_for C w a.key

      go : (t : Bool) → key_there C w a.key ≡ t → Shaped (cond t (replaced C s a) (added C w s a))
      go true e = write_shaped _ slot_content s _ (write_shaped C slot_kind s _ (shaped b h))
      go false e =
          let i : s ≤ slots_of w + key_count C w = slot_low C w a.key in
          let r : slots_of w + 8 ≤ slot_count = (reachable b h w (owner_there b h w a clear)).slots in
          let k : key_count C w + 1 ≤ 8 = (room_there b h w a clear e).0 in
          added_shaped C w s a (shaped b h) i (omega arith)

pub slot_shaped : (C : Cols) (w : Owner) (i : ℕ) → Shaped C → i < slots_of w + key_count C w → slots_of w + key_count C w ≤ slot_count
    → Shaped (without_slot C w i)
unfolding without_slot
slot_shaped C w i sh l r =
    write_shaped _ counts 6 _
    (write_shaped _ (count_column w) (owner_number w) _
    (removed_shaped _ slot_content i _
    (removed_shaped _ slot_kind i _ (removed_shaped C slot_key i _ sh refl l r) refl l r)
    refl l r))

-- ---- the journal, and the rows of marks

pub entry_shaped : (C : Cols) (e : Entry) → Shaped C → Shaped (with_entry C e)
unfolding with_words words_put
entry_shaped C e sh =
    write_shaped _ journal_counts 1 _
    (write_shaped _ journal_counts 0 _
    (write_shaped _ journal_content _ _
    (write_shaped _ journal_kind _ _
    (write_shaped _ journal_key _ _
    (write_shaped _ journal_owner _ _
    (write_shaped C journal_sort _ _ sh))))))

pub rows_shaped : (C : Cols) (n row : ℕ) → Shaped C → Shaped (rows_cut C n row)
unfolding rows_cut forgotten
rows_shaped C n row sh = write_shaped _ counts 7 _ (write_shaped _ journal_counts 1 _ (write_shaped C journal_counts 0 _ sh))

-- ---- the tables, cut

column_shaped : (C : Cols) (k : ℕ) (xs : List ℕ) → Shaped C → length xs ≡ length (C k) → Shaped (with_column C k xs)
unfolding with_column
column_shaped C k xs sh long j = go (eqb j k) refl
  where
    go : (t : Bool) → eqb j k ≡ t → length (cond t xs (C j)) ≡ column_size j
    go true e = long ∙ sh k ∙ ap column_size (sym (eqb-true j k e))
    go false e = sh j

children_shaped : (C : Cols) (f : Family) → Shaped C → at C counts (f.table + 1) ≤ column_size f.ends → Shaped (children_cut C f)
unfolding children_cut links_cut ends_made
children_shaped C f sh fits =
    let n = at C counts (f.table + 1) in
    column_shaped _ f.ends _
    (write_range_shaped _ f.ends 0 (replicate n 0) (column_shaped C f.links _ sh (first_length (at C counts f.table) _ (C f.links)))
    (omega (arith, length-replicate {A = ℕ} n 0)))
    (ends_length f.offset _ (at C counts f.table) _)

pub tables_shaped : (C : Cols) (row : ℕ) → Shaped C → at (counts_taken C row) counts 1 ≤ column_size block_op_end
    → at (ops_cut (counts_taken C row)) counts 2 ≤ column_size region_block_end → Shaped (tables_cut C row)
unfolding tables_cut blocks_cut ops_cut counts_taken
tables_shaped C row sh ops blocks =
    let taken = column_shaped C counts _ sh (first_length 7 _ (C counts)) in
    children_shaped _ blocks_in_regions (children_shaped _ ops_in_blocks taken ops) blocks
