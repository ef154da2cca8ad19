-- The call that adds a block writes its row behind the old ones, its arguments behind the old values, and extends its region's range; so it does what the rules say and keeps the columns laid out. Assumes nothing.
use Prim.Native.Nat.{ℕ, ◌+◌, ◌<◌, ◌≤◌}
use native.Mathlib.Omega.{arith}
use mathlib.Core.Bool.{false}
use mathlib.Core.List.{List}
use mathlib.Core.Path.{◌≡◌, refl, sym, ap, ap₂, ◌∙◌}
use lib.Dec.{eqb}
use lib.ListN.{length, get_or, set, replicate, length-replicate, get_or-replicate}
use Rattle.rules.specs.declared.types.Owner.TheVariants.{Block as of_block}
use Rattle.rules.specs.Building.{NewBlock, new_block, applied}
use Rattle.layout.specs.Columns.{Cols, at, pasted, write, write_range, counts, op_kind, op_parent, op_location, op_depth, op_region_first, op_region_end, op_result_first, op_result_end, op_operand_first, op_operand_end, op_successor_first, op_successor_end, op_attributes, region_op, region_block_first, region_block_end, block_region, block_location, block_argument_first, block_argument_end, block_op_first, block_op_end, block_attributes, value_type, value_owner, operand_words, successor_words, slot_key, slot_kind, slot_content, op_next, block_next}
use Rattle.layout.specs.Reading.{slice, op_count, block_count, region_count, value_count, operand_count, successor_count, attribute_count, owner_code, store_of}
use Rattle.layout.proofs.Buffer.{write_shaped}
use Rattle.layout.proofs.Laid.{Shaped, InRange, Laid}
use Rattle.mutation.specs.Doing.{Behind}
use Rattle.mutation.proofs.Behind.{apart}
use Rattle.mutation.specs.AddedWrites.{with_values, with_row, block_written, block_placed, with_block}
use Rattle.mutation.proofs.Entries.{Put, put, Run, run, same}
use Rattle.mutation.proofs.RowWritten.{row_shaped}
use Rattle.mutation.proofs.Grew.{Grew}
use Rattle.mutation.proofs.AddedBehind.{row_behind, count_behind, values_behind, grew_behind}
use Rattle.mutation.proofs.Rows.{ValuesAdded}
use Rattle.mutation.proofs.BlockAdded.{BlockAdded, BlockRoom, added_reads, added_laid}
use Rattle.mutation.proofs.Extended.{Wider}
use Rattle.mutation.proofs.ChildPlaced.{Apart, placed_shaped as child_shaped, placed_other as child_other, placed_wider, placed_place, placed_end, placed_end_else, placed_new, placed_last, placed_else}
use Rattle.mutation.proofs.Layers.{count_same, count_other, values_shaped, values_count, values_counts}
use Rattle.mutation.proofs.ChildrenLinked.{BlockPut}

-- the columns of blocks in regions
blocks_apart : Apart block_region block_next region_block_first region_block_end
blocks_apart = record { first_end = refl; end_first = refl; first_links = refl; end_links = refl; links_first = refl; links_end = refl }

module _ (C : Cols) (new : NewBlock) where
  -- the block's row, and its region's range
  abbrev row : Cols
  row = block_written C (block_count C) new.region new.location (length new.types)

  abbrev placed : Cols
  placed = block_placed row new.region (block_count C)

  abbrev made : Cols
  made = with_block C new

  placed_other : (j : ℕ) → eqb j region_block_first ≡ false → eqb j region_block_end ≡ false → eqb j block_next ≡ false → placed j ≡ row j
  unfolding block_placed
  placed_other j e q r = child_other row block_region block_next region_block_first region_block_end new.region new.region (block_count C) blocks_apart j e q r

  pub counts_placed : (j : ℕ) → at placed counts j ≡ at C counts j
  unfolding at block_written with_row write
  counts_placed j = ap (λ (l : List ℕ). get_or l j 0) (placed_other counts refl refl refl)

  module _ (sh : Shaped C) (room : BlockRoom C new.types) where
    placed_shaped : Shaped placed
    unfolding block_written block_placed
    placed_shaped = child_shaped row block_region block_next region_block_first region_block_end new.region new.region (block_count C) blocks_apart (row_shaped C block_region _ _ sh)

    values_room : value_count placed + length new.types ≤ 2048
    unfolding value_count
    values_room = let e = counts_placed 3 in let r = room.values in omega arith

    filled_shaped : Shaped (with_values placed (of_block (block_count C)) new.types)
    filled_shaped = values_shaped placed (of_block (block_count C)) new.types placed_shaped values_room

    pub block_shaped : Shaped (with_block C new)
    unfolding with_block
    block_shaped = write_shaped _ counts 1 _ filled_shaped

    -- ---- the counts

    counts_else : (j : ℕ) → (j ≡ 1 → ⊥) → (j ≡ 3 → ⊥) → at made counts j ≡ at C counts j
    unfolding with_block
    counts_else j p q =
        count_other (with_values placed (of_block (block_count C)) new.types) 1 (block_count C + 1) j p
        ∙ values_counts placed (of_block (block_count C)) new.types placed_shaped values_room j q
        ∙ counts_placed j

    blocks_count : at made counts 1 ≡ block_count C + 1
    unfolding with_block
    blocks_count = count_same (with_values placed (of_block (block_count C)) new.types) 1 (block_count C + 1) filled_shaped (omega arith)

    values_counted : at made counts 3 ≡ value_count C + length new.types
    unfolding with_block value_count
    values_counted =
        count_other (with_values placed (of_block (block_count C)) new.types) 1 (block_count C + 1) 3 (λ e. omega arith)
        ∙ values_count placed (of_block (block_count C)) new.types placed_shaped values_room
        ∙ ap (λ (n : ℕ). n + length new.types) (counts_placed 3)

    -- ---- the columns

    row_put : (k v : ℕ) → length (C k) ≡ 256 → made k ≡ set (C k) (block_count C) v → Put C made k (block_count C) v
    row_put k v long e = let l = room.blocks in put C made k (block_count C) v e (omega arith)

    type_run : Run C made value_type (value_count C) new.types
    unfolding with_block with_values block_placed block_written with_row write write_range value_count
    type_run =
        run C made value_type (value_count C) new.types
        (ap₂ (λ (l : List ℕ) (n : ℕ). pasted l n new.types) (placed_other value_type refl refl refl) (counts_placed 3))
        (let e : length (C value_type) ≡ 2048 = sh value_type in let l = room.values in omega arith)

    owner_run : Run C made value_owner (value_count C) (replicate (length new.types) (owner_code (of_block (block_count C))))
    unfolding with_block with_values block_placed block_written with_row write write_range value_count
    owner_run =
        let vs = replicate (length new.types) (owner_code (of_block (block_count C))) in
        run C made value_owner (value_count C) vs
        (ap₂ (λ (l : List ℕ) (n : ℕ). pasted l n vs) (placed_other value_owner refl refl refl) (counts_placed 3))
        (let e : length (C value_owner) ≡ 2048 = sh value_owner in let l = room.values in rw length-replicate (omega arith))

    values_added : ValuesAdded C made (of_block (block_count C)) new.types
    unfolding value_count
    values_added =
        record {
          count = values_counted;
          type = type_run.new;
          owner = λ i l. owner_run.new i (rw length-replicate l) ∙ get_or-replicate (length new.types) i _ 0 l;
        }

    module _ (h : Laid C) where
      range_wider : (r : ℕ) → r < region_count C → Wider (at C region_block_first r) (at C region_block_end r) (at made region_block_first r) (at made region_block_end r) (block_count C)
      unfolding with_block with_values block_placed block_written with_row write write_range at
      range_wider r l =
          let c = h.counts.regions in
          let f : length (C region_block_first) ≡ 256 = sh region_block_first in
          let e : length (C region_block_end) ≡ 256 = sh region_block_end in
          placed_wider row block_region block_next region_block_first region_block_end new.region new.region (block_count C) blocks_apart r (omega arith) (omega arith) (h.region r l).blocks

      range_place : new.region < region_count C → InRange (at made region_block_first new.region) (at made region_block_end new.region) (block_count C)
      unfolding with_block with_values block_placed block_written with_row write write_range at
      range_place l =
          let c = h.counts.regions in
          let f : length (C region_block_first) ≡ 256 = sh region_block_first in
          let e : length (C region_block_end) ≡ 256 = sh region_block_end in
          placed_place row block_region block_next region_block_first region_block_end new.region new.region (block_count C) blocks_apart (omega arith) (omega arith) (h.region new.region l).blocks

      first_put : Put C made block_op_first (block_count C) 0
      unfolding with_block with_values block_placed block_written with_row write write_range
      first_put = row_put block_op_first 0 (sh block_op_first) (placed_other block_op_first refl refl refl)

      end_put_lem : Put C made block_op_end (block_count C) 0
      unfolding with_block with_values block_placed block_written with_row write write_range
      end_put_lem = row_put block_op_end 0 (sh block_op_end) (placed_other block_op_end refl refl refl)

      block_grew : Grew C made
      unfolding with_block with_values block_placed block_written with_row write write_range op_count block_count region_count value_count operand_count successor_count
      block_grew =
          let e0 = counts_else 0 (λ e. omega arith) (λ e. omega arith) in
          let e1 = blocks_count in
          let e2 = counts_else 2 (λ e. omega arith) (λ e. omega arith) in
          let e3 = values_counted in
          let e4 = counts_else 4 (λ e. omega arith) (λ e. omega arith) in
          let e5 = counts_else 5 (λ e. omega arith) (λ e. omega arith) in
          record {
            ops = omega arith;
            blocks = omega arith;
            regions = omega arith;
            values = omega arith;
            operands = omega arith;
            successors = omega arith;
            kind = λ i l. same C made op_kind (placed_other op_kind refl refl refl) i;
            parent = λ i l. same C made op_parent (placed_other op_parent refl refl refl) i;
            location = λ i l. same C made op_location (placed_other op_location refl refl refl) i;
            depth = λ i l. same C made op_depth (placed_other op_depth refl refl refl) i;
            region_first = λ i l. same C made op_region_first (placed_other op_region_first refl refl refl) i;
            region_end = λ i l. same C made op_region_end (placed_other op_region_end refl refl refl) i;
            result_first = λ i l. same C made op_result_first (placed_other op_result_first refl refl refl) i;
            result_end = λ i l. same C made op_result_end (placed_other op_result_end refl refl refl) i;
            operand_first = λ i l. same C made op_operand_first (placed_other op_operand_first refl refl refl) i;
            operand_end = λ i l. same C made op_operand_end (placed_other op_operand_end refl refl refl) i;
            successor_first = λ i l. same C made op_successor_first (placed_other op_successor_first refl refl refl) i;
            successor_end = λ i l. same C made op_successor_end (placed_other op_successor_end refl refl refl) i;
            keys = λ i l. same C made op_attributes (placed_other op_attributes refl refl refl) i;
            around = λ i l. same C made region_op (placed_other region_op refl refl refl) i;
            region = (row_put block_region new.region (sh block_region) (placed_other block_region refl refl refl)).old;
            block_place = (row_put block_location new.location (sh block_location) (placed_other block_location refl refl refl)).old;
            argument_first = (row_put block_argument_first (value_count C) (sh block_argument_first) (placed_other block_argument_first refl refl refl)).old;
            argument_end = (row_put block_argument_end (value_count C + length new.types) (sh block_argument_end) (placed_other block_argument_end refl refl refl)).old;
            block_keys = (row_put block_attributes 0 (sh block_attributes) (placed_other block_attributes refl refl refl)).old;
            type = type_run.old;
            owner = owner_run.old;
            operand_parts = λ a b m. ap (λ (xs : List ℕ). slice xs a b) (placed_other operand_words refl refl refl);
            successor_parts = λ a b m. ap (λ (xs : List ℕ). slice xs a b) (placed_other successor_words refl refl refl);
            slot_keys = placed_other slot_key refl refl refl;
            slot_kinds = placed_other slot_kind refl refl refl;
            slot_contents = placed_other slot_content refl refl refl;
            ops_in = λ m n l w. let f = first_put.old m l in let e = end_put_lem.old m l in record { from = omega arith; below = omega arith };
            blocks_in = λ r m l w. (range_wider r l).holds m w;
            op_ends = λ m l. let e = end_put_lem.old m l in let b = (h.block m l).ops in omega arith;
            block_ends = λ r l. let w = (range_wider r l).ends in omega arith;
          }

      block_added : BlockAdded C made new
      unfolding with_block with_values block_placed block_written with_row write write_range op_count block_count region_count operand_count successor_count attribute_count
      block_added =
          record {
            grew = block_grew;
            values = values_added;
            op_counted = counts_else 0 (λ e. omega arith) (λ e. omega arith);
            block_counted = blocks_count;
            region_counted = counts_else 2 (λ e. omega arith) (λ e. omega arith);
            operand_counted = counts_else 4 (λ e. omega arith) (λ e. omega arith);
            successor_counted = counts_else 5 (λ e. omega arith) (λ e. omega arith);
            attribute_counted = counts_else 6 (λ e. omega arith) (λ e. omega arith);
            region_word = (row_put block_region new.region (sh block_region) (placed_other block_region refl refl refl)).new;
            location_word = (row_put block_location new.location (sh block_location) (placed_other block_location refl refl refl)).new;
            argument_first = (row_put block_argument_first (value_count C) (sh block_argument_first) (placed_other block_argument_first refl refl refl)).new;
            argument_end = (row_put block_argument_end (value_count C + length new.types) (sh block_argument_end) (placed_other block_argument_end refl refl refl)).new;
            opless = (row_put block_op_end 0 (sh block_op_end) (placed_other block_op_end refl refl refl)).new;
            keys = (row_put block_attributes 0 (sh block_attributes) (placed_other block_attributes refl refl refl)).new;
          }

      -- ---- the links

      op_next_column : made op_next ≡ C op_next
      unfolding with_block with_values block_placed block_written with_row write write_range
      op_next_column = placed_other op_next refl refl refl

      region_put : Put C made block_region (block_count C) new.region
      unfolding with_block with_values block_placed block_written with_row write write_range
      region_put = row_put block_region new.region (sh block_region) (placed_other block_region refl refl refl)

      -- the row has the region of each block of before
      row_region : (i : ℕ) → i < block_count C → at row block_region i ≡ at C block_region i
      unfolding with_block with_values block_placed block_written with_row write write_range
      row_region i l = sym (same row made block_region (placed_other block_region refl refl refl) i) ∙ region_put.old i l

      block_put : new.region < region_count C → BlockPut C made new.region
      unfolding with_block with_values block_placed block_written with_row write write_range at block_count
      block_put l =
          let c = h.counts.regions in
          let e : length (C region_block_end) ≡ 256 = sh region_block_end in
          let x : length (C block_next) ≡ 256 = sh block_next in
          let b = room.blocks in
          record {
            child =
                record {
                  kept = region_put.old;
                  owner = region_put.new;
                  last = λ i k q z. placed_last row block_region block_next region_block_first region_block_end new.region new.region (block_count C) blocks_apart (omega arith) i k (row_region i k ∙ q) z;
                  others = λ i k ne. placed_else row block_region block_next region_block_first region_block_end new.region new.region (block_count C) blocks_apart (omega arith) i k (λ q z. ne (sym (row_region i k) ∙ q) z);
                };
            count = blocks_count;
            link = placed_new row block_region block_next region_block_first region_block_end new.region new.region (block_count C) blocks_apart (omega arith);
            end = placed_end row block_region block_next region_block_first region_block_end new.region new.region (block_count C) blocks_apart (omega arith);
            ends = λ r ne. placed_end_else row block_region block_next region_block_first region_block_end new.region new.region (block_count C) blocks_apart r ne;
          }

      -- ---- what marks rest on

      words_behind : (k : ℕ) → block_next < k → made k ≡ C k
      unfolding with_block block_written
      words_behind k l =
          count_behind (with_values placed (of_block (block_count C)) new.types) k l 1 (block_count C + 1)
          ∙ values_behind placed k l (of_block (block_count C)) new.types
          ∙ placed_other k (apart k l region_block_first refl) (apart k l region_block_end refl) (apart k l block_next refl)
          ∙ row_behind C block_region (block_count C) _ k (omega arith)

      pub block_behind : Behind C (with_block C new)
      block_behind = grew_behind C made block_grew words_behind (counts_else 7 (λ e. omega arith) (λ e. omega arith))

      -- ---- the call

      pub block_reads : store_of (with_block C new) ≡ applied (store_of C) (new_block new)
      block_reads = added_reads C made new h block_added

      pub block_laid_lem : new.region < region_count C → Laid (with_block C new)
      block_laid_lem l =
          added_laid C made new h block_added room (range_place l) l (block_put l)
          (λ i k. same C made op_next op_next_column i) end_put_lem.old
