-- The call that adds an operation writes its row, its regions, its results and its lists behind the old ones, and extends its parent's range; so it does what the rules say and keeps the columns laid out. Assumes nothing.
use Prim.Native.Nat.{ℕ, ◌+◌, ◌<◌, ◌≤◌}
use native.Mathlib.Omega.{arith}
use mathlib.Core.Bool.{false}
use Rattle.std.specs.Prelude.{Option, None, Some}
use mathlib.Core.Path.{◌≡◌, refl, sym, ap, subst, ◌∙◌}
use lib.Dec.{eqb}
use lib.ListN.{length, replicate, length-replicate, get_or-replicate}
use Rattle.rules.specs.declared.types.Owner.TheVariants.{Op as of_op}
use Rattle.rules.specs.Building.{NewOperation, new_operation, applied}
use Rattle.layout.specs.Columns.{Cols, at, write, write_range, counts, op_kind, op_parent, op_next, region_block_end, block_region, block_location, block_argument_first, block_argument_end, block_op_first, block_op_end, block_attributes, operand_words, successor_words, slot_key, slot_kind, slot_content, block_next}
use Rattle.layout.specs.Reading.{op_count, block_count, region_count, value_count, operand_count, successor_count, attribute_count, store_of}
use Rattle.layout.proofs.Laid.{Shaped, InRange, Laid}
use Rattle.mutation.specs.Doing.{Behind}
use Rattle.mutation.proofs.Behind.{apart}
use Rattle.mutation.specs.AddedWrites.{with_row, with_values, parent_code, ParentBelow, op_placed, with_regions, with_slice, op_row, op_written, with_operation}
use Rattle.mutation.proofs.Entries.{Run, same}
use Rattle.mutation.proofs.Grew.{Grew}
use Rattle.mutation.proofs.AddedBehind.{row_behind, count_behind, regions_behind, values_behind, slice_behind, grew_behind}
use Rattle.mutation.proofs.OperationAdded.{OperationAdded, added_reads}
use Rattle.mutation.proofs.OperationLaid.{RoomFor, added_laid}
use Rattle.mutation.proofs.Extended.{Wider, wider_same}
use Rattle.mutation.proofs.ChildPlaced.{placed_wider, placed_place, placed_end, placed_end_else, placed_new, placed_last, placed_else}
use Rattle.mutation.proofs.OperationColumns.{OpRowPut, row_puts, around_run, first_run_lem, end_run, type_run, owner_run, operand_run, successor_run, values_added}
use Rattle.mutation.proofs.OperationWritten.{ops_apart, row, placed, c₁, c₂, c₃, c₄, made, placed_other, counts_else, ops_count, regions_counted, values_counted, operands_counted, successors_counted}
use Rattle.mutation.proofs.ChildrenLinked.{end_under, OpPut}

-- ---- the parent's range

wider_under : (C : Cols) (parent : Option ℕ) (n m : ℕ) → m < length (C block_op_first) → m < length (C block_op_end) → at C block_op_end m ≤ n
    → Wider (at C block_op_first m) (at C block_op_end m) (at (op_placed C parent n) block_op_first m) (at (op_placed C parent n) block_op_end m) n
unfolding op_placed
wider_under C None n m lf le l = wider_same _ _ _ _ n refl refl l
wider_under C (Some b) n m lf le l = placed_wider C op_parent op_next block_op_first block_op_end b (b + 1) n ops_apart m lf le l

place_under : (C : Cols) (parent : Option ℕ) (n b : ℕ) → parent ≡ Some b → b < length (C block_op_first) → b < length (C block_op_end) → at C block_op_end b ≤ n
    → InRange (at (op_placed C parent n) block_op_first b) (at (op_placed C parent n) block_op_end b) n
unfolding op_placed
place_under C parent n b e lf le l =
    subst (λ (p : Option ℕ). InRange (at (op_placed C p n) block_op_first b) (at (op_placed C p n) block_op_end b) n) (sym e)
    (placed_place C op_parent op_next block_op_first block_op_end b (b + 1) n ops_apart lf le l)

end_under_lem : (C : Cols) (parent : Option ℕ) (n b : ℕ) → (parent ≡ Some b → ⊥) → at (op_placed C parent n) block_op_end b ≡ at C block_op_end b
unfolding op_placed
end_under_lem C None n b ne = refl
end_under_lem C (Some q) n b ne = placed_end_else C op_parent op_next block_op_first block_op_end q (q + 1) n ops_apart b (λ e. ne (ap {B = Option ℕ} Some (sym e)))

end_new : (C : Cols) (parent : Option ℕ) (n b : ℕ) → parent ≡ Some b → b < length (C block_op_end) → at (op_placed C parent n) block_op_end b ≡ n + 1
unfolding op_placed
end_new C parent n b e le =
    subst (λ (p : Option ℕ). at (op_placed C p n) block_op_end b ≡ n + 1) (sym e) (placed_end C op_parent op_next block_op_first block_op_end b (b + 1) n ops_apart le)

-- ---- the links

link_new : (C : Cols) (parent : Option ℕ) (n b : ℕ) → n < length (C op_next) → parent ≡ Some b → at (op_placed C parent n) op_next n ≡ 0
unfolding op_placed
link_new C parent n b l e =
    subst (λ (p : Option ℕ). at (op_placed C p n) op_next n ≡ 0) (sym e) (placed_new C op_parent op_next block_op_first block_op_end b (b + 1) n ops_apart l)

link_last : (C : Cols) (parent : Option ℕ) (n i : ℕ) → n < length (C op_next) → i < n → at C op_parent i ≡ parent_code parent → i + 1 ≡ end_under C parent → at (op_placed C parent n) op_next i ≡ n
unfolding op_placed end_under parent_code
link_last C None n i long l e q = absurd (let w : ⊥ = omega arith in w)
link_last C (Some b) n i long l e q = placed_last C op_parent op_next block_op_first block_op_end b (b + 1) n ops_apart long i l e q

link_else : (C : Cols) (parent : Option ℕ) (n i : ℕ) → n < length (C op_next) → i < n → (at C op_parent i ≡ parent_code parent → i + 1 ≡ end_under C parent → ⊥) → at (op_placed C parent n) op_next i ≡ at C op_next i
unfolding op_placed end_under parent_code
link_else C None n i long l ne = refl
link_else C (Some b) n i long l ne = placed_else C op_parent op_next block_op_first block_op_end b (b + 1) n ops_apart long i l ne

module _ (C : Cols) (new : NewOperation) (sh : Shaped C) (room : RoomFor C new) where
  abbrev D : Cols
  D = made C new

  counts_kept : (j : ℕ) → (j ≡ 0 → ⊥) → (j ≡ 2 → ⊥) → (j ≡ 3 → ⊥) → (j ≡ 4 → ⊥) → (j ≡ 5 → ⊥) → at D counts j ≡ at C counts j
  counts_kept = counts_else C new sh room

  -- what the columns hold
  puts : OpRowPut C D new
  puts = row_puts C new sh room

  ends : Run C D region_block_end (region_count C) (replicate new.regions 0)
  ends = end_run C new sh room

  unwritten : (j : ℕ) → eqb j block_op_first ≡ false → eqb j block_op_end ≡ false → eqb j op_next ≡ false → placed C new j ≡ row C new j
  unwritten = placed_other C new

  module _ (h : Laid C) where
    range_wider : (m : ℕ) → m < block_count C → Wider (at C block_op_first m) (at C block_op_end m) (at D block_op_first m) (at D block_op_end m) (op_count C)
    unfolding with_operation op_written with_regions with_values with_slice op_row with_row write write_range at
    range_wider m l =
        let c = h.counts.blocks in
        let f : length (C block_op_first) ≡ 256 = sh block_op_first in
        let e : length (C block_op_end) ≡ 256 = sh block_op_end in
        wider_under (row C new) new.parent (op_count C) m (omega arith) (omega arith) (h.block m l).ops

    range_place : (b : ℕ) → new.parent ≡ Some b → b < block_count C → InRange (at D block_op_first b) (at D block_op_end b) (op_count C)
    unfolding with_operation op_written with_regions with_values with_slice op_row with_row write write_range at
    range_place b q l =
        let c = h.counts.blocks in
        let f : length (C block_op_first) ≡ 256 = sh block_op_first in
        let e : length (C block_op_end) ≡ 256 = sh block_op_end in
        place_under (row C new) new.parent (op_count C) b q (omega arith) (omega arith) (h.block b l).ops

    operation_grew : Grew C D
    unfolding with_operation op_written with_regions with_values with_slice op_row with_row write write_range op_count block_count region_count value_count operand_count successor_count
    operation_grew =
        let e0 = ops_count C new sh room in
        let e1 = counts_kept 1 (λ q. omega arith) (λ q. omega arith) (λ q. omega arith) (λ q. omega arith) (λ q. omega arith) in
        let e2 = regions_counted C new sh room in
        let e3 = values_counted C new sh room in
        let e4 = operands_counted C new sh room in
        let e5 = successors_counted C new sh room in
        record {
          ops = omega arith;
          blocks = omega arith;
          regions = omega arith;
          values = omega arith;
          operands = omega arith;
          successors = omega arith;
          kind = puts.kind_put.old;
          parent = puts.parent_put.old;
          location = puts.location_put.old;
          depth = puts.depth_put.old;
          region_first = puts.region_first.old;
          region_end = puts.region_end.old;
          result_first = puts.result_first.old;
          result_end = puts.result_end.old;
          operand_first = puts.operand_first.old;
          operand_end = puts.operand_end.old;
          successor_first = puts.successor_first.old;
          successor_end = puts.successor_end.old;
          keys = puts.keys.old;
          around = (around_run C new sh room).old;
          region = λ i l. same C D block_region (unwritten block_region refl refl refl) i;
          block_place = λ i l. same C D block_location (unwritten block_location refl refl refl) i;
          argument_first = λ i l. same C D block_argument_first (unwritten block_argument_first refl refl refl) i;
          argument_end = λ i l. same C D block_argument_end (unwritten block_argument_end refl refl refl) i;
          block_keys = λ i l. same C D block_attributes (unwritten block_attributes refl refl refl) i;
          type = (type_run C new sh room).old;
          owner = (owner_run C new sh room).old;
          operand_parts = (operand_run C new sh room).slices;
          successor_parts = (successor_run C new sh room).slices;
          slot_keys = unwritten slot_key refl refl refl;
          slot_kinds = unwritten slot_kind refl refl refl;
          slot_contents = unwritten slot_content refl refl refl;
          ops_in = λ m n l w. (range_wider m l).holds n w;
          blocks_in = λ r m l w. let f = (first_run_lem C new sh room).old r l in let e = ends.old r l in record { from = omega arith; below = omega arith };
          op_ends = λ m l. let w = (range_wider m l).ends in omega arith;
          block_ends = λ r l. let e = ends.old r l in let b = (h.region r l).blocks in omega arith;
        }

    operation_added : OperationAdded C D new
    unfolding with_operation op_written with_regions with_values with_slice op_row with_row write write_range op_count block_count region_count value_count operand_count successor_count attribute_count
    operation_added =
        record {
          grew = operation_grew;
          values = values_added C new sh room;
          op_counted = ops_count C new sh room;
          block_counted = counts_kept 1 (λ q. omega arith) (λ q. omega arith) (λ q. omega arith) (λ q. omega arith) (λ q. omega arith);
          region_counted = regions_counted C new sh room;
          operand_counted = operands_counted C new sh room;
          successor_counted = successors_counted C new sh room;
          attribute_counted = counts_kept 6 (λ q. omega arith) (λ q. omega arith) (λ q. omega arith) (λ q. omega arith) (λ q. omega arith);
          kind_word = puts.kind_put.new;
          parent_word = puts.parent_put.new;
          location_word = puts.location_put.new;
          depth_word = puts.depth_put.new;
          region_first = puts.region_first.new;
          region_end = puts.region_end.new;
          result_first = puts.result_first.new;
          result_end = puts.result_end.new;
          operand_first = puts.operand_first.new;
          operand_end = puts.operand_end.new;
          successor_first = puts.successor_first.new;
          successor_end = puts.successor_end.new;
          keys = puts.keys.new;
          around = λ i l. (around_run C new sh room).new i (rw length-replicate l) ∙ get_or-replicate new.regions i _ 0 l;
          blockless = λ i l. ends.new i (rw length-replicate l) ∙ get_or-replicate new.regions i _ 0 l;
          operand_part = (operand_run C new sh room).last;
          successor_part = (successor_run C new sh room).last;
        }

    -- ---- the links

    -- the row has the parent of each operation of before, and the ends of ranges
    row_parent : (i : ℕ) → i < op_count C → at (row C new) op_parent i ≡ at C op_parent i
    unfolding with_operation op_written with_regions with_values with_slice op_row with_row write write_range
    row_parent i l = sym (same (row C new) D op_parent (unwritten op_parent refl refl refl) i) ∙ puts.parent_put.old i l

    row_end : (p : Option ℕ) → end_under (row C new) p ≡ end_under C p
    unfolding end_under op_row with_row write at
    row_end None = refl
    row_end (Some b) = refl

    block_next_column : D block_next ≡ C block_next
    unfolding with_operation op_written with_regions with_values with_slice op_row with_row write write_range
    block_next_column = unwritten block_next refl refl refl

    op_put : ParentBelow (block_count C) new.parent → OpPut C D new.parent
    unfolding with_operation op_written with_regions with_values with_slice op_row with_row write write_range at op_count ParentBelow
    op_put below =
        let R = row C new in
        let k = h.counts.blocks in
        let e : length (C block_op_end) ≡ 256 = sh block_op_end in
        let x : length (C op_next) ≡ 512 = sh op_next in
        let o = room.ops in
        record {
          child =
              record {
                kept = puts.parent_put.old;
                owner = puts.parent_put.new;
                last = λ i l q z. link_last R new.parent (op_count C) i (omega arith) l (row_parent i l ∙ q) (z ∙ sym (row_end new.parent));
                others = λ i l ne. link_else R new.parent (op_count C) i (omega arith) l (λ q z. ne (sym (row_parent i l) ∙ q) (z ∙ row_end new.parent));
              };
          count = ops_count C new sh room;
          link = λ b q. link_new R new.parent (op_count C) b (omega arith) q;
          end = λ b q. let lb : b < block_count C = subst (ParentBelow (block_count C)) q below in end_new R new.parent (op_count C) b q (omega arith);
          ends = λ b l ne. end_under_lem R new.parent (op_count C) b ne;
        }

    -- ---- what marks rest on

    words_behind : (k : ℕ) → block_next < k → D k ≡ C k
    unfolding with_operation op_written op_row
    words_behind k l =
        count_behind (c₄ C new) k l 0 (op_count C + 1)
        ∙ slice_behind (c₃ C new) k l successor_words 5 new.successors refl
        ∙ slice_behind (c₂ C new) k l operand_words 4 new.operands refl
        ∙ values_behind (c₁ C new) k l (of_op (op_count C)) new.types
        ∙ regions_behind (placed C new) k l (op_count C) new.regions
        ∙ unwritten k (apart k l block_op_first refl) (apart k l block_op_end refl) (apart k l op_next refl)
        ∙ row_behind C op_kind (op_count C) _ k (omega arith)

    pub operation_behind : Behind C (with_operation C new)
    operation_behind = grew_behind C D operation_grew words_behind (counts_kept 7 (λ q. omega arith) (λ q. omega arith) (λ q. omega arith) (λ q. omega arith) (λ q. omega arith))

    -- ---- the call

    pub operation_reads : store_of (with_operation C new) ≡ applied (store_of C) (new_operation new)
    operation_reads = added_reads C D new h operation_added

    pub operation_laid : ParentBelow (block_count C) new.parent → Laid (with_operation C new)
    unfolding ParentBelow
    operation_laid p = added_laid C D new h operation_added room (λ b e. range_place b e (subst (ParentBelow (block_count C)) e p)) p (op_put p) (λ i l. same C D block_next block_next_column i) ends.old
