-- Columns with one operation more are laid out: the old rows are, and the new rows are by what was written. Assumes nothing.
use Prim.Native.Nat.{ℕ, ◌+◌, ◌<◌}
use native.Mathlib.Numerals.{add-one}
use native.Mathlib.Omega.{arith}
use mathlib.Core.Bool.{true}
use Rattle.std.specs.Prelude.{Option, None, Some}
use mathlib.Core.Logic.{◌⊎◌, inl, inr}
use mathlib.Core.Path.{◌≡◌, refl, sym, ap, ap₂, subst, ◌∙◌}
use borrow.Author.Tests.{lt-ltb, eq-eqb}
use lib.ListN.{length}
use Rattle.rules.specs.Lists.{sum}
use Rattle.rules.specs.declared.types.Owner.TheVariants.{Op as of_op}
use Rattle.rules.specs.Building.{NewOperation}
use Rattle.rules.proofs.Basics.Tests.{and_both}
use Rattle.layout.specs.Columns.{Cols, at, op_region_first, op_region_end, op_result_first, op_result_end, op_operand_end, op_successor_end, op_attributes, region_op, block_op_first, block_op_end, block_attributes, block_next, region_block_end}
use Rattle.layout.specs.Reading.{op_count, block_count, region_count, value_count, attribute_count, parent_from}
use Rattle.layout.specs.Soundness.{end_before, placed, in_owner, attribute_sum}
use Rattle.layout.proofs.Laid.{InRange, OpLaid, RegionLaid, Laid, within_of}
use Rattle.mutation.proofs.LinksKept.{EntriesKept, block_links_kept}
use Rattle.mutation.specs.AddedWrites.{OpRoom, ParentBelow, depth_under}
use Rattle.mutation.proofs.Grew.{placed_under, end_kept, op_kept, block_kept, region_kept}
use Rattle.mutation.proofs.Rows.{values_laid, new_owned, old_or_last, old_or_new, rows_last, rows_kept, sum_last}
use Rattle.mutation.proofs.OperationAdded.{OperationAdded, parent_read_lem}
use Rattle.mutation.proofs.ChildrenLinked.{OpPut, ops_linked}

-- there is room for this operation
abbrev pub RoomFor : Cols → NewOperation → Type 0
RoomFor C new = OpRoom C new.regions (length new.types) (length new.operands) (length new.successors)

module _ (C D : Cols) (new : NewOperation) (h : Laid C) (a : OperationAdded C D new) where
  -- ---- the new operation

  -- its parent's range holds it
  abbrev InBlockRange : Type 0
  InBlockRange = (b : ℕ) → new.parent ≡ Some b → InRange (at D block_op_first b) (at D block_op_end b) (op_count C)

  new_placed : InBlockRange → (p : Option ℕ) → new.parent ≡ p → ParentBelow (block_count C) p → placed D (op_count C) p ≡ true
  unfolding placed depth_under ParentBelow
  new_placed place None e i = eq-eqb _ _ (a.depth_word ∙ ap (depth_under C) e)
  new_placed place (Some b) e i =
      placed_under C D h a.grew (op_count C) b i (h.region _ (h.block b i).region_in).op_in (a.depth_word ∙ ap (depth_under C) e) (place b e)

  new_op : InBlockRange → ParentBelow (block_count C) new.parent → OpLaid D (op_count C)
  new_op place i =
      let g = a.grew in
      let er = a.region_counted in
      let eo = a.operand_counted in
      let es = a.successor_counted in
      let of = a.operand_first in
      let oe = a.operand_end in
      let sf = a.successor_first in
      let se = a.successor_end in
      let ek = a.keys in
      record {
        place = subst (λ (p : Option ℕ). placed D (op_count C) p ≡ true) (sym (ap parent_from a.parent_word ∙ parent_read_lem new.parent)) (new_placed place new.parent refl i);
        regions = new_owned D _ _ _ (region_count C) new.regions _ _ a.region_first a.region_end (omega arith) a.around;
        results = new_owned D _ _ _ (value_count C) (length new.types) _ _ a.result_first a.result_end (omega arith) a.values.owner;
        operands = record { follows = of ∙ sym h.operand_end ∙ sym (end_kept C D op_operand_end (op_count C) (op_count C) (omega arith) g.operand_end); range = record { rises = omega arith; fits = omega arith } };
        successors = record { follows = sf ∙ sym h.successor_end ∙ sym (end_kept C D op_successor_end (op_count C) (op_count C) (omega arith) g.successor_end); range = record { rises = omega arith; fits = omega arith } };
        keys = omega arith;
      }

  -- ---- the rows

  ops_laid : InBlockRange → ParentBelow (block_count C) new.parent → (n : ℕ) → n < op_count D → OpLaid D n
  ops_laid place p n l = go (old_or_last n (op_count C) (subst (λ (m : ℕ). n < m) a.op_counted l))
    where
      go : (n < op_count C) ⊎ (n ≡ op_count C) → OpLaid D n
      go (inl b) = op_kept C D h a.grew n b
      go (inr e) = subst (OpLaid D) (sym e) (new_op place p)

  new_region : (i : ℕ) → i < new.regions → RegionLaid D (region_count C + i)
  new_region i l =
      let eo = a.around i l in
      let ec = a.op_counted in
      let eb = a.blockless i l in
      let ef : at D op_region_first (at D region_op (region_count C + i)) ≡ region_count C = ap (at D op_region_first) eo ∙ a.region_first in
      let ee : at D op_region_end (at D region_op (region_count C + i)) ≡ region_count C + new.regions = ap (at D op_region_end) eo ∙ a.region_end in
      record { op_in = omega arith; place = record { from = omega arith; below = omega arith }; blocks = omega arith }

  regions_laid : (r : ℕ) → r < region_count D → RegionLaid D r
  regions_laid r l = go (old_or_new r (region_count C) new.regions (subst (λ (m : ℕ). r < m) a.region_counted l))
    where
      go : (r < region_count C) ⊎ ((i : ℕ) × (i < new.regions) × (r ≡ region_count C + i)) → RegionLaid D r
      go (inl b) = region_kept C D h a.grew r b
      go (inr n) = subst (RegionLaid D) (sym n.2) (new_region n.0 n.1)

  new_value : (i : ℕ) → i < length new.types → in_owner D (value_count C + i) (of_op (op_count C)) ≡ true
  unfolding in_owner
  new_value i l =
      let ef = a.result_first in
      let ee = a.result_end in
      let ec = a.op_counted in
      and_both _ _ (lt-ltb (op_count C) (op_count D) (omega arith)) (within_of (at D op_result_first (op_count C)) (at D op_result_end (op_count C)) (value_count C + i) (record { from = omega arith; below = omega arith }))

  -- ---- the counts

  last_end : (k : ℕ) → end_before D k (op_count D) ≡ at D k (op_count C)
  unfolding end_before
  last_end k = ap (end_before D k) (a.op_counted ∙ add-one (op_count C))

  keys_counted : attribute_sum D ≡ attribute_count D
  unfolding attribute_sum
  keys_counted =
      ap₂ ◌+◌
      (ap sum (rows_last (op_count D) (op_count C) (at D op_attributes) (at C op_attributes) a.grew.keys 0 a.op_counted a.keys) ∙ sum_last _)
      (ap sum (rows_kept (block_count D) (block_count C) (at D block_attributes) (at C block_attributes) a.grew.block_keys a.block_counted))
      ∙ h.attributes ∙ sym a.attribute_counted

  pub added_laid : RoomFor C new → InBlockRange → ParentBelow (block_count C) new.parent → OpPut C D new.parent → EntriesKept C D block_next (block_count C) → EntriesKept C D region_block_end (region_count C) → Laid D
  added_laid room place p put links ends =
      let c = h.counts in
      let e1 = a.op_counted in
      let e2 = a.block_counted in
      let e3 = a.region_counted in
      let e5 = a.operand_counted in
      let e6 = a.successor_counted in
      let e7 = a.attribute_counted in
      record {
        counts = record { ops = omega arith; blocks = omega arith; regions = omega arith; values = omega arith; operands = omega arith; successors = omega arith; attributes = omega arith };
        op = ops_laid place p;
        block = λ m l. block_kept C D h a.grew m (omega arith);
        region = regions_laid;
        value = values_laid C D (of_op (op_count C)) new.types h a.grew a.values new_value;
        operand_end = last_end op_operand_end ∙ a.operand_end ∙ sym e5;
        successor_end = last_end op_successor_end ∙ a.successor_end ∙ sym e6;
        attributes = keys_counted;
        op_link = ops_linked C D new.parent h put;
        block_link = block_links_kept C D h e2 a.grew.region links ends;
      }
