-- Columns with one block more are read as the rules' store with that block, and are laid out: the old rows are, and the new one is by what was written. Assumes nothing.
use Prim.Native.Nat.{ℕ, ◌+◌, ◌<◌, ◌≤◌}
use native.Mathlib.Omega.{arith}
use mathlib.Core.Bool.{true}
use mathlib.Core.List.{List, [], ◌++◌}
use mathlib.Core.Logic.{◌⊎◌, inl, inr}
use mathlib.Core.Path.{◌≡◌, sym, ap, ap₂, subst, ◌∙◌}
use borrow.Author.Tests.{lt-ltb}
use lib.ListN.{length}
use Rattle.rules.specs.Lists.{sum}
use Rattle.rules.specs.Store.{Block, max_blocks, max_values}
use Rattle.rules.specs.declared.types.Owner.TheVariants.{Block as of_block}
use Rattle.rules.specs.Building.{NewBlock, new_block, applied, values_for}
use Rattle.rules.proofs.Basics.Tests.{and_both}
use Rattle.layout.specs.Columns.{Cols, at, op_operand_end, op_successor_end, op_attributes, region_op, region_block_first, region_block_end, block_region, block_location, block_argument_first, block_argument_end, block_op_end, block_attributes, op_next}
use Rattle.layout.specs.Reading.{tabulate, op_count, block_count, region_count, value_count, operand_count, successor_count, attribute_count, slots_of, op_of, block_of, value_of, store_of}
use Rattle.layout.specs.Soundness.{end_before, in_owner, attribute_sum}
use Rattle.layout.proofs.Laid.{InRange, BlockLaid, Laid, within_of}
use Rattle.layout.proofs.Tabulate.{blocks_length}
use Rattle.mutation.proofs.LinksKept.{EntriesKept, op_links_kept}
use Rattle.mutation.proofs.Grew.{Grew, op_same, block_same, end_kept, op_kept, block_kept, region_kept}
use Rattle.mutation.proofs.Rows.{ValuesAdded, values_read, values_laid, no_attributes, new_owned, old_or_last, rows_last, rows_kept, sum_last}
use Rattle.mutation.proofs.ChildrenLinked.{BlockPut, blocks_linked}

-- D is C with this block
pub record BlockAdded (C D : Cols) (new : NewBlock) : Type 0 where
  pub grew : Grew C D
  pub values : ValuesAdded C D (of_block (block_count C)) new.types
  pub op_counted : op_count D ≡ op_count C
  pub block_counted : block_count D ≡ block_count C + 1
  pub region_counted : region_count D ≡ region_count C
  pub operand_counted : operand_count D ≡ operand_count C
  pub successor_counted : successor_count D ≡ successor_count C
  pub attribute_counted : attribute_count D ≡ attribute_count C
  pub region_word : at D block_region (block_count C) ≡ new.region
  pub location_word : at D block_location (block_count C) ≡ new.location
  pub argument_first : at D block_argument_first (block_count C) ≡ value_count C
  pub argument_end : at D block_argument_end (block_count C) ≡ value_count C + length new.types
  pub opless : at D block_op_end (block_count C) ≡ 0
  pub keys : at D block_attributes (block_count C) ≡ 0

-- there is room for a block with these arguments
pub record BlockRoom (C : Cols) (types : List ℕ) : Type 0 where
  pub blocks : block_count C + 1 ≤ max_blocks
  pub values : value_count C + length types ≤ max_values

module _ (C D : Cols) (new : NewBlock) (h : Laid C) (a : BlockAdded C D new) where
  -- ---- what is read

  row_read : ◌≡◌ {A = Block} (block_of D (block_count C)) (record { region = new.region; location = new.location; attributes = [] })
  unfolding block_of
  row_read = λ i. record { region = a.region_word i; location = a.location_word i; attributes = no_attributes D (slots_of (of_block (block_count C))) (at D block_attributes (block_count C)) a.keys i }

  pub added_reads : store_of D ≡ applied (store_of C) (new_block new)
  unfolding store_of applied
  added_reads =
      let g = a.grew in
      let ops = rows_kept (op_count D) (op_count C) (op_of D) (op_of C) (op_same C D h g) a.op_counted in
      let blocks = rows_last (block_count D) (block_count C) (block_of D) (block_of C) (block_same C D h g) _ a.block_counted row_read in
      let around = rows_kept (region_count D) (region_count C) (at D region_op) (at C region_op) g.around a.region_counted in
      let count : block_count C ≡ length (store_of C).blocks = sym (blocks_length C) in
      let values = values_read C D (of_block (block_count C)) new.types h g a.values ∙ ap (λ (n : ℕ). tabulate (value_count C) (value_of C) ++ values_for (of_block n) new.types) count in
      λ i. record { ops = ops i; blocks = blocks i; regions = around i; values = values i }

  -- ---- the layout

  -- its region's range holds it
  abbrev InRegionRange : Type 0
  InRegionRange = InRange (at D region_block_first new.region) (at D region_block_end new.region) (block_count C)

  new_block_lem : InRegionRange → new.region < region_count C → BlockLaid D (block_count C)
  new_block_lem place l =
      let er = a.region_word in
      let ec = a.region_counted in
      let eo = a.opless in
      let ek = a.keys in
      record {
        region_in = omega arith;
        place = subst (λ (r : ℕ). InRange (at D region_block_first r) (at D region_block_end r) (block_count C)) (sym er) place;
        arguments = new_owned D _ _ _ (value_count C) (length new.types) _ _ a.argument_first a.argument_end (omega arith) a.values.owner;
        ops = omega arith;
        keys = omega arith;
      }

  blocks_laid : InRegionRange → new.region < region_count C → (m : ℕ) → m < block_count D → BlockLaid D m
  blocks_laid place r m l = go (old_or_last m (block_count C) (subst (λ (n : ℕ). m < n) a.block_counted l))
    where
      go : (m < block_count C) ⊎ (m ≡ block_count C) → BlockLaid D m
      go (inl b) = block_kept C D h a.grew m b
      go (inr e) = subst (BlockLaid D) (sym e) (new_block_lem place r)

  new_value : (i : ℕ) → i < length new.types → in_owner D (value_count C + i) (of_block (block_count C)) ≡ true
  unfolding in_owner
  new_value i l =
      let ef = a.argument_first in
      let ee = a.argument_end in
      let ec = a.block_counted in
      and_both _ _ (lt-ltb (block_count C) (block_count D) (omega arith)) (within_of (at D block_argument_first (block_count C)) (at D block_argument_end (block_count C)) (value_count C + i) (record { from = omega arith; below = omega arith }))

  last_end : (k : ℕ) → ((i : ℕ) → i < op_count C → at D k i ≡ at C k i) → end_before D k (op_count D) ≡ end_before C k (op_count C)
  last_end k kept = ap (end_before D k) a.op_counted ∙ end_kept C D k (op_count C) (op_count C) (omega arith) kept

  keys_counted : attribute_sum D ≡ attribute_count D
  unfolding attribute_sum
  keys_counted =
      ap₂ ◌+◌
      (ap sum (rows_kept (op_count D) (op_count C) (at D op_attributes) (at C op_attributes) a.grew.keys a.op_counted))
      (ap sum (rows_last (block_count D) (block_count C) (at D block_attributes) (at C block_attributes) a.grew.block_keys 0 a.block_counted a.keys) ∙ sum_last _)
      ∙ h.attributes ∙ sym a.attribute_counted

  pub added_laid : BlockRoom C new.types → InRegionRange → new.region < region_count C → BlockPut C D new.region → EntriesKept C D op_next (op_count C) → EntriesKept C D block_op_end (block_count C) → Laid D
  added_laid room place r put links ends =
      let c = h.counts in
      let e1 = a.op_counted in
      let e2 = a.block_counted in
      let e3 = a.region_counted in
      let e5 = a.operand_counted in
      let e6 = a.successor_counted in
      let e7 = a.attribute_counted in
      record {
        counts = record { ops = omega arith; blocks = omega arith; regions = omega arith; values = omega arith; operands = omega arith; successors = omega arith; attributes = omega arith };
        op = λ n l. op_kept C D h a.grew n (omega arith);
        block = blocks_laid place r;
        region = λ n l. region_kept C D h a.grew n (omega arith);
        value = values_laid C D (of_block (block_count C)) new.types h a.grew a.values new_value;
        operand_end = last_end op_operand_end a.grew.operand_end ∙ h.operand_end ∙ sym e5;
        successor_end = last_end op_successor_end a.grew.successor_end ∙ h.successor_end ∙ sym e6;
        attributes = keys_counted;
        op_link = op_links_kept C D h e1 a.grew.parent links ends;
        block_link = blocks_linked C D new.region h put;
      }
