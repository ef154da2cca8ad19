-- Columns that are cut are laid out, where the store that they are read as is sound, their counts are its totals and the ranges of what
-- stays end within the counts. Assumes nothing.
use Prim.Native.Nat.{ℕ, zero, suc, ◌+◌, ◌<◌, ◌≤◌}
use native.Mathlib.Numerals.{add-one}
use native.Mathlib.Omega.{arith}
use mathlib.Core.Bool.{true}
use mathlib.Core.Path.{◌≡◌, refl, sym, ap, ◌∙◌}
use borrow.Author.Tests.{ltb-true, lt-ltb}
use lib.Dec.{ltb}
use Rattle.rules.specs.Store.{Value, Block, op_exists, region_exists, owner_exists, parent_exists, operand_total, successor_total, attribute_total, no_value, value_at}
use Rattle.rules.specs.declared.types.Owner.{Owner}
use Rattle.rules.specs.declared.types.Owner.TheVariants.{Op as of_op, Block as of_block}
use Rattle.rules.proofs.Basics.Tests.{and_right, and_both, all_at}
use Rattle.rules.proofs.Basics.Appended.{mem_get_d}
use Rattle.rules.proofs.Soundness.Sound.{Sound}
use Rattle.layout.specs.Columns.{Cols, at, op_parent, op_next, op_region_end, op_result_end, op_operand_first, op_operand_end, op_successor_first, op_successor_end, region_op, region_block_end, block_region, block_argument_end, block_op_end, block_next, value_owner}
use Rattle.layout.specs.Reading.{op_count, block_count, region_count, value_count, operand_count, successor_count, attribute_count, parent_from, owner_from, block_of, value_of, store_of}
use Rattle.layout.specs.Soundness.{placed, in_owner, value_laid, next_child, link_holds, parent_linked, op_linked, block_linked}
use Rattle.layout.proofs.Laid.{Laid, Shaped, Counts, OpLaid, BlockLaid, RegionLaid}
use Rattle.layout.proofs.Nesting.{placed_facts, placed_of}
use Rattle.layout.proofs.Linking.{link_of, op_link_lem, block_link_lem}
use Rattle.layout.proofs.Tabulate.{ops_length, blocks_length, regions_length, values_length, op_in_lem, block_in_lem, region_exists_lem, block_read, region_read_lem, value_read, parent_read_lem}
use Rattle.mutation.proofs.LinksKept.{next_same}
use Rattle.undo_log.proofs.Relinked.{Relinked, child_linked_lem}
use Rattle.undo_log.proofs.CutKeeps.{Columns, cut_by, Fewer}
use Rattle.undo_log.proofs.CountsTaken.{parents_low, regions_low}
use Rattle.undo_log.proofs.Totals.{attributes_summed, operands_end, successors_end, end_same, tiled_back}

-- what was written of links and of ends
pub record Rewritten (C : Cols) (x : Columns) : Type 0 where
  pub ops : Relinked (C op_parent) (C op_next) x.op_links x.op_ends 1 (op_count (cut_by C x)) (block_count (cut_by C x)) 256
  pub blocks : Relinked (C block_region) (C block_next) x.block_links x.block_ends 0 (block_count (cut_by C x)) (region_count (cut_by C x)) 256

-- the counts are the store's totals
pub record TotalsAre (D : Cols) : Type 0 where
  pub operands : operand_count D ≡ operand_total (store_of D)
  pub successors : successor_count D ≡ successor_total (store_of D)
  pub attributes : attribute_count D ≡ attribute_total (store_of D)

-- ranges end within the counts
pub record RangesEnd (D : Cols) : Type 0 where
  pub regions : (n : ℕ) → n < op_count D → at D op_region_end n ≤ region_count D
  pub results : (n : ℕ) → n < op_count D → at D op_result_end n ≤ value_count D
  pub arguments : (m : ℕ) → m < block_count D → at D block_argument_end m ≤ value_count D

-- ---- what a sound store says of the rows

module _ (D : Cols) (sd : Sound (store_of D)) where
  parent_in_lem : (n b : ℕ) → n < op_count D → at D op_parent n ≡ suc b → b < block_count D
  unfolding parent_from parent_exists
  parent_in_lem n b l e =
      block_in_lem D b
      (ap (parent_exists (store_of D)) (sym (parent_read_lem D n l ∙ ap parent_from e)) ∙ (sd.op n (omega (arith, ops_length D))).parent_in)

  region_in_lem : (m : ℕ) → m < block_count D → at D block_region m < region_count D
  unfolding block_of
  region_in_lem m l =
      ltb-true _ _
      (sym (region_exists_lem D (at D block_region m)) ∙ ap (λ (b : Block). region_exists (store_of D) b.region) (sym (block_read D m l))
      ∙ (sd.block m (omega (arith, blocks_length D))).region_in)

  op_in_region : (r : ℕ) → r < region_count D → at D region_op r < op_count D
  op_in_region r l =
      op_in_lem D _
      (ap (op_exists (store_of D)) (sym (region_read_lem D r l))
      ∙ all_at _ (store_of D).regions sd.regions_in (mem_get_d (store_of D).regions r 0 (omega (arith, regions_length D))))

  owner_in_lem : (v : ℕ) → v < value_count D → owner_exists (store_of D) (owner_from (at D value_owner v)) ≡ true
  unfolding value_of value_at
  owner_in_lem v l =
      ap (λ (u : Value). owner_exists (store_of D) u.owner) (sym (value_read D v l))
      ∙ all_at _ (store_of D).values sd.values_in (mem_get_d (store_of D).values v no_value (omega (arith, values_length D)))

-- ---- the rows that stay

module _ (C : Cols) (x : Columns) (h : Laid C) (few : Fewer C (cut_by C x)) (new : Rewritten C x) where
  parent_bound : (n b : ℕ) → n < op_count (cut_by C x) → at C op_parent n ≡ suc b → b < 256
  parent_bound n b l e = omega (arith, parents_low C (cut_by C x) h few n l)

  op_end : (n b : ℕ) → n < op_count (cut_by C x) → at C op_parent n ≡ suc b → n < at (cut_by C x) block_op_end b
  unfolding at cut_by
  op_end n b l e = (new.ops.ends b (parent_bound n b l e)).above n l (e ∙ sym (add-one b))

  block_end : (m : ℕ) → m < block_count (cut_by C x) → m < at (cut_by C x) region_block_end (at C block_region m)
  unfolding at cut_by
  block_end m l = (new.blocks.ends (at C block_region m) (regions_low C (cut_by C x) h few m l)).above m l (let e : at C block_region m ≡ at C block_region m + 0 = omega arith in e)

  -- ---- links

  pub op_linked_lem : (n : ℕ) → n < op_count (cut_by C x) → op_linked (cut_by C x) n ≡ true
  unfolding op_linked parent_linked parent_from at cut_by
  op_linked_lem n l = go (at C op_parent n) refl
    where
      go : (w : ℕ) → at C op_parent n ≡ w → parent_linked (cut_by C x) n (parent_from w) (next_child (cut_by C x) op_parent (op_count (cut_by C x)) n) ≡ true
      go zero e = refl
      go (suc b) e =
          ap (λ (next : ℕ). link_holds next (at (cut_by C x) op_next n) (at (cut_by C x) block_op_end b) n)
          (next_same C (cut_by C x) op_parent (op_count (cut_by C x)) n l (λ i m. refl))
          ∙ link_of _ _ _ n
          (child_linked_lem C op_parent op_next x.op_links x.op_ends 1 (op_count (cut_by C x)) _ 256 (op_count C) n b (at C block_op_end b)
          new.ops l few.ops (parent_bound n b l e) (e ∙ sym (add-one b)) (op_link_lem C h b n (omega (arith, few.ops)) (e ∙ sym (add-one b))))

  pub block_linked_lem : (m : ℕ) → m < block_count (cut_by C x) → block_linked (cut_by C x) m ≡ true
  unfolding block_linked at cut_by
  block_linked_lem m l =
      ap (λ (next : ℕ). link_holds next (at (cut_by C x) block_next m) (at (cut_by C x) region_block_end (at C block_region m)) m)
      (next_same C (cut_by C x) block_region (block_count (cut_by C x)) m l (λ i k. refl))
      ∙ link_of _ _ _ m
      (child_linked_lem C block_region block_next x.block_links x.block_ends 0 (block_count (cut_by C x)) _ 256 (block_count C) m (at C block_region m) (at C region_block_end (at C block_region m))
      new.blocks l few.blocks (regions_low C (cut_by C x) h few m l) (let e : at C block_region m ≡ at C block_region m + 0 = omega arith in e) (block_link_lem C h (at C block_region m) m (omega (arith, few.blocks)) refl))

  -- ---- rows

  module _ (sd : Sound (store_of (cut_by C x))) (sums : TotalsAre (cut_by C x)) (ranges : RangesEnd (cut_by C x)) where
    place_back : (n : ℕ) → n < op_count (cut_by C x) → placed (cut_by C x) n (parent_from (at C op_parent n)) ≡ true
    unfolding placed parent_from at cut_by
    place_back n l = go (at C op_parent n) refl (h.op n (omega (arith, few.ops))).place
      where
        go : (w : ℕ) → at C op_parent n ≡ w → placed C n (parent_from w) ≡ true → placed (cut_by C x) n (parent_from w) ≡ true
        go zero e p = p
        go (suc b) e p =
            let q = placed_facts C n b p in
            let lb = parent_in_lem (cut_by C x) sd n b l e in
            placed_of (cut_by C x) n b
            (record { block_in = lb; region_in = region_in_lem (cut_by C x) sd b lb; later = q.later; depth = q.depth; place = record { from = q.place.from; below = op_end n b l e } })

    op_back : Shaped C → (n : ℕ) → n < op_count (cut_by C x) → OpLaid (cut_by C x) n
    unfolding at cut_by
    op_back shaped n l =
        let o : OpLaid C n = h.op n (omega (arith, few.ops)) in
        record {
          place = place_back n l;
          regions = record { range = record { rises = o.regions.range.rises; fits = ranges.regions n l }; words = o.regions.words };
          results = record { range = record { rises = o.results.range.rises; fits = ranges.results n l }; words = o.results.words };
          operands =
              tiled_back C op_operand_first op_operand_end (operand_count C) (cut_by C x) (op_count (cut_by C x)) (operand_count (cut_by C x)) refl refl
              (sums.operands ∙ operands_end C x shaped h few.ops) (λ i m. (h.op i (omega (arith, few.ops))).operands) n l;
          successors =
              tiled_back C op_successor_first op_successor_end (successor_count C) (cut_by C x) (op_count (cut_by C x)) (successor_count (cut_by C x)) refl refl
              (sums.successors ∙ successors_end C x shaped h few.ops) (λ i m. (h.op i (omega (arith, few.ops))).successors) n l;
          keys = o.keys;
        }

    block_back : (m : ℕ) → m < block_count (cut_by C x) → BlockLaid (cut_by C x) m
    unfolding at cut_by
    block_back m l =
        let o : BlockLaid C m = h.block m (omega (arith, few.blocks)) in
        record {
          region_in = region_in_lem (cut_by C x) sd m l;
          place = record { from = o.place.from; below = block_end m l };
          arguments = record { range = record { rises = o.arguments.range.rises; fits = ranges.arguments m l }; words = o.arguments.words };
          ops = new.ops.low m l;
          keys = o.keys;
        }

    region_back : (r : ℕ) → r < region_count (cut_by C x) → RegionLaid (cut_by C x) r
    unfolding at cut_by
    region_back r l =
        let o : RegionLaid C r = h.region r (omega (arith, few.regions)) in
        record { op_in = op_in_region (cut_by C x) sd r l; place = record { from = o.place.from; below = o.place.below }; blocks = new.blocks.low r l }

    owner_back : (v : ℕ) (w : Owner) → owner_exists (store_of (cut_by C x)) w ≡ true → in_owner C v w ≡ true → in_owner (cut_by C x) v w ≡ true
    unfolding in_owner owner_exists at cut_by
    owner_back v (of_op n) e t = and_both _ _ (lt-ltb n _ (op_in_lem (cut_by C x) n e)) (and_right (ltb n (op_count C)) _ t)
    owner_back v (of_block b) e t = and_both _ _ (lt-ltb b _ (block_in_lem (cut_by C x) b e)) (and_right (ltb b (block_count C)) _ t)

    value_back : (v : ℕ) → v < value_count (cut_by C x) → value_laid (cut_by C x) v ≡ true
    unfolding value_laid at cut_by
    value_back v l = owner_back v _ (owner_in_lem (cut_by C x) sd v l) (h.value v (omega (arith, few.values)))

    counts_back : Counts (cut_by C x)
    counts_back =
        let k = h.counts in
        let t = sd.totals in
        record {
          ops = omega (arith, few.ops, k.ops);
          blocks = omega (arith, few.blocks, k.blocks);
          regions = omega (arith, few.regions, k.regions);
          values = omega (arith, few.values, k.values);
          operands = omega (arith, sums.operands, t.operands);
          successors = omega (arith, sums.successors, t.successors);
          attributes = omega (arith, sums.attributes, t.attributes);
        }

    pub laid_back : Shaped C → Laid (cut_by C x)
    unfolding cut_by
    laid_back shaped =
        record {
          counts = counts_back;
          op = op_back shaped;
          block = block_back;
          region = region_back;
          value = value_back;
          operand_end = end_same C (cut_by C x) op_operand_end (op_count (cut_by C x)) refl ∙ sym (sums.operands ∙ operands_end C x shaped h few.ops);
          successor_end = end_same C (cut_by C x) op_successor_end (op_count (cut_by C x)) refl ∙ sym (sums.successors ∙ successors_end C x shaped h few.ops);
          attributes = sym (sums.attributes ∙ attributes_summed (cut_by C x));
          op_link = op_linked_lem;
          block_link = block_linked_lem;
        }
