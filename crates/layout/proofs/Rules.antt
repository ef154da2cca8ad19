-- A buffer that is laid out keeps document 01's rules row by row exactly where its store is sound: each of the store's tests is one of the rows', or passes by the layout. Assumes nothing.
use Prim.Native.Nat.{ℕ, zero, suc, ◌+◌, ◌<◌}
use native.Mathlib.Omega.{arith}
use mathlib.Core.Bool.{Bool, true, ◌&&◌, and-true}
use mathlib.Core.List.{[], ◌∷◌}
use Rattle.std.specs.Prelude.{Option, None, Some}
use mathlib.Core.Path.{◌≡◌, refl, sym, ap, ap₂, ◌∙◌}
use borrow.Author.Tests.{lt-ltb}
use lib.Dec.{leb, ltb}
use lib.ListN.{length}
use Rattle.rules.specs.Lists.{every, all_below}
use Rattle.std.specs.List.{list_all}
use Rattle.rules.specs.Store.{Op, Block, Value, op_exists, block_exists, region_exists, value_exists, owner_exists, parent_exists, parent_of, op_after, block_after, results_of, arguments_of, attributes_hold, max_ops, max_blocks, max_regions, max_values, max_operands, max_successors, max_attributes, max_own_regions, max_own_values, max_own_operands, max_own_successors, totals_hold, op_holds, block_holds, sound}
use Rattle.rules.specs.declared.types.Owner.{Owner}
use Rattle.rules.specs.declared.types.Owner.TheVariants.{Op as of_op, Block as of_block}
use Rattle.rules.proofs.Basics.Tests.{and_left, and_both}
use Rattle.layout.specs.Columns.{Cols, at, region_op}
use Rattle.layout.specs.Reading.{tabulate_from, tabulate, op_count, block_count, region_count, value_count, around, op_of, block_of, value_of, store_of}
use Rattle.layout.specs.Soundness.{placed, in_owner, value_laid, counts_hold, op_rules, block_rules, rules_hold, laid_out}
use Rattle.layout.proofs.Laid.{Laid, Shaped, laid_facts, counts_of_lem}
use Rattle.layout.proofs.Tabulate.{ops_length, blocks_length, regions_length, values_length, op_exists_lem, block_exists_lem, op_read, block_read, parent_read_lem, around_read}
use Rattle.layout.proofs.Scans.{below_cong}
use Rattle.layout.proofs.Ranges.{length_range, regions_range, results_range, arguments_range}
use Rattle.layout.proofs.Nesting.{placed_facts, nesting_at}
use Rattle.layout.proofs.Totals.{operands_length, successors_length, operand_total_lem, successor_total_lem, attribute_total_lem}

-- ---- tests

module _ {A : Type 0} (p : A → Bool) (f : ℕ → A) where
  all_from : (i n : ℕ) → ((k : ℕ) → k < i + n → p (f k) ≡ true) → list_all p (tabulate_from i n f) ≡ true
  unfolding tabulate_from
  all_from i zero h = refl
  all_from i (suc n) h = and_both _ _ (h i (omega arith)) (all_from (suc i) n (λ k l. h k (omega arith)))

  pub all_tabulate : (n : ℕ) → ((k : ℕ) → k < n → p (f k) ≡ true) → list_all p (tabulate n f) ≡ true
  unfolding tabulate
  all_tabulate n h = all_from 0 n (λ k l. h k (omega arith))

-- ---- what the layout passes

module _ (C : Cols) where
  parent_in_lem : (n : ℕ) (q : Option ℕ) → placed C n q ≡ true → parent_exists (store_of C) q ≡ true
  unfolding parent_exists
  parent_in_lem n None h = refl
  parent_in_lem n (Some b) h = block_exists_lem C b ∙ lt-ltb b (block_count C) (placed_facts C n b h).block_in

  parent_before : (n : ℕ) (q : Option ℕ) → placed C n q ≡ true → op_after (store_of C) n q ≡ true
  unfolding op_after
  parent_before n None h = refl
  parent_before n (Some b) h =
      let p = placed_facts C n b h in
      rw (around_read C b p.block_in p.region_in) (lt-ltb (around C b) n p.later)

  owner_named : (v : ℕ) (w : Owner) → in_owner C v w ≡ true → owner_exists (store_of C) w ≡ true
  unfolding in_owner owner_exists
  owner_named v (of_op n) h = op_exists_lem C n ∙ and_left (ltb n (op_count C)) _ h
  owner_named v (of_block b) h = block_exists_lem C b ∙ and_left (ltb b (block_count C)) _ h

module _ (C : Cols) (shaped : Shaped C) (h : Laid C) where
  op_row_lem : (n : ℕ) → n < op_count C → op_holds (store_of C) n ≡ op_rules C n
  unfolding op_holds op_rules every parent_of value_exists block_exists results_of op_of
  op_row_lem n l =
      let e = op_read C n l in
      let q = (h.op n l).place in
      let parent_in = ap (λ (o : Op). parent_exists (store_of C) o.parent) e ∙ parent_in_lem C n _ q in
      let after = ap (λ (o : Op). op_after (store_of C) n o.parent) e ∙ parent_before C n _ q in
      λ i.
      every
      (parent_in i
      ∷ list_all (λ (v : ℕ). ltb v (values_length C i)) (e i).operands
      ∷ list_all (λ (b : ℕ). ltb b (blocks_length C i)) (e i).successors
      ∷ after i
      ∷ nesting_at C h n l i
      ∷ leb ((ap length (regions_range C h n l) ∙ length_range _ _) i) max_own_regions
      ∷ leb ((ap length (results_range C h n l) ∙ length_range _ _) i) max_own_values
      ∷ leb ((ap (λ (o : Op). length o.operands) e ∙ operands_length C shaped h n l) i) max_own_operands
      ∷ leb ((ap (λ (o : Op). length o.successors) e ∙ successors_length C shaped h n l) i) max_own_successors
      ∷ attributes_hold (e i).attributes
      ∷ [])

  block_row : (m : ℕ) → m < block_count C → block_holds (store_of C) m ≡ block_rules C m
  unfolding block_holds block_rules every region_exists arguments_of block_of
  block_row m l =
      let e = block_read C m l in
      let r = (h.block m l).region_in in
      let o = (h.region _ r).op_in in
      let region_in = ap₂ (λ (k : ℕ) (b : Block). ltb b.region k) (regions_length C) e ∙ lt-ltb _ _ r in
      λ i.
      every
      (region_in i
      ∷ block_after m ((ap (parent_of (store_of C)) (around_read C m l r) ∙ parent_read_lem C (around C m) o) i)
      ∷ leb ((ap length (arguments_range C h m l) ∙ length_range _ _) i) max_own_values
      ∷ attributes_hold (e i).attributes
      ∷ [])

  regions_in_lem : list_all (op_exists (store_of C)) (store_of C).regions ≡ true
  unfolding store_of
  regions_in_lem = all_tabulate _ (at C region_op) (region_count C) (λ r l. op_exists_lem C _ ∙ lt-ltb _ (op_count C) (h.region r l).op_in)

  values_in_lem : list_all (λ (v : Value). owner_exists (store_of C) v.owner) (store_of C).values ≡ true
  unfolding store_of value_of value_laid
  values_in_lem = all_tabulate _ (value_of C) (value_count C) (λ v l. owner_named C v _ (h.value v l))

  pub totals_counts : totals_hold (store_of C) ≡ counts_hold C
  unfolding totals_hold counts_hold
  totals_counts i =
      every
      (leb (ops_length C i) max_ops
      ∷ leb (blocks_length C i) max_blocks
      ∷ leb (regions_length C i) max_regions
      ∷ leb (values_length C i) max_values
      ∷ leb (operand_total_lem C shaped h i) max_operands
      ∷ leb (successor_total_lem C shaped h i) max_successors
      ∷ leb (attribute_total_lem C h i) max_attributes
      ∷ [])

  store_sound : sound (store_of C) ≡ rules_hold C
  unfolding sound rules_hold every
  store_sound =
      let ops = ap (λ (n : ℕ). all_below n (op_holds (store_of C))) (ops_length C) ∙ below_cong _ _ _ op_row_lem in
      let blocks = ap (λ (n : ℕ). all_below n (block_holds (store_of C))) (blocks_length C) ∙ below_cong _ _ _ block_row in
      let counts = totals_counts ∙ counts_of_lem C h.counts in
      let whole : sound (store_of C) ≡ (all_below (op_count C) (op_rules C) && (all_below (block_count C) (block_rules C) && true)) =
      λ i. every (ops i ∷ blocks i ∷ regions_in_lem i ∷ values_in_lem i ∷ counts i ∷ []) in
      whole ∙ ap (λ (b : Bool). all_below (op_count C) (op_rules C) && b) (and-true _)

pub rules_sound : (C : Cols) → Shaped C → laid_out C ≡ true → rules_hold C ≡ sound (store_of C)
rules_sound C shaped laid = sym (store_sound C shaped (laid_facts C laid))
