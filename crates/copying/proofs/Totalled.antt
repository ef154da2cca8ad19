-- The totals of owners, one owner after the other, are how many numbers, children and names they have together; so those of an operation of a sound
-- buffer are within the store's own totals, and what the store with a copy has is the sum of the two. Assumes nothing.
use Prim.Native.Nat.{ℕ, ◌+◌, ◌<◌, ◌≤◌}
use native.Mathlib.Omega.{arith}
use mathlib.Core.Bool.{Bool, true}
use mathlib.Core.List.{List, [], ◌∷◌, ◌++◌, Memᴰ}
use Rattle.std.specs.Prelude.{Option}
use mathlib.Core.Path.{◌≡◌, refl, sym, ap, subst, ◌∙◌}
use borrow.Author.Tests.{lt-ltb}
use lib.Dec.{leb}
use lib.ListN.{length, get_or, length-append}
use Rattle.rules.specs.Lists.{sum, every}
use Rattle.std.specs.List.{flat_map}
use Rattle.rules.specs.Store.{Store, Op, Block, op_at, block_at, regions_of, values_of, op_exists, owner_exists, totals_hold, operand_total, successor_total, attribute_total, max_ops, max_blocks, max_regions, max_values, max_operands, max_successors, max_attributes}
use Rattle.rules.specs.declared.types.Owner.{Owner}
use Rattle.rules.specs.declared.types.Owner.TheVariants.{Op as of_op, Block as of_block}
use Rattle.rules.specs.Fragments.{steps, exists, step_defines, op_owner, block_owner, defines_owners, defines_blocks, defines_values, fragment_ops}
use Rattle.rules.specs.declared.types.Sort.TheVariants.{Op as op}
use Rattle.rules.specs.Fragments as rules
use Rattle.rules.specs.Copying.{copied, copied_regions}
use Rattle.rules.proofs.Soundness.Sound.{Sound, facts}
use Rattle.rules.proofs.Form.Once.{owners_here}
use Rattle.rules.proofs.Copying.Amounts as amounts
use Rattle.rules.proofs.Copying.Amounts.{operands_at, successors_at, op_keys_at, block_keys_at}
use Rattle.rules.proofs.Copying.Tables as tables
use Rattle.layout.specs.Columns.{Cols, columns, at, op_region_first, op_region_end, op_result_first, op_result_end, op_operand_first, op_operand_end, op_successor_first, op_successor_end, op_attributes, block_argument_first, block_argument_end, block_attributes}
use Rattle.layout.specs.Reading.{op_count, block_count, region_count, value_count, operand_count, successor_count, attribute_count, store_of, store_in}
use Rattle.layout.specs.Soundness.{IsSound}
use Rattle.layout.proofs.Laid.{Shaped, Laid, Counts, laid_facts}
use Rattle.layout.proofs.Buffer.{columns_shaped}
use Rattle.layout.proofs.Ranges.{length_range, regions_range, results_range, arguments_range}
use Rattle.layout.proofs.Tabulate.{ops_length, blocks_length, regions_length, values_length, op_exists_lem, op_in_lem, block_in_lem, op_read, block_read}
use Rattle.layout.proofs.Totals.{op_keys, block_keys_lem, operands_length, successors_length, operand_total_lem, successor_total_lem, attribute_total_lem}
use Rattle.copying.specs.declared.steps.Step.{Step}
use Rattle.copying.specs.declared.steps.Step.TheVariants.{OpShell, BlockShell, Names}
use Rattle.copying.specs.Steps.{AreSteps, step_of, step_owners}
use Rattle.copying.specs.declared.totals.Totals.{Totals}
use Rattle.copying.specs.Totals.{TotalsFit, no_totals, span_of, op_totalled, block_totalled, owner_totalled, owners_totalled, totalled}
use Rattle.copying.proofs.Told.{owners_left, all_owners_left, no_owners_left, step_owners_left, are_steps_lem}

-- ---- what is summed up so far is no more than what is summed up in the end

module _ (C : Cols) where
  one_back : (t : Totals) (w : Owner) → TotalsFit (owner_totalled C t w) → TotalsFit t
  unfolding owner_totalled op_totalled block_totalled
  one_back t (of_op m) f =
      record {
        ops = omega (arith, f.ops);
        blocks = f.blocks;
        regions = omega (arith, f.regions);
        values = omega (arith, f.values);
        operands = omega (arith, f.operands);
        successors = omega (arith, f.successors);
        attributes = omega (arith, f.attributes);
      }
  one_back t (of_block b) f =
      record {
        ops = f.ops;
        blocks = omega (arith, f.blocks);
        regions = f.regions;
        values = omega (arith, f.values);
        operands = f.operands;
        successors = f.successors;
        attributes = omega (arith, f.attributes);
      }

  pub fit_back : (ws : List Owner) (t : Totals) → TotalsFit (owners_totalled C t ws) → TotalsFit t
  unfolding owners_totalled
  fit_back [] t f = f
  fit_back (w ∷ ws) t f = one_back t w (fit_back ws (owner_totalled C t w) f)

-- ---- what owners of a store have together

pub record Together (s : Store) (ws : List Owner) (t u : Totals) : Type 0 where
  pub ops : u.ops ≡ t.ops + length (flat_map op_owner ws)
  pub blocks : u.blocks ≡ t.blocks + length (flat_map block_owner ws)
  pub regions : u.regions ≡ t.regions + length (flat_map (regions_of s) (flat_map op_owner ws))
  pub values : u.values ≡ t.values + length (flat_map (values_of s) ws)
  pub operands : u.operands ≡ t.operands + operands_at s (flat_map op_owner ws)
  pub successors : u.successors ≡ t.successors + successors_at s (flat_map op_owner ws)
  pub attributes : u.attributes ≡ t.attributes + (op_keys_at s (flat_map op_owner ws) + block_keys_at s (flat_map block_owner ws))

module _ (C : Cols) (shaped : Shaped C) (h : Laid C) where
  regions_span : (m : ℕ) → m < op_count C → length (regions_of (store_of C) m) ≡ span_of C op_region_first op_region_end m
  unfolding span_of
  regions_span m l = ap length (regions_range C h m l) ∙ length_range _ _

  results_span : (m : ℕ) → m < op_count C → length (values_of (store_of C) (of_op m)) ≡ span_of C op_result_first op_result_end m
  unfolding span_of
  results_span m l = ap length (results_range C h m l) ∙ length_range _ _

  arguments_span : (b : ℕ) → b < block_count C → length (values_of (store_of C) (of_block b)) ≡ span_of C block_argument_first block_argument_end b
  unfolding span_of
  arguments_span b l = ap length (arguments_range C h b l) ∙ length_range _ _

  operands_span : (m : ℕ) → m < op_count C → length (op_at (store_of C) m).operands ≡ span_of C op_operand_first op_operand_end m
  unfolding span_of
  operands_span m l = ap (λ (o : Op). length o.operands) (op_read C m l) ∙ operands_length C shaped h m l

  successors_span : (m : ℕ) → m < op_count C → length (op_at (store_of C) m).successors ≡ span_of C op_successor_first op_successor_end m
  unfolding span_of
  successors_span m l = ap (λ (o : Op). length o.successors) (op_read C m l) ∙ successors_length C shaped h m l

  op_keys_read : (m : ℕ) → m < op_count C → length (op_at (store_of C) m).attributes ≡ at C op_attributes m
  op_keys_read m l = ap (λ (o : Op). length o.attributes) (op_read C m l) ∙ op_keys C m

  block_keys_read : (b : ℕ) → b < block_count C → length (block_at (store_of C) b).attributes ≡ at C block_attributes b
  block_keys_read b l = ap (λ (o : Block). length o.attributes) (block_read C b l) ∙ block_keys_lem C b

  together : (ws : List Owner) (t : Totals) → ((w : Owner) → Memᴰ w ws → owner_exists (store_of C) w ≡ true)
      → Together (store_of C) ws t (owners_totalled C t ws)
  unfolding owners_totalled owner_totalled op_totalled block_totalled op_owner block_owner operands_at successors_at op_keys_at block_keys_at sum owner_exists
  together [] t k =
      record {
        ops = omega arith;
        blocks = omega arith;
        regions = omega arith;
        values = omega arith;
        operands = omega arith;
        successors = omega arith;
        attributes = omega arith;
      }
  together (of_op m ∷ ws) t k =
      let r = together ws (op_totalled C t m) (λ w i. k w (Memᴰ.tail i)) in
      let l : m < op_count C = op_in_lem C m (k (of_op m) (Memᴰ.head refl)) in
      record {
        ops = omega (arith, r.ops);
        blocks = r.blocks;
        regions = omega (
          arith,
          r.regions,
          regions_span m l,
          length-append (regions_of (store_of C) m) (flat_map (regions_of (store_of C)) (flat_map op_owner ws)),
        );
        values = omega (arith, r.values, results_span m l, length-append (values_of (store_of C) (of_op m)) (flat_map (values_of (store_of C)) ws));
        operands = omega (arith, r.operands, operands_span m l);
        successors = omega (arith, r.successors, successors_span m l);
        attributes = omega (arith, r.attributes, op_keys_read m l);
      }
  together (of_block b ∷ ws) t k =
      let r = together ws (block_totalled C t b) (λ w i. k w (Memᴰ.tail i)) in
      let l : b < block_count C = block_in_lem C b (k (of_block b) (Memᴰ.head refl)) in
      record {
        ops = r.ops;
        blocks = omega (arith, r.blocks);
        regions = r.regions;
        values = omega (arith, r.values, arguments_span b l, length-append (values_of (store_of C) (of_block b)) (flat_map (values_of (store_of C)) ws));
        operands = r.operands;
        successors = r.successors;
        attributes = omega (arith, r.attributes, block_keys_read b l);
      }

-- ---- seven totals within their limits, tested one after the other

unfoldable pub holds : (a b c d e f g : ℕ) → Bool
holds a b c d e f g =
    every
    (leb a max_ops
    ∷ leb b max_blocks
    ∷ leb c max_regions
    ∷ leb d max_values
    ∷ leb e max_operands
    ∷ leb f max_successors
    ∷ leb g max_attributes
    ∷ [])

-- ---- of an operation of a sound buffer

pub counted : (b : List ℕ) → IsSound b → Counts (columns b)
counted b sd = (laid_facts (columns b) sd.laid).counts

module _ (b : List ℕ) (sd : IsSound b) (n : ℕ) (l : n < op_count (columns b)) where
  laid : Laid (columns b)
  laid = laid_facts (columns b) sd.laid

  shaped : Shaped (columns b)
  shaped = columns_shaped b sd.sized

  ex : op_exists (store_in b) n ≡ true
  ex = op_exists_lem (columns b) n ∙ lt-ltb n _ l

  so : Sound (store_in b)
  so = facts (store_in b) sd.ruled

  all_together : Together (store_in b) (defines_owners (store_in b) op n) no_totals (totalled (columns b) n)
  unfolding totalled exists
  all_together = together (columns b) shaped laid (defines_owners (store_in b) op n) no_totals (λ w k. owners_here (store_in b) so op n ex w k)

  pub totalled_fit : TotalsFit (totalled (columns b) n)
  unfolding fragment_ops defines_blocks defines_values copied_regions
  totalled_fit =
      let t = all_together in
      record {
        ops = omega (arith, t.ops, amounts.ops_few (store_in b) so n ex, so.totals.ops);
        blocks = omega (arith, t.blocks, amounts.blocks_few (store_in b) so n ex, so.totals.blocks);
        regions = omega (arith, t.regions, amounts.regions_few (store_in b) so n ex, so.totals.regions);
        values = omega (arith, t.values, amounts.values_few (store_in b) so n ex, so.totals.values);
        operands = omega (arith, t.operands, amounts.operands_few (store_in b) so n ex, so.totals.operands);
        successors = omega (arith, t.successors, amounts.successors_few (store_in b) so n ex, so.totals.successors);
        attributes = omega (arith, t.attributes, amounts.attributes_few (store_in b) so n ex, so.totals.attributes);
      }

  pub small : (u : Totals) → u ≡ totalled (columns b) n → TotalsFit u
  small u q = subst TotalsFit (sym q) totalled_fit

  -- the totals of the store with the copy
  module _ (place : Option ℕ) (u : Totals) (q : u ≡ totalled (columns b) n) where
    abbrev C : Cols
    C = columns b

    abbrev with : Store
    with = copied (store_in b) n place

    of_all : Together (store_in b) (defines_owners (store_in b) op n) no_totals u
    of_all = subst (Together (store_in b) (defines_owners (store_in b) op n) no_totals) (sym q) all_together

    ops_with : op_count C + u.ops ≡ length with.ops
    unfolding fragment_ops
    ops_with = omega (arith, of_all.ops, ops_length C, tables.ops_length (store_in b) n place)

    blocks_with : block_count C + u.blocks ≡ length with.blocks
    unfolding defines_blocks
    blocks_with = omega (arith, of_all.blocks, blocks_length C, tables.blocks_length (store_in b) n place)

    regions_with : region_count C + u.regions ≡ length with.regions
    unfolding fragment_ops copied_regions
    regions_with = omega (arith, of_all.regions, regions_length C, tables.regions_length (store_in b) n place)

    values_with : value_count C + u.values ≡ length with.values
    unfolding defines_values
    values_with = omega (arith, of_all.values, values_length C, tables.values_length (store_in b) n place)

    operands_with : operand_count C + u.operands ≡ operand_total with
    unfolding fragment_ops
    operands_with = omega (arith, of_all.operands, operand_total_lem C shaped laid, amounts.operands_with (store_in b) n place)

    successors_with : successor_count C + u.successors ≡ successor_total with
    unfolding fragment_ops
    successors_with = omega (arith, of_all.successors, successor_total_lem C shaped laid, amounts.successors_with (store_in b) n place)

    attributes_with : attribute_count C + u.attributes ≡ attribute_total with
    unfolding fragment_ops defines_blocks
    attributes_with = omega (arith, of_all.attributes, attribute_total_lem C laid, amounts.attributes_with (store_in b) n place)

    pub totals_with : holds (op_count C + u.ops) (block_count C + u.blocks) (region_count C + u.regions) (value_count C + u.values) (operand_count C + u.operands)
        (successor_count C + u.successors) (attribute_count C + u.attributes)
        ≡ totals_hold with
    unfolding holds totals_hold
    totals_with =
        λ i. holds (ops_with i) (blocks_with i) (regions_with i) (values_with i) (operands_with i) (successors_with i) (attributes_with i)

  -- step by step
  module _ (ws : List Step) (a : AreSteps b n ws) where
    abbrev walk : List rules.Step
    walk = steps (store_in b) op n

    -- with what is left added, it is all
    abbrev Adds : Totals → ℕ → Type 0
    Adds t i = owners_totalled (columns b) t (owners_left (steps (store_in b) op n) i) ≡ totalled (columns b) n

    pub adds_first : Adds no_totals 0
    unfolding totalled
    adds_first = ap (owners_totalled (columns b) no_totals) (all_owners_left (store_in b) n)

    module _ (t : Totals) (i : ℕ) (h : Adds t i) where
      pub adds_fit : TotalsFit t
      adds_fit = fit_back (columns b) (owners_left walk i) t (subst TotalsFit (sym h) totalled_fit)

      pub adds_last : length ws ≤ i → t ≡ totalled (columns b) n
      unfolding owners_totalled
      adds_last d = sym (ap (owners_totalled (columns b) t) (no_owners_left walk ws (are_steps_lem b n ws a) i d)) ∙ h

      module _ (d : i < length ws) (u : Totals) where
        -- with what the step defines
        adds_step : (x : Step) → get_or ws i (OpShell 0) ≡ x
            → owners_totalled (columns b) u (owners_left walk (i + 1)) ≡ owners_totalled (columns b) t (step_owners x ++ owners_left walk (i + 1)) → Adds u (i + 1)
        adds_step x q e = e ∙ sym (ap (owners_totalled (columns b) t) (step_owners_left walk ws (are_steps_lem b n ws a) i d x q)) ∙ h

        same : (v : Totals) → u ≡ v → owners_totalled (columns b) u (owners_left walk (i + 1)) ≡ owners_totalled (columns b) v (owners_left walk (i + 1))
        same v e = ap (λ (w : Totals). owners_totalled (columns b) w (owners_left walk (i + 1))) e

        pub adds_op : (m : ℕ) → get_or ws i (OpShell 0) ≡ OpShell m → u ≡ op_totalled (columns b) t m → Adds u (i + 1)
        unfolding owners_totalled owner_totalled step_owners step_of step_defines
        adds_op m q e = adds_step (OpShell m) q (same (op_totalled (columns b) t m) e)

        pub adds_block : (m : ℕ) → get_or ws i (OpShell 0) ≡ BlockShell m → u ≡ block_totalled (columns b) t m → Adds u (i + 1)
        unfolding owners_totalled owner_totalled step_owners step_of step_defines
        adds_block m q e = adds_step (BlockShell m) q (same (block_totalled (columns b) t m) e)

        pub adds_names : (m : ℕ) → get_or ws i (OpShell 0) ≡ Names m → u ≡ t → Adds u (i + 1)
        unfolding step_owners step_of step_defines
        adds_names m q e = adds_step (Names m) q (same t e)
