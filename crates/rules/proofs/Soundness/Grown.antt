-- A store that grew: what was there keeps its parent, its region and the operation around it, so what a sound store names is named still.
-- Assumes nothing.
use Prim.Native.Nat.{ℕ, zero, suc, ◌<◌, ◌≤◌}
use native.Mathlib.Omega.{arith}
use mathlib.Core.Bool.{true}
use Rattle.std.specs.Prelude.{Option, None, Some, is_some}
use mathlib.Core.List.{List, ◌++◌}
use mathlib.Core.Path.{◌≡◌, refl, ap, ◌∙◌}
use borrow.Author.Tests.{ltb-true, lt-ltb}
use lib.Dec.{ltb}
use lib.ListN.{length, get_or, length-append, get_or-append}
use Rattle.std.specs.List.{list_all}
use Rattle.rules.specs.Store.{Store, Op, Block, Value, no_op, no_block, op_at, block_at, op_exists, block_exists, region_exists, value_exists, owner_exists, parent_exists, parent_of, op_around, levels_left, max_nesting, nesting_holds, op_after, regions_of, results_of, arguments_of, attributes_hold, max_own_regions, max_own_values, max_own_operands, max_own_successors}
use Rattle.rules.specs.declared.types.Owner.{Owner}
use Rattle.rules.specs.declared.types.Owner.TheVariants.{Op as of_op, Block as of_block}
use Rattle.rules.proofs.Basics.Tests.{all_at}
use Rattle.rules.proofs.Soundness.Sound.{Sound, OpSound, BlockSound}
use Rattle.rules.proofs.Basics.Appended.{all_imp, mem_get_d}

pub record Grown (s t : Store) : Type 0 where
  pub ops : length s.ops ≤ length t.ops
  pub blocks : length s.blocks ≤ length t.blocks
  pub regions : length s.regions ≤ length t.regions
  pub values : length s.values ≤ length t.values
  pub parent : (n : ℕ) → n < length s.ops → parent_of t n ≡ parent_of s n
  pub region : (b : ℕ) → b < length s.blocks → (block_at t b).region ≡ (block_at s b).region
  pub around : (r : ℕ) → r < length s.regions → get_or t.regions r 0 ≡ get_or s.regions r 0

-- a store whose lists are those of another with something behind them has grown from it
pub appended_grown : (s t : Store) (a : List Op) (b : List Block) (r : List ℕ) (v : List Value) → t.ops ≡ s.ops ++ a → t.blocks ≡ s.blocks ++ b
    → t.regions ≡ s.regions ++ r → t.values ≡ s.values ++ v → Grown s t
unfolding parent_of op_at block_at
appended_grown s t a b r v eo eb er ev =
    record {
      ops = omega (arith, ap length eo, length-append s.ops a);
      blocks = omega (arith, ap length eb, length-append s.blocks b);
      regions = omega (arith, ap length er, length-append s.regions r);
      values = omega (arith, ap length ev, length-append s.values v);
      parent = λ n l. ap (λ (xs : List Op). (get_or xs n no_op).parent) eo ∙ ap (λ (x : Op). x.parent) (get_or-append s.ops a no_op n l);
      region = λ m l. ap (λ (xs : List Block). (get_or xs m no_block).region) eb ∙ ap (λ (x : Block). x.region) (get_or-append s.blocks b no_block m l);
      around = λ n l. ap (λ (xs : List ℕ). get_or xs n 0) er ∙ get_or-append s.regions r 0 n l;
    }

-- what an operation's own lists have to be
pub record OpFits (s : Store) (o : Op) : Type 0 where
  pub operands_in : list_all (value_exists s) o.operands ≡ true
  pub successors_in : list_all (block_exists s) o.successors ≡ true
  pub operands_fit : length o.operands ≤ max_own_operands
  pub successors_fit : length o.successors ≤ max_own_successors
  pub attributes_fit : attributes_hold o.attributes ≡ true

below_kept : (n a b : ℕ) → a ≤ b → ltb n a ≡ true → ltb n b ≡ true
below_kept n a b l h = lt-ltb n b (omega (arith, ltb-true n a h))

module _ (s : Store) (h : Sound s) where
  pub fits : (n : ℕ) → n < length s.ops → OpFits s (op_at s n)
  fits n l =
      let o = h.op n l in
      record { operands_in = o.operands_in; successors_in = o.successors_in; operands_fit = o.operands_fit; successors_fit = o.successors_fit; attributes_fit = o.attributes_fit }

  -- the operation that a region belongs to exists
  pub region_op_lem : (r : ℕ) → r < length s.regions → get_or s.regions r 0 < length s.ops
  unfolding op_exists
  region_op_lem r l = ltb-true _ _ (all_at (op_exists s) s.regions h.regions_in (mem_get_d s.regions r 0 l))

  block_region_lem : (b : ℕ) → b < length s.blocks → (block_at s b).region < length s.regions
  unfolding region_exists
  block_region_lem b l = ltb-true _ _ (h.block b l).region_in

  pub around_in : (b : ℕ) → b < length s.blocks → op_around s b < length s.ops
  unfolding op_around
  around_in b l = region_op_lem _ (block_region_lem b l)

  pub owner_op : (n : ℕ) → n < length s.ops → owner_exists s (of_op n) ≡ true
  unfolding owner_exists op_exists
  owner_op n l = lt-ltb n _ l

  pub owner_block : (b : ℕ) → b < length s.blocks → owner_exists s (of_block b) ≡ true
  unfolding owner_exists block_exists
  owner_block b l = lt-ltb b _ l

  -- the block around an operation exists
  pub parent_in_lem : (n : ℕ) → n < length s.ops → parent_exists s (parent_of s n) ≡ true
  parent_in_lem n l = (h.op n l).parent_in

module _ (s t : Store) (g : Grown s t) where
  pub value_kept : (v : ℕ) → value_exists s v ≡ true → value_exists t v ≡ true
  unfolding value_exists
  value_kept v = below_kept v _ _ g.values

  block_exists_kept : (b : ℕ) → block_exists s b ≡ true → block_exists t b ≡ true
  unfolding block_exists
  block_exists_kept b = below_kept b _ _ g.blocks

  op_exists_kept : (n : ℕ) → op_exists s n ≡ true → op_exists t n ≡ true
  unfolding op_exists
  op_exists_kept n = below_kept n _ _ g.ops

  pub owner_kept : (w : Owner) → owner_exists s w ≡ true → owner_exists t w ≡ true
  unfolding owner_exists
  owner_kept (of_op n) e = op_exists_kept n e
  owner_kept (of_block b) e = block_exists_kept b e

  pub parent_kept : (p : Option ℕ) → parent_exists s p ≡ true → parent_exists t p ≡ true
  unfolding parent_exists
  parent_kept None e = refl
  parent_kept (Some b) e = block_exists_kept b e

  pub fits_kept : (o : Op) → OpFits s o → OpFits t o
  fits_kept o f =
      record {
        operands_in = all_imp _ _ o.operands value_kept f.operands_in;
        successors_in = all_imp _ _ o.successors block_exists_kept f.successors_in;
        operands_fit = f.operands_fit;
        successors_fit = f.successors_fit;
        attributes_fit = f.attributes_fit;
      }

  module _ (h : Sound s) where
    around_kept : (b : ℕ) → b < length s.blocks → op_around t b ≡ op_around s b
    unfolding op_around
    around_kept b l = ap (λ (r : ℕ). get_or t.regions r 0) (g.region b l) ∙ g.around _ (block_region_lem s h b l)

    -- the block around the operation around a block
    outer_kept : (b : ℕ) → b < length s.blocks → parent_of t (op_around t b) ≡ parent_of s (op_around s b)
    outer_kept b l = ap (parent_of t) (around_kept b l) ∙ g.parent _ (around_in s h b l)

    pub levels_kept : (k : ℕ) (p : Option ℕ) → parent_exists s p ≡ true → levels_left k t p ≡ levels_left k s p
    unfolding levels_left parent_exists block_exists
    levels_kept zero None e = refl
    levels_kept zero (Some b) e = refl
    levels_kept (suc k) None e = refl
    levels_kept (suc k) (Some b) e =
        let l : b < length s.blocks = ltb-true _ _ e in
        ap (levels_left k t) (outer_kept b l) ∙ levels_kept k (parent_of s (op_around s b)) (parent_in_lem s h _ (around_in s h b l))

    pub nesting_kept : (p : Option ℕ) → parent_exists s p ≡ true → nesting_holds s p ≡ true → nesting_holds t p ≡ true
    unfolding nesting_holds
    nesting_kept p e n = ap is_some (levels_kept max_nesting p e) ∙ n

    pub after_kept : (n : ℕ) (p : Option ℕ) → parent_exists s p ≡ true → op_after s n p ≡ true → op_after t n p ≡ true
    unfolding op_after parent_exists block_exists
    after_kept n None e a = refl
    after_kept n (Some b) e a = ap (λ (o : ℕ). ltb o n) (around_kept b (ltb-true _ _ e)) ∙ a

    pub op_kept : (n : ℕ) → n < length s.ops → OpFits t (op_at t n) → length (regions_of t n) ≤ max_own_regions → length (results_of t n) ≤ max_own_values
        → OpSound t n
    op_kept n l f r v =
        let o = h.op n l in
        let e : parent_of t n ≡ parent_of s n = g.parent n l in
        record {
          parent_in = rw e (parent_kept _ o.parent_in);
          operands_in = f.operands_in;
          successors_in = f.successors_in;
          later = rw e (after_kept n _ o.parent_in o.later);
          nesting = rw e (nesting_kept _ o.parent_in o.nesting);
          regions_fit = r;
          results_fit = v;
          operands_fit = f.operands_fit;
          successors_fit = f.successors_fit;
          attributes_fit = f.attributes_fit;
        }

    pub block_kept : (m : ℕ) → m < length s.blocks → length (arguments_of t m) ≤ max_own_values → attributes_hold (block_at t m).attributes ≡ true
        → BlockSound t m
    unfolding region_exists
    block_kept m l v f =
        record {
          region_in = rw (g.region m l) (below_kept _ _ _ g.regions (h.block m l).region_in);
          later = rw (outer_kept m l) (h.block m l).later;
          arguments_fit = v;
          attributes_fit = f;
        }

    pub regions_kept : list_all (op_exists t) s.regions ≡ true
    regions_kept = all_imp _ _ s.regions op_exists_kept h.regions_in

    pub values_kept : list_all (λ (v : Value). owner_exists t v.owner) s.values ≡ true
    values_kept = all_imp _ _ s.values (λ v. owner_kept v.owner) h.values_in
