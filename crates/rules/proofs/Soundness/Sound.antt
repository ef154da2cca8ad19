-- Soundness as facts: what `sound s ≡ true` says of each operation, each block and the whole store, by name. Assumes nothing.
use Prim.Native.Nat.{ℕ, ◌<◌, ◌≤◌}
use mathlib.Core.Bool.{true}
use mathlib.Core.Path.{◌≡◌}
use borrow.Author.Tests.{leb-true, le-leb}
use lib.ListN.{length}
use Rattle.std.specs.List.{list_all}
use Rattle.rules.specs.Store.{Store, Value, op_at, block_at, op_exists, block_exists, region_exists, value_exists, owner_exists, parent_exists, parent_of, op_around, op_after, block_after, nesting_holds, regions_of, results_of, arguments_of, attributes_hold, operand_total, successor_total, attribute_total, max_ops, max_blocks, max_regions, max_values, max_operands, max_successors, max_attributes, max_own_regions, max_own_values, max_own_operands, max_own_successors, totals_hold, op_holds, block_holds, sound}
use Rattle.rules.proofs.Basics.Tests.{passed, every_of, all_below_at, all_below_of}

pub record OpSound (s : Store) (n : ℕ) : Type 0 where
  pub parent_in : parent_exists s (parent_of s n) ≡ true
  pub operands_in : list_all (value_exists s) (op_at s n).operands ≡ true
  pub successors_in : list_all (block_exists s) (op_at s n).successors ≡ true
  pub later : op_after s n (parent_of s n) ≡ true
  pub nesting : nesting_holds s (parent_of s n) ≡ true
  pub regions_fit : length (regions_of s n) ≤ max_own_regions
  pub results_fit : length (results_of s n) ≤ max_own_values
  pub operands_fit : length (op_at s n).operands ≤ max_own_operands
  pub successors_fit : length (op_at s n).successors ≤ max_own_successors
  pub attributes_fit : attributes_hold (op_at s n).attributes ≡ true

pub record BlockSound (s : Store) (m : ℕ) : Type 0 where
  pub region_in : region_exists s (block_at s m).region ≡ true
  pub later : block_after m (parent_of s (op_around s m)) ≡ true
  pub arguments_fit : length (arguments_of s m) ≤ max_own_values
  pub attributes_fit : attributes_hold (block_at s m).attributes ≡ true

pub record TotalsSound (s : Store) : Type 0 where
  pub ops : length s.ops ≤ max_ops
  pub blocks : length s.blocks ≤ max_blocks
  pub regions : length s.regions ≤ max_regions
  pub values : length s.values ≤ max_values
  pub operands : operand_total s ≤ max_operands
  pub successors : successor_total s ≤ max_successors
  pub attributes : attribute_total s ≤ max_attributes

pub record Sound (s : Store) : Type 0 where
  pub op : (n : ℕ) → n < length s.ops → OpSound s n
  pub block : (m : ℕ) → m < length s.blocks → BlockSound s m
  pub regions_in : list_all (op_exists s) s.regions ≡ true
  pub values_in : list_all (λ (v : Value). owner_exists s v.owner) s.values ≡ true
  pub totals : TotalsSound s

op_facts : (s : Store) (n : ℕ) → op_holds s n ≡ true → OpSound s n
unfolding op_holds parent_of
op_facts s n h =
    let p = passed _ h in
    record {
      parent_in = p.0;
      operands_in = p.1.0;
      successors_in = p.1.1.0;
      later = p.1.1.1.0;
      nesting = p.1.1.1.1.0;
      regions_fit = leb-true _ _ p.1.1.1.1.1.0;
      results_fit = leb-true _ _ p.1.1.1.1.1.1.0;
      operands_fit = leb-true _ _ p.1.1.1.1.1.1.1.0;
      successors_fit = leb-true _ _ p.1.1.1.1.1.1.1.1.0;
      attributes_fit = p.1.1.1.1.1.1.1.1.1.0;
    }

op_holds_lem : (s : Store) (n : ℕ) → OpSound s n → op_holds s n ≡ true
unfolding op_holds parent_of
op_holds_lem s n p =
    every_of _ (
      p.parent_in,
      (
        p.operands_in,
        (
          p.successors_in,
          (
            p.later,
            (
              p.nesting,
              (le-leb _ _ p.regions_fit, (le-leb _ _ p.results_fit, (le-leb _ _ p.operands_fit, (le-leb _ _ p.successors_fit, (p.attributes_fit, tt))))),
            ),
          ),
        ),
      ),
    )

block_facts : (s : Store) (m : ℕ) → block_holds s m ≡ true → BlockSound s m
unfolding block_holds
block_facts s m h =
    let p = passed _ h in
    record { region_in = p.0; later = p.1.0; arguments_fit = leb-true _ _ p.1.1.0; attributes_fit = p.1.1.1.0 }

block_holds_lem : (s : Store) (m : ℕ) → BlockSound s m → block_holds s m ≡ true
unfolding block_holds
block_holds_lem s m p = every_of _ (p.region_in, (p.later, (le-leb _ _ p.arguments_fit, (p.attributes_fit, tt))))

pub totals_facts : (s : Store) → totals_hold s ≡ true → TotalsSound s
unfolding totals_hold
totals_facts s h =
    let p = passed _ h in
    record {
      ops = leb-true _ _ p.0;
      blocks = leb-true _ _ p.1.0;
      regions = leb-true _ _ p.1.1.0;
      values = leb-true _ _ p.1.1.1.0;
      operands = leb-true _ _ p.1.1.1.1.0;
      successors = leb-true _ _ p.1.1.1.1.1.0;
      attributes = leb-true _ _ p.1.1.1.1.1.1.0;
    }

pub totals_hold_lem : (s : Store) → TotalsSound s → totals_hold s ≡ true
unfolding totals_hold
totals_hold_lem s p =
    every_of _ (
      le-leb _ _ p.ops,
      (
        le-leb _ _ p.blocks,
        (
          le-leb _ _ p.regions,
          (
            le-leb _ _ p.values,
            (le-leb _ _ p.operands, (le-leb _ _ p.successors, (le-leb _ _ p.attributes, tt))),
          ),
        ),
      ),
    )

pub facts : (s : Store) → sound s ≡ true → Sound s
unfolding sound
facts s h =
    let p = passed _ h in
    record {
      op = λ n l. op_facts s n (all_below_at _ _ p.0 n l);
      block = λ m l. block_facts s m (all_below_at _ _ p.1.0 m l);
      regions_in = p.1.1.0;
      values_in = p.1.1.1.0;
      totals = totals_facts s p.1.1.1.1.0;
    }

pub sound_of : (s : Store) → Sound s → sound s ≡ true
unfolding sound
sound_of s p =
    every_of _ (
      all_below_of _ _ (λ n l. op_holds_lem s n (p.op n l)),
      (all_below_of _ _ (λ m l. block_holds_lem s m (p.block m l)), (p.regions_in, (p.values_in, (totals_hold_lem s p.totals, tt)))),
    )
