-- The layout's soundness as facts: what `laid_out C ≡ true` says of each row and of the counts, by name. Assumes nothing.
use Prim.Native.Nat.{ℕ, ◌+◌, ◌-◌, ◌<◌, ◌≤◌}
use mathlib.Core.Bool.{true}
use mathlib.Core.Path.{◌≡◌}
use borrow.Author.Tests.{leb-true, le-leb, ltb-true, lt-ltb, eqb-true, eq-eqb}
use lib.Dec.{eqb, leb, ltb}
use lib.ListN.{length}
use Rattle.rules.specs.Store.{max_ops, max_blocks, max_regions, max_values, max_operands, max_successors, max_attributes, max_own_keys}
use Rattle.rules.specs.declared.types.Owner.TheVariants.{Op as of_op, Block as of_block}
use Rattle.rules.proofs.Basics.Tests.{and_left, and_right, and_both, passed, every_of, all_below_at, all_below_of}
use Rattle.layout.specs.Columns.{Cols, column_size, at, op_parent, op_region_first, op_region_end, op_result_first, op_result_end, op_operand_first, op_operand_end, op_successor_first, op_successor_end, op_attributes, region_op, region_block_first, region_block_end, block_region, block_argument_first, block_argument_end, block_op_end, block_attributes, value_owner}
use Rattle.layout.specs.Reading.{op_count, block_count, region_count, value_count, operand_count, successor_count, attribute_count, parent_from, owner_code}
use Rattle.layout.specs.Soundness.{ranged, within, owned, owned_within, end_before, tiled, placed, regions_owned, results_owned, arguments_owned, lists_tiled, op_laid, block_laid, region_laid, value_laid, attribute_sum, counts_hold, counts_laid, laid_out, op_linked, block_linked}

-- each column is as long as it should be
abbrev pub Shaped : Cols → Type 0
Shaped C = (k : ℕ) → length (C k) ≡ column_size k

pub record Ranged (a e n : ℕ) : Type 0 where
  pub rises : a ≤ e
  pub fits : e ≤ n

pub record InRange (a e n : ℕ) : Type 0 where
  pub from : a ≤ n
  pub below : n < e

pub record Owned (C : Cols) (k a e n w : ℕ) : Type 0 where
  pub range : Ranged a e n
  pub words : (i : ℕ) → i < e - a → at C k (a + i) ≡ w

pub record Tiled (C : Cols) (first end n total : ℕ) : Type 0 where
  pub follows : at C first n ≡ end_before C end n
  pub range : Ranged (at C first n) (at C end n) total

pub record OpLaid (C : Cols) (n : ℕ) : Type 0 where
  pub place : placed C n (parent_from (at C op_parent n)) ≡ true
  pub regions : Owned C region_op (at C op_region_first n) (at C op_region_end n) (region_count C) n
  pub results : Owned C value_owner (at C op_result_first n) (at C op_result_end n) (value_count C) (owner_code (of_op n))
  pub operands : Tiled C op_operand_first op_operand_end n (operand_count C)
  pub successors : Tiled C op_successor_first op_successor_end n (successor_count C)
  pub keys : at C op_attributes n ≤ max_own_keys

pub record BlockLaid (C : Cols) (m : ℕ) : Type 0 where
  pub region_in : at C block_region m < region_count C
  pub place : InRange (at C region_block_first (at C block_region m)) (at C region_block_end (at C block_region m)) m
  pub arguments : Owned C value_owner (at C block_argument_first m) (at C block_argument_end m) (value_count C) (owner_code (of_block m))
  pub ops : at C block_op_end m ≤ op_count C
  pub keys : at C block_attributes m ≤ max_own_keys

pub record RegionLaid (C : Cols) (r : ℕ) : Type 0 where
  pub op_in : at C region_op r < op_count C
  pub place : InRange (at C op_region_first (at C region_op r)) (at C op_region_end (at C region_op r)) r
  pub blocks : at C region_block_end r ≤ block_count C

pub record Counts (C : Cols) : Type 0 where
  pub ops : op_count C ≤ max_ops
  pub blocks : block_count C ≤ max_blocks
  pub regions : region_count C ≤ max_regions
  pub values : value_count C ≤ max_values
  pub operands : operand_count C ≤ max_operands
  pub successors : successor_count C ≤ max_successors
  pub attributes : attribute_count C ≤ max_attributes

pub record Laid (C : Cols) : Type 0 where
  pub counts : Counts C
  pub op : (n : ℕ) → n < op_count C → OpLaid C n
  pub block : (m : ℕ) → m < block_count C → BlockLaid C m
  pub region : (r : ℕ) → r < region_count C → RegionLaid C r
  pub value : (v : ℕ) → v < value_count C → value_laid C v ≡ true
  pub operand_end : end_before C op_operand_end (op_count C) ≡ operand_count C
  pub successor_end : end_before C op_successor_end (op_count C) ≡ successor_count C
  pub attributes : attribute_sum C ≡ attribute_count C
  pub op_link : (n : ℕ) → n < op_count C → op_linked C n ≡ true
  pub block_link : (m : ℕ) → m < block_count C → block_linked C m ≡ true

pub ranged_facts : (a e n : ℕ) → ranged a e n ≡ true → Ranged a e n
unfolding ranged
ranged_facts a e n h = record { rises = leb-true a e (and_left _ (leb e n) h); fits = leb-true e n (and_right (leb a e) _ h) }

pub ranged_of : (a e n : ℕ) → Ranged a e n → ranged a e n ≡ true
unfolding ranged
ranged_of a e n h = and_both _ _ (le-leb a e h.rises) (le-leb e n h.fits)

pub within_facts : (a e n : ℕ) → within a e n ≡ true → InRange a e n
unfolding within
within_facts a e n h = record { from = leb-true a n (and_left _ (ltb n e) h); below = ltb-true n e (and_right (leb a n) _ h) }

pub within_of : (a e n : ℕ) → InRange a e n → within a e n ≡ true
unfolding within
within_of a e n h = and_both _ _ (le-leb a n h.from) (lt-ltb n e h.below)

owned_facts : (C : Cols) (k a e n w : ℕ) → owned_within C k a e n w ≡ true → Owned C k a e n w
unfolding owned_within owned
owned_facts C k a e n w h =
    record {
      range = ranged_facts a e n (and_left _ (owned C k a e w) h);
      words = λ i l. eqb-true _ w (all_below_at (e - a) _ (and_right (ranged a e n) _ h) i l);
    }

owned_of : (C : Cols) (k a e n w : ℕ) → Owned C k a e n w → owned_within C k a e n w ≡ true
unfolding owned_within owned
owned_of C k a e n w h = and_both _ _ (ranged_of a e n h.range) (all_below_of (e - a) _ (λ i l. eq-eqb _ w (h.words i l)))

tiled_facts : (C : Cols) (first end n total : ℕ) → tiled C first end n total ≡ true → Tiled C first end n total
unfolding tiled
tiled_facts C first end n total h =
    record {
      follows = eqb-true _ _ (and_left _ (ranged (at C first n) (at C end n) total) h);
      range = ranged_facts _ _ _ (and_right (eqb (at C first n) (end_before C end n)) _ h);
    }

tiled_of : (C : Cols) (first end n total : ℕ) → Tiled C first end n total → tiled C first end n total ≡ true
unfolding tiled
tiled_of C first end n total h = and_both _ _ (eq-eqb _ _ h.follows) (ranged_of _ _ _ h.range)

pub op_facts : (C : Cols) (n : ℕ) → op_laid C n ≡ true → OpLaid C n
unfolding op_laid regions_owned results_owned lists_tiled
op_facts C n h =
    let p = passed _ h in
    record {
      place = p.0;
      regions = owned_facts C _ _ _ _ _ p.1.0;
      results = owned_facts C _ _ _ _ _ p.1.1.0;
      operands = tiled_facts C _ _ _ _ (and_left _ (tiled C op_successor_first op_successor_end n (successor_count C)) p.1.1.1.0);
      successors = tiled_facts C _ _ _ _ (and_right (tiled C op_operand_first op_operand_end n (operand_count C)) _ p.1.1.1.0);
      keys = leb-true _ _ p.1.1.1.1.0;
    }

pub op_of_lem : (C : Cols) (n : ℕ) → OpLaid C n → op_laid C n ≡ true
unfolding op_laid regions_owned results_owned lists_tiled
op_of_lem C n h =
    let lists = and_both _ _ (tiled_of C _ _ _ _ h.operands) (tiled_of C _ _ _ _ h.successors) in
    every_of _ (h.place, (owned_of C _ _ _ _ _ h.regions, (owned_of C _ _ _ _ _ h.results, (lists, (le-leb _ _ h.keys, tt)))))

pub block_facts : (C : Cols) (m : ℕ) → block_laid C m ≡ true → BlockLaid C m
unfolding block_laid arguments_owned
block_facts C m h =
    let p = passed _ h in
    record {
      region_in = ltb-true _ _ p.0;
      place = within_facts _ _ _ p.1.0;
      arguments = owned_facts C _ _ _ _ _ p.1.1.0;
      ops = leb-true _ _ p.1.1.1.0;
      keys = leb-true _ _ p.1.1.1.1.0;
    }

pub block_of : (C : Cols) (m : ℕ) → BlockLaid C m → block_laid C m ≡ true
unfolding block_laid arguments_owned
block_of C m h =
    every_of _ (lt-ltb _ _ h.region_in, (within_of _ _ _ h.place, (owned_of C _ _ _ _ _ h.arguments, (le-leb _ _ h.ops, (le-leb _ _ h.keys, tt)))))

pub region_facts : (C : Cols) (r : ℕ) → region_laid C r ≡ true → RegionLaid C r
unfolding region_laid
region_facts C r h = let p = passed _ h in record { op_in = ltb-true _ _ p.0; place = within_facts _ _ _ p.1.0; blocks = leb-true _ _ p.1.1.0 }

pub region_of : (C : Cols) (r : ℕ) → RegionLaid C r → region_laid C r ≡ true
unfolding region_laid
region_of C r h = every_of _ (lt-ltb _ _ h.op_in, (within_of _ _ _ h.place, (le-leb _ _ h.blocks, tt)))

pub counts_facts : (C : Cols) → counts_hold C ≡ true → Counts C
unfolding counts_hold
counts_facts C h =
    let p = passed _ h in
    record {
      ops = leb-true _ _ p.0;
      blocks = leb-true _ _ p.1.0;
      regions = leb-true _ _ p.1.1.0;
      values = leb-true _ _ p.1.1.1.0;
      operands = leb-true _ _ p.1.1.1.1.0;
      successors = leb-true _ _ p.1.1.1.1.1.0;
      attributes = leb-true _ _ p.1.1.1.1.1.1.0;
    }

pub counts_of_lem : (C : Cols) → Counts C → counts_hold C ≡ true
unfolding counts_hold
counts_of_lem C h =
    every_of _
    (le-leb _ _ h.ops, (le-leb _ _ h.blocks, (le-leb _ _ h.regions, (le-leb _ _ h.values, (le-leb _ _ h.operands, (le-leb _ _ h.successors, (le-leb _ _ h.attributes, tt)))))))

pub laid_facts : (C : Cols) → laid_out C ≡ true → Laid C
unfolding laid_out counts_laid
laid_facts C h =
    let p = passed _ h in
    let q = passed _ p.1.1.1.1.1.0 in
    record {
      counts = counts_facts C p.0;
      op = λ n l. op_facts C n (all_below_at _ _ p.1.0 n l);
      block = λ m l. block_facts C m (all_below_at _ _ p.1.1.0 m l);
      region = λ r l. region_facts C r (all_below_at _ _ p.1.1.1.0 r l);
      value = λ v l. all_below_at _ _ p.1.1.1.1.0 v l;
      operand_end = eqb-true _ _ q.0;
      successor_end = eqb-true _ _ q.1.0;
      attributes = eqb-true _ _ q.1.1.0;
      op_link = λ n l. all_below_at _ _ p.1.1.1.1.1.1.0 n l;
      block_link = λ m l. all_below_at _ _ p.1.1.1.1.1.1.1.0 m l;
    }

pub laid_of : (C : Cols) → Laid C → laid_out C ≡ true
unfolding laid_out counts_laid
laid_of C h =
    every_of _ (
      counts_of_lem C h.counts,
      (
        all_below_of _ _ (λ n l. op_of_lem C n (h.op n l)),
        (
          all_below_of _ _ (λ m l. block_of C m (h.block m l)),
          (
            all_below_of _ _ (λ r l. region_of C r (h.region r l)),
            (
              all_below_of _ _ h.value,
              (
                every_of _ (eq-eqb _ _ h.operand_end, (eq-eqb _ _ h.successor_end, (eq-eqb _ _ h.attributes, tt))),
                (all_below_of _ _ h.op_link, (all_below_of _ _ h.block_link, tt)),
              ),
            ),
          ),
        ),
      ),
    )
