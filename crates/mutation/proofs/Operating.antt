-- What the tests of a new operation ask, read off the words of a laid out buffer: nesting is told by the depth around its parent, and where no
-- test of a sound one fails its parent is there and what it adds has room. Assumes nothing.
use Prim.Native.Nat.{ℕ, zero, suc, ◌+◌, ◌≤◌, ◌<◌}
use native.Mathlib.Omega.{arith}
use mathlib.Core.Bool.{true}
use mathlib.Core.List.{List}
use Rattle.std.specs.Prelude.{Option, None, Some}
use mathlib.Core.Path.{◌≡◌, refl, sym}
use borrow.Author.Tests.{leb-true, eqb-true}
use lib.ListN.{length}
use lib.Dec.{leb}
use Rattle.rules.specs.Store.{parent_exists, operand_total, successor_total, max_ops, max_regions, max_values, max_operands, max_successors, block_exists, nesting_holds, levels_left, max_nesting, max_own_regions, max_own_values, max_own_operands, max_own_successors}
use Rattle.rules.specs.Building.{NewOperation, new_operation, operation_names, operation_room, tests, first_failed, operation_fits}
use Rattle.rules.proofs.Basics.Tests.{passed}
use Rattle.rules.proofs.Soundness.Accepted.{first_failed_none}
use Rattle.layout.specs.Columns.{columns, Cols, at, op_depth, op_parent, block_region}
use Rattle.layout.specs.Reading.{block_count, store_in, op_count, region_count, around, parent_from}
use Rattle.layout.specs.Soundness.{IsSound, Arranged, placed}
use Rattle.layout.proofs.Laid.{Laid, laid_facts}
use Rattle.layout.proofs.Tabulate.{ops_length, regions_length, values_length, block_in_lem}
use Rattle.layout.proofs.Nesting.{placed_facts, nesting_under}
use Rattle.mutation.proofs.Facts.{laid, operands_counted, successors_counted}
use Rattle.mutation.specs.AddedWrites.{ParentBelow, depth_under}
use Rattle.mutation.proofs.OperationLaid.{RoomFor}

-- ---- what is around a block of a laid out buffer

pub record AroundBlock (C : Cols) (m : ℕ) : Type 0 where
  pub block : m < block_count C
  pub region : at C block_region m < region_count C
  pub op : around C m < op_count C
  pub depth : at C op_depth (around C m) ≤ around C m

-- an operation is nested no deeper than its number, since the one around it has a smaller one
module _ (C : Cols) (h : Laid C) where
  depth_low : (k n : ℕ) → n < k → n < op_count C → at C op_depth n ≤ n
  unfolding placed
  depth_low zero n l o = absurd (omega arith)
  depth_low (suc k) n l o = go (λ m z w. depth_low k m z w) (parent_from (at C op_parent n)) (h.op n o).place
    where
      go : ((m : ℕ) → m < k → m < op_count C → at C op_depth m ≤ m) → (p : Option ℕ) → placed C n p ≡ true → at C op_depth n ≤ n
      go low None e = let z : at C op_depth n ≡ 0 = eqb-true _ 0 e in omega arith
      go low (Some b) e =
          let p = placed_facts C n b e in
          let up : at C op_depth (around C b) ≤ around C b = low (around C b) (omega (arith, p.later)) (omega (arith, p.later)) in
          omega (arith, p.depth, p.later)

pub arranged_of : {b : List ℕ} → IsSound b → Arranged b
arranged_of h = record { sized = h.sized; laid = h.laid }

pub in_block : (b : List ℕ) (h : Arranged b) (m : ℕ) → block_exists (store_in b) m ≡ true → AroundBlock (columns b) m
in_block b h m e =
    let C = columns b in
    let z = laid_facts C h.laid in
    let l : m < block_count C = block_in_lem C m e in
    let r = (z.block m l).region_in in
    let n : ℕ = around C m in
    let o : n < op_count C = (z.region (at C block_region m) r).op_in in
    record { block = l; region = r; op = o; depth = depth_low C z (suc n) n (omega arith) o }

-- nesting is told by the depth of the parent
pub nesting_by_depth : (b : List ℕ) (h : IsSound b) (p : Option ℕ) → parent_exists (store_in b) p ≡ true → leb (depth_under (columns b) p) max_nesting ≡ nesting_holds (store_in b) p
unfolding depth_under nesting_holds levels_left parent_exists
nesting_by_depth b h None e = refl
nesting_by_depth b h (Some m) e = sym (nesting_under (columns b) (laid b h) m (in_block b (arranged_of h) m e).block)

-- the limits of one owner, as facts
pub record FitsFacts (new : NewOperation) : Type 0 where
  pub regions_fit : new.regions ≤ max_own_regions
  pub types_fit : length new.types ≤ max_own_values
  pub operands_fit : length new.operands ≤ max_own_operands
  pub successors_fit : length new.successors ≤ max_own_successors

pub fits_facts : (new : NewOperation) → operation_fits new ≡ true → FitsFacts new
unfolding operation_fits
fits_facts new h =
    let p = passed _ h in
    record { regions_fit = leb-true _ _ p.0; types_fit = leb-true _ _ p.1.0; operands_fit = leb-true _ _ p.1.1.0; successors_fit = leb-true _ _ p.1.1.1.0 }

-- ---- the parent, and room

module _ (b : List ℕ) (h : Arranged b) where
  pub parent_in_lem : (p : Option ℕ) → parent_exists (store_in b) p ≡ true → ParentBelow (block_count (columns b)) p
  unfolding parent_exists ParentBelow
  parent_in_lem None e = tt
  parent_in_lem (Some m) e = (in_block b h m e).block

  pub parent_below_lem : (p : Option ℕ) → parent_exists (store_in b) p ≡ true → ParentBelow 256 p
  unfolding parent_exists ParentBelow
  parent_below_lem None e = tt
  parent_below_lem (Some m) e = let l = (in_block b h m e).block in let k = (laid_facts (columns b) h.laid).counts.blocks in omega arith

module _ (b : List ℕ) (h : IsSound b) where
  pub names_parent : (new : NewOperation) → operation_names (store_in b) new ≡ true → parent_exists (store_in b) new.parent ≡ true
  unfolding operation_names
  names_parent new e = (passed _ e).0

  pub room_facts : (new : NewOperation) → operation_room (store_in b) new ≡ true → RoomFor (columns b) new
  unfolding operation_room
  room_facts new e =
      let p = passed _ e in
      let o : length (store_in b).ops + 1 ≤ max_ops = leb-true _ _ p.0 in
      let r : length (store_in b).regions + new.regions ≤ max_regions = leb-true _ _ p.1.0 in
      let v : length (store_in b).values + length new.types ≤ max_values = leb-true _ _ p.1.1.0 in
      let u : operand_total (store_in b) + length new.operands ≤ max_operands = leb-true _ _ p.1.1.1.0 in
      let s : successor_total (store_in b) + length new.successors ≤ max_successors = leb-true _ _ p.1.1.1.1.0 in
      record {
        ops = omega (arith, ops_length (columns b));
        regions = omega (arith, regions_length (columns b));
        values = omega (arith, values_length (columns b));
        operands = omega (arith, operands_counted b h);
        successors = omega (arith, successors_counted b h);
      }

  -- a new operation that no test refuses
  pub record Allowed (new : NewOperation) : Type 0 where
    pub parent : parent_exists (store_in b) new.parent ≡ true
    pub room : RoomFor (columns b) new

  pub allowed : (new : NewOperation) → first_failed (tests (store_in b) (new_operation new)) ≡ None → Allowed new
  unfolding tests
  allowed new e = let q = first_failed_none _ e in record { parent = names_parent new q.0; room = room_facts new q.1.1.1.0 }
