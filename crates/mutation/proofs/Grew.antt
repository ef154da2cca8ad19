-- Columns that grew: behind the old rows there may be new ones, and the ranges of children may be wider. So what the old rows are read as is the same, and they are laid out still. Assumes nothing.
use Prim.Native.Nat.{ℕ, zero, suc, ◌+◌, ◌<◌, ◌≤◌}
use native.Mathlib.Omega.{arith}
use mathlib.Core.Bool.{true}
use Rattle.std.specs.Prelude.{Option, None, Some}
use mathlib.Core.Path.{◌≡◌, refl, sym, ap, ap₂, subst, ◌∙◌}
use borrow.Author.Tests.{ltb-true, lt-ltb}
use lib.Dec.{eqb, ltb}
use lib.ListN.{get_or}
use Rattle.rules.specs.declared.types.Owner.{Owner}
use Rattle.rules.specs.declared.types.Owner.TheVariants.{Op as of_op, Block as of_block}
use Rattle.rules.proofs.Basics.Tests.{and_left, and_right, and_both}
use Rattle.layout.specs.Columns.{Cols, at, op_kind, op_parent, op_location, op_depth, op_region_first, op_region_end, op_result_first, op_result_end, op_operand_first, op_operand_end, op_successor_first, op_successor_end, op_attributes, region_op, region_block_first, region_block_end, block_region, block_location, block_argument_first, block_argument_end, block_op_first, block_op_end, block_attributes, value_type, value_owner, operand_words, successor_words, slot_key, slot_kind, slot_content}
use Rattle.layout.specs.Reading.{tabulate, slice, op_count, block_count, region_count, value_count, operand_count, successor_count, around, parent_from, owner_from, slots_of, attribute_read, attribute_at, attributes_from, op_of, block_of, value_of}
use Rattle.layout.specs.Soundness.{within, placed, end_before, in_owner, value_laid}
use Rattle.layout.proofs.Laid.{InRange, Owned, Tiled, OpLaid, BlockLaid, RegionLaid, Laid, within_facts, within_of}
use Rattle.layout.proofs.Nesting.{placed_facts, placed_of}
use Rattle.mutation.proofs.LinksKept.{EntriesKept}

pub record Grew (C D : Cols) : Type 0 where
  pub ops : op_count C ≤ op_count D
  pub blocks : block_count C ≤ block_count D
  pub regions : region_count C ≤ region_count D
  pub values : value_count C ≤ value_count D
  pub operands : operand_count C ≤ operand_count D
  pub successors : successor_count C ≤ successor_count D
  pub kind : EntriesKept C D op_kind (op_count C)
  pub parent : EntriesKept C D op_parent (op_count C)
  pub location : EntriesKept C D op_location (op_count C)
  pub depth : EntriesKept C D op_depth (op_count C)
  pub region_first : EntriesKept C D op_region_first (op_count C)
  pub region_end : EntriesKept C D op_region_end (op_count C)
  pub result_first : EntriesKept C D op_result_first (op_count C)
  pub result_end : EntriesKept C D op_result_end (op_count C)
  pub operand_first : EntriesKept C D op_operand_first (op_count C)
  pub operand_end : EntriesKept C D op_operand_end (op_count C)
  pub successor_first : EntriesKept C D op_successor_first (op_count C)
  pub successor_end : EntriesKept C D op_successor_end (op_count C)
  pub keys : EntriesKept C D op_attributes (op_count C)
  pub around : EntriesKept C D region_op (region_count C)
  pub region : EntriesKept C D block_region (block_count C)
  pub block_place : EntriesKept C D block_location (block_count C)
  pub argument_first : EntriesKept C D block_argument_first (block_count C)
  pub argument_end : EntriesKept C D block_argument_end (block_count C)
  pub block_keys : EntriesKept C D block_attributes (block_count C)
  pub type : EntriesKept C D value_type (value_count C)
  pub owner : EntriesKept C D value_owner (value_count C)
  pub operand_parts : (a e : ℕ) → e ≤ operand_count C → slice (D operand_words) a e ≡ slice (C operand_words) a e
  pub successor_parts : (a e : ℕ) → e ≤ successor_count C → slice (D successor_words) a e ≡ slice (C successor_words) a e
  pub slot_keys : D slot_key ≡ C slot_key
  pub slot_kinds : D slot_kind ≡ C slot_kind
  pub slot_contents : D slot_content ≡ C slot_content
  -- the ranges of children hold what they held
  pub ops_in : (m n : ℕ) → m < block_count C → InRange (at C block_op_first m) (at C block_op_end m) n → InRange (at D block_op_first m) (at D block_op_end m) n
  pub blocks_in : (r m : ℕ) → r < region_count C → InRange (at C region_block_first r) (at C region_block_end r) m → InRange (at D region_block_first r) (at D region_block_end r) m
  pub op_ends : (m : ℕ) → m < block_count C → at D block_op_end m ≤ op_count D
  pub block_ends : (r : ℕ) → r < region_count C → at D region_block_end r ≤ block_count D

owned_kept : (C D : Cols) (k a e a' e' n n' w : ℕ) → a' ≡ a → e' ≡ e → n ≤ n' → EntriesKept C D k n → Owned C k a e n w → Owned D k a' e' n' w
owned_kept C D k a e a' e' n n' w ea ee l kept h =
    let r = h.range in
    record {
      range = record { rises = omega arith; fits = omega arith };
      words = λ i b. ap (λ (x : ℕ). at D k (x + i)) ea ∙ kept (a + i) (omega arith) ∙ h.words i (omega arith);
    }

pub end_kept : (C D : Cols) (k n N : ℕ) → n ≤ N → EntriesKept C D k N → end_before D k n ≡ end_before C k n
unfolding end_before
end_kept C D k zero N l kept = refl
end_kept C D k (suc n) N l kept = kept n (omega arith)

tiled_kept : (C D : Cols) (first end n N total total' : ℕ) → n < N → total ≤ total' → EntriesKept C D first N → EntriesKept C D end N → Tiled C first end n total → Tiled D first end n total'
tiled_kept C D first end n N total total' l t kf ke h =
    let r = h.range in
    let ef = kf n l in
    let ee = ke n l in
    record {
      follows = ef ∙ h.follows ∙ sym (end_kept C D end n N (omega arith) ke);
      range = record { rises = omega arith; fits = omega arith };
    }

module _ (C D : Cols) (h : Laid C) (g : Grew C D) where
  -- ---- what the old rows are read as

  attributes_same : (first n : ℕ) → attributes_from D first n ≡ attributes_from C first n
  unfolding attributes_from attribute_at at
  attributes_same first n = λ i. tabulate n (λ (j : ℕ). attribute_read (get_or (g.slot_keys i) (first + j) 0) (get_or (g.slot_kinds i) (first + j) 0) (get_or (g.slot_contents i) (first + j) 0))

  pub op_same : (n : ℕ) → n < op_count C → op_of D n ≡ op_of C n
  unfolding op_of
  op_same n l =
      let o = h.op n l in
      let operands : slice (D operand_words) (at D op_operand_first n) (at D op_operand_end n) ≡ slice (C operand_words) (at C op_operand_first n) (at C op_operand_end n)
      = ap₂ (slice (D operand_words)) (g.operand_first n l) (g.operand_end n l) ∙ g.operand_parts _ _ o.operands.range.fits in
      let successors : slice (D successor_words) (at D op_successor_first n) (at D op_successor_end n) ≡ slice (C successor_words) (at C op_successor_first n) (at C op_successor_end n)
      = ap₂ (slice (D successor_words)) (g.successor_first n l) (g.successor_end n l) ∙ g.successor_parts _ _ o.successors.range.fits in
      λ i.
      record {
        kind = g.kind n l i;
        parent = parent_from (g.parent n l i);
        location = g.location n l i;
        operands = operands i;
        successors = successors i;
        attributes = (ap (attributes_from D (slots_of (of_op n))) (g.keys n l) ∙ attributes_same (slots_of (of_op n)) (at C op_attributes n)) i;
      }

  pub block_same : (m : ℕ) → m < block_count C → block_of D m ≡ block_of C m
  unfolding block_of
  block_same m l =
      λ i.
      record {
        region = g.region m l i;
        location = g.block_place m l i;
        attributes = (ap (attributes_from D (slots_of (of_block m))) (g.block_keys m l) ∙ attributes_same (slots_of (of_block m)) (at C block_attributes m)) i;
      }

  pub value_same : (v : ℕ) → v < value_count C → value_of D v ≡ value_of C v
  unfolding value_of
  value_same v l = λ i. record { type = g.type v l i; owner = owner_from (g.owner v l i) }

  -- ---- the old rows are laid out still

  -- an operation in a block of before: the ranges are wider, and its depth tells as before
  pub placed_under : (n b : ℕ) → b < block_count C → around C b < n → at D op_depth n ≡ at C op_depth (around C b) + 1 → InRange (at D block_op_first b) (at D block_op_end b) n
      → placed D n (Some b) ≡ true
  placed_under n b lb later deep place =
      let lr = (h.block b lb).region_in in
      let er = g.region b lb in
      let eo : around D b ≡ around C b = ap (at D region_op) er ∙ g.around _ lr in
      let ed : at D op_depth (around D b) ≡ at C op_depth (around C b) = ap (at D op_depth) eo ∙ g.depth _ (h.region _ lr).op_in in
      let gb = g.blocks in
      let gr = g.regions in
      placed_of D n b (record { block_in = omega arith; region_in = omega arith; later = omega arith; depth = omega arith; place = place })

  place_kept : (n : ℕ) → n < op_count C → (p : Option ℕ) → placed C n p ≡ true → placed D n p ≡ true
  unfolding placed
  place_kept n l None e = ap (λ (w : ℕ). eqb w 0) (g.depth n l) ∙ e
  place_kept n l (Some b) e =
      let p = placed_facts C n b e in
      placed_under n b p.block_in p.later (g.depth n l ∙ p.depth) (g.ops_in b n p.block_in p.place)

  pub op_kept : (n : ℕ) → n < op_count C → OpLaid D n
  op_kept n l =
      let o = h.op n l in
      let ek = g.keys n l in
      let ok = o.keys in
      record {
        place = subst (λ (w : ℕ). placed D n (parent_from w) ≡ true) (sym (g.parent n l)) (place_kept n l _ o.place);
        regions = owned_kept C D _ _ _ _ _ _ _ _ (g.region_first n l) (g.region_end n l) g.regions g.around o.regions;
        results = owned_kept C D _ _ _ _ _ _ _ _ (g.result_first n l) (g.result_end n l) g.values g.owner o.results;
        operands = tiled_kept C D _ _ n (op_count C) _ _ l g.operands g.operand_first g.operand_end o.operands;
        successors = tiled_kept C D _ _ n (op_count C) _ _ l g.successors g.successor_first g.successor_end o.successors;
        keys = omega arith;
      }

  pub block_kept : (m : ℕ) → m < block_count C → BlockLaid D m
  block_kept m l =
      let o = h.block m l in
      let er = g.region m l in
      let ek = g.block_keys m l in
      let ok = o.keys in
      let lr = o.region_in in
      let gr = g.regions in
      record {
        region_in = omega arith;
        place = subst (λ (r : ℕ). InRange (at D region_block_first r) (at D region_block_end r) m) (sym er) (g.blocks_in _ m o.region_in o.place);
        arguments = owned_kept C D _ _ _ _ _ _ _ _ (g.argument_first m l) (g.argument_end m l) g.values g.owner o.arguments;
        ops = g.op_ends m l;
        keys = omega arith;
      }

  pub region_kept : (r : ℕ) → r < region_count C → RegionLaid D r
  region_kept r l =
      let o = h.region r l in
      let eo = g.around r l in
      let go = g.ops in
      let lo = o.op_in in
      let w = o.place in
      let ef : at D op_region_first (at D region_op r) ≡ at C op_region_first (at C region_op r) = ap (at D op_region_first) eo ∙ g.region_first _ lo in
      let ee : at D op_region_end (at D region_op r) ≡ at C op_region_end (at C region_op r) = ap (at D op_region_end) eo ∙ g.region_end _ lo in
      record { op_in = omega arith; place = record { from = omega arith; below = omega arith }; blocks = g.block_ends r l }

  in_range : (v a e a' e' : ℕ) → a' ≡ a → e' ≡ e → within a e v ≡ true → within a' e' v ≡ true
  in_range v a e a' e' p q t = let w = within_facts a e v t in within_of a' e' v (record { from = omega arith; below = omega arith })

  owner_kept : (v : ℕ) (w : Owner) → in_owner C v w ≡ true → in_owner D v w ≡ true
  unfolding in_owner
  owner_kept v (of_op n) t =
      let l : n < op_count C = ltb-true _ _ (and_left _ _ t) in
      let go = g.ops in
      and_both _ _ (lt-ltb n (op_count D) (omega arith)) (in_range v _ _ _ _ (g.result_first n l) (g.result_end n l) (and_right (ltb n (op_count C)) _ t))
  owner_kept v (of_block b) t =
      let l : b < block_count C = ltb-true _ _ (and_left _ _ t) in
      let go = g.blocks in
      and_both _ _ (lt-ltb b (block_count D) (omega arith)) (in_range v _ _ _ _ (g.argument_first b l) (g.argument_end b l) (and_right (ltb b (block_count C)) _ t))

  pub value_kept : (v : ℕ) → v < value_count C → value_laid D v ≡ true
  unfolding value_laid
  value_kept v l = subst (λ (w : ℕ). in_owner D v (owner_from w) ≡ true) (sym (g.owner v l)) (owner_kept v _ (h.value v l))
