-- The next child of an owner, by the link of the child before it or by a search of the owner's range: the same of a block's operations and
-- of a region's blocks. Assumes nothing.
use Prim.Native.Nat.{ℕ, max, ◌+◌, ◌-◌, ◌<◌}
use native.Mathlib.Omega.{arith}
use mathlib.Core.Bool.{Bool, true}
use mathlib.Core.List.{List}
use mathlib.Core.Path.{◌≡◌, sym, ap, ap₂, subst, ◌∙◌}
use Rattle.rules.specs.Store.{ops_of, blocks_of}
use Rattle.layout.specs.Columns.{Cols, at, op_parent, op_next, region_block_first, region_block_end, block_region, block_op_first, block_op_end, block_next}
use Rattle.layout.specs.Reading.{op_count, block_count, region_count, store_of}
use Rattle.std.specs.Prelude as std
use Rattle.layout.specs.Children.{first_from, first_word, word_from, link_found, behind_child}
use Rattle.layout.specs.Soundness.{next_child}
use Rattle.layout.specs.Families.{Children, OwnsChildren, ops_in_blocks, blocks_in_regions}
use Rattle.layout.proofs.Laid.{Laid}
use Rattle.layout.proofs.Finds.{op_on, block_on, op_next_lem, block_next_lem}
use Rattle.layout.proofs.Linking.{link_leads, behind_facts, op_link_lem, block_link_lem}

module _ (C : Cols) (h : Laid C) where
  pub ops_of_lem : (b : ℕ) → b < block_count C → Children C op_parent op_next (op_count C) (b + 1) (at C block_op_first b) (at C block_op_end b) (ops_of (store_of C) b)
  ops_of_lem b l = record { all = op_on C b; ranged = op_next_lem C h b l; linked = λ n m e. (op_link_lem C h b n m e).link; ends = (h.block b l).ops }

  pub blocks_of_lem : (r : ℕ) → r < region_count C
      → Children C block_region block_next (block_count C) r (at C region_block_first r) (at C region_block_end r) (blocks_of (store_of C) r)
  blocks_of_lem r l = record { all = block_on C r; ranged = block_next_lem C h r l; linked = λ m n e. (block_link_lem C h r m n e).link; ends = (h.region r l).blocks }

-- the two ways to a child, as the code goes them
module _ {C : Cols} {owners links count w first end : ℕ} {xs : List ℕ} (k : Children C owners links count w first end xs) (from : ℕ) {found : std.Option ℕ} where
  pub by_link : {total link : ℕ} {t : Bool} → total ≡ count → t ≡ behind_child C owners total w from → t ≡ true
      → link ≡ at C links (from - 1) → found ≡ link_found link → found ≡ first_from from xs
  unfolding next_child
  by_link e q taken read r =
      let f = behind_facts C owners count w from (ap (λ (n : ℕ). behind_child C owners n w from) (sym e) ∙ sym q ∙ taken) in
      let z : from - 1 + 1 ≡ from = let a = f.above in omega arith in
      r
      ∙ ap link_found
      (read ∙ k.linked (from - 1) f.exists f.word ∙ ap₂ (λ (v a : ℕ). word_from (first_word C owners v a (count - a))) f.word z)
      ∙ link_leads C owners w from (count - from) f.above
      ∙ sym (k.all from)

  pub by_search : {a start e : ℕ} → a ≡ first → start ≡ max from a → e ≡ end → found ≡ first_word C owners w start (e - start) → found ≡ first_from from xs
  by_search p q z r =
      r
      ∙ ap₂ (λ (s e : ℕ). first_word C owners w s (e - s)) (q ∙ ap (max from) p) z
      ∙ sym (k.ranged from)

-- ---- the two sorts of children

module _ (C : Cols) (h : Laid C) where
  pub block_owns : (b : ℕ) → b < block_count C → OwnsChildren C ops_in_blocks b (ops_of (store_of C) b)
  unfolding op_count block_count
  block_owns b l =
      record {
        table = omega arith;
        owners = omega arith;
        links = omega arith;
        firsts = omega arith;
        ends = omega arith;
        word = omega (arith, h.counts.blocks, l);
        owned = h.counts.ops;
        linked = h.counts.ops;
        begun = omega (arith, h.counts.blocks, l);
        ended = omega (arith, h.counts.blocks, l);
        children = ops_of_lem C h b l;
      }

  pub region_owns : (r : ℕ) → r < region_count C → OwnsChildren C blocks_in_regions r (blocks_of (store_of C) r)
  unfolding block_count region_count
  region_owns r l =
      record {
        table = omega arith;
        owners = omega arith;
        links = omega arith;
        firsts = omega arith;
        ends = omega arith;
        word = omega (arith, h.counts.regions, l);
        owned = h.counts.blocks;
        linked = h.counts.blocks;
        begun = omega (arith, h.counts.regions, l);
        ended = omega (arith, h.counts.regions, l);
        children =
            let e : r ≡ r + 0 = omega arith in
            subst
            (λ (w : ℕ). Children C block_region block_next (block_count C) w (at C region_block_first r) (at C region_block_end r) (blocks_of (store_of C) r))
            e (blocks_of_lem C h r l);
      }
