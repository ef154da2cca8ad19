-- What of a store there is room for there is room for of each store that it goes on from. Assumes nothing.
use Rattle.std.proofs.Common.{◌≡◌, ℕ, ◌+◌, ◌≤◌, List, [], ◌++◌, map, length, get_or, refl, sym, ap, ◌∙◌, arith, append-nil, append_assoc, length-append}
use Rattle.std.proofs.lemmas.List.{map-append}
use Rattle.std.specs.Prelude.{Option}
use Rattle.std.specs.List.{flat_map}
use Rattle.rules.specs.Lists.{sum}
use Rattle.rules.specs.Store.{Store, Op, Block, Value, regions_of, values_of, operand_total, successor_total, attribute_total}
use Rattle.rules.specs.declared.types.Owner.{Owner}
use Rattle.rules.specs.Fragments.{op_owner, block_owner, defines_owners, defines_blocks, defines_values, fragment_ops}
use Rattle.rules.specs.declared.types.Sort.TheVariants.{Op as op}
use Rattle.rules.specs.Copying.{copied_regions, op_copy, copied_op, copied_block, copied_value, copied}
use Rattle.rules.proofs.Basics.Distinct.{concat_map_append}
use Rattle.rules.proofs.Basics.Appended.{sum_append}
use Rattle.rules.proofs.Soundness.Sound.{TotalsSound}
use Rattle.copying.specs.Partial.{copied_by}

-- the second store goes on from the first: each table has more behind
pub record Longer (s t : Store) : Type 0 where
  pub more_ops : List Op
  pub more_blocks : List Block
  pub more_regions : List ℕ
  pub more_values : List Value
  pub ops : t.ops ≡ s.ops ++ more_ops
  pub blocks : t.blocks ≡ s.blocks ++ more_blocks
  pub regions : t.regions ≡ s.regions ++ more_regions
  pub values : t.values ≡ s.values ++ more_values

length_more : {A : Type 0} (xs ys zs : List A) (k : ℕ) → ys ≡ xs ++ zs → length ys ≤ k → length xs ≤ k
length_more xs ys zs k e l = let f : length ys ≡ length xs + length zs = ap length e ∙ length-append xs zs in omega arith

sum_more : {A : Type 0} (f : A → ℕ) (xs ys zs : List A) → ys ≡ xs ++ zs → sum (map f ys) ≡ sum (map f xs) + sum (map f zs)
sum_more f xs ys zs e = ap (λ (l : List _). sum (map f l)) e ∙ sum_append f xs zs

pub fewer : (s t : Store) → Longer s t → TotalsSound t → TotalsSound s
unfolding operand_total successor_total attribute_total
fewer s t h k =
    let o = k.operands in
    let u = k.successors in
    let a = k.attributes in
    let e₁ = sum_more (λ (x : Op). length x.operands) s.ops t.ops h.more_ops h.ops in
    let e₂ = sum_more (λ (x : Op). length x.successors) s.ops t.ops h.more_ops h.ops in
    let e₃ = sum_more (λ (x : Op). length x.attributes) s.ops t.ops h.more_ops h.ops in
    let e₄ = sum_more (λ (x : Block). length x.attributes) s.blocks t.blocks h.more_blocks h.blocks in
    record {
      ops = length_more s.ops t.ops h.more_ops _ h.ops k.ops;
      blocks = length_more s.blocks t.blocks h.more_blocks _ h.blocks k.blocks;
      regions = length_more s.regions t.regions h.more_regions _ h.regions k.regions;
      values = length_more s.values t.values h.more_values _ h.values k.values;
      operands = omega arith;
      successors = omega arith;
      attributes = omega arith;
    }

-- ---- all copies

pub copied_by_lem : (s : Store) (n : ℕ) (place : Option ℕ) → copied_by s n place (defines_owners s op n) ≡ copied s n place
unfolding copied_by copied fragment_ops defines_blocks copied_regions defines_values
copied_by_lem s n place = refl

pub none_copied : (s : Store) (n : ℕ) (place : Option ℕ) → copied_by s n place [] ≡ s
unfolding copied_by
none_copied s n place i =
    record { ops = append-nil s.ops i; blocks = append-nil s.blocks i; regions = append-nil s.regions i; values = append-nil s.values i }

more_table : {A : Type 0} (xs : List A) (g : ℕ → A) (a b c : List ℕ) → c ≡ a ++ b → xs ++ map g c ≡ (xs ++ map g a) ++ map g b
more_table {A} xs g a b c e =
    ap (λ (l : List ℕ). xs ++ map g l) e ∙ ap (λ (l : List A). xs ++ l) (map-append g a b) ∙ sym (append_assoc xs (map g a) (map g b))

pub more_copied : (s : Store) (n : ℕ) (place : Option ℕ) (ws us : List Owner) → Longer (copied_by s n place ws) (copied_by s n place (ws ++ us))
unfolding copied_by
more_copied s n place ws us =
    record {
      more_ops = map (copied_op s n place) (flat_map op_owner us);
      more_blocks = map (copied_block s n) (flat_map block_owner us);
      more_regions = map (λ (r : ℕ). op_copy s n (get_or s.regions r 0)) (flat_map (regions_of s) (flat_map op_owner us));
      more_values = map (copied_value s n) (flat_map (values_of s) us);
      ops = more_table s.ops (copied_op s n place) _ _ _ (concat_map_append op_owner ws us);
      blocks = more_table s.blocks (copied_block s n) _ _ _ (concat_map_append block_owner ws us);
      regions =
          more_table s.regions _ _ _ _ (ap (flat_map (regions_of s)) (concat_map_append op_owner ws us) ∙ concat_map_append (regions_of s) (flat_map op_owner ws) (flat_map op_owner us));
      values = more_table s.values (copied_value s n) _ _ _ (concat_map_append (values_of s) ws us);
    }
