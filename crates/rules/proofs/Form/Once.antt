-- A walk over a fragment of a sound store comes to each operation and block once, and so defines each value and each block once: what
-- it comes to lies in one branch only. Assumes nothing.
use Prim.Native.Nat.{ℕ, zero, suc, ◌<◌}
use mathlib.Core.Bool.{true}
use mathlib.Core.List.Memᴰ
use mathlib.Core.List.{List, [], ◌∷◌, Memᴰ}
use mathlib.Core.Logic.{inl, inr, ⊎_elim}
use Rattle.std.specs.Prelude.{Some}
use mathlib.Core.Path.{◌≡◌, refl, sym, ap, subst, ◌∙◌}
use borrow.Author.Tests.{ltb-true}
use lib.ListN.{length, get_or}
use Rattle.std.specs.List.{flat_map}
use Rattle.rules.specs.Store.{Store, blocks_of, regions_of, values_of, block_at, op_around, owner_exists, op_exists, block_exists}
use Rattle.rules.specs.declared.types.Owner.{Owner}
use Rattle.rules.specs.declared.types.Owner.TheVariants.{Op as of_op, Block as of_block}
use Rattle.rules.specs.Fragments.{exists, levels, Step, full_op, region_steps, steps, step_defines, op_owner, block_owner, defines_owners, fragment_ops, defines_values, defines_blocks}
use Rattle.rules.specs.declared.types.Sort.{Sort}
use Rattle.rules.specs.declared.types.Sort.TheVariants.{Op as op, Block as block, Region as region}
use Rattle.rules.proofs.Soundness.Sound.{Sound}
use Rattle.rules.proofs.Soundness.Grown.{owner_op}
use Rattle.rules.proofs.Basics.Distinct.{Distinct, distinct_concat_map, mem_concat_map, concat_map_concat_map}
use Rattle.rules.proofs.Soundness.Children.{blocks_in_lem, regions_in_lem, values_in_lem, blocks_distinct, regions_distinct, values_distinct}
use Rattle.rules.proofs.Form.Ancestors.{up, next, From, around_from, not_around_itself, same_from}
use Rattle.rules.proofs.Form.Roots.{Root}
use Rattle.rules.proofs.Form.OnceInLists.{defined, OpPart, BlocksPart, Blocks, list_part}

-- ---- an owner that is an operation, or a block, by its number

one_alone : (n : ℕ) → Distinct (n ∷ [])
one_alone n = (λ m. Memᴰ.not-nil m, tt)

pub op_owner_lem : (w : Owner) (n : ℕ) → Memᴰ n (op_owner w) → w ≡ of_op n
unfolding op_owner
op_owner_lem (of_op m) n k = ap of_op (sym (Memᴰ.eq_of_singleton k))
op_owner_lem (of_block b) n k = absurd (Memᴰ.not-nil k)

op_alone : (w : Owner) → Distinct (op_owner w)
unfolding op_owner
op_alone (of_op m) = one_alone m
op_alone (of_block b) = tt

pub block_owner_lem : (w : Owner) (b : ℕ) → Memᴰ b (block_owner w) → w ≡ of_block b
unfolding block_owner
block_owner_lem (of_op m) b k = absurd (Memᴰ.not-nil k)
block_owner_lem (of_block c) b k = ap of_block (sym (Memᴰ.eq_of_singleton k))

block_alone : (w : Owner) → Distinct (block_owner w)
unfolding block_owner
block_alone (of_op m) = tt
block_alone (of_block b) = one_alone b

module _ (s : Store) (sd : Sound s) where
  -- ---- a full operation

  region_blocks : (r : ℕ) → Blocks s (blocks_of s r)
  unfolding up op_around
  region_blocks r =
      record {
        here = λ b m. (blocks_in_lem s r m).0;
        once = blocks_distinct s r;
        around = λ b c mb mc. ap (λ (q : ℕ). Some (of_op (get_or s.regions q 0))) ((blocks_in_lem s r mb).1 ∙ sym (blocks_in_lem s r mc).1);
      }

  -- the operation around a block of its region
  region_up : (n r b : ℕ) → Memᴰ r (regions_of s n) → Memᴰ b (blocks_of s r) → up s (of_block b) ≡ Some (of_op n)
  unfolding up op_around
  region_up n r b mr mb =
      ap (λ (q : ℕ). Some (of_op (get_or s.regions q 0))) (blocks_in_lem s r mb).1 ∙ ap (λ (m : ℕ). Some (of_op m)) (regions_in_lem s n mr).1

  op_part_lem : (in_region : ℕ → List Step) → ((r : ℕ) → BlocksPart s (in_region r) (blocks_of s r)) → (n : ℕ) → OpPart s (full_op s in_region) n
  unfolding full_op defined step_defines
  op_part_lem in_region parts n =
      record {
        inside = λ y m.
            let w = mem_concat_map part (regions_of s n) (subst (Memᴰ y) flat m) in
            let i = (parts w.0).inside y w.2 in
            (i.0, around_from (next (region_up n w.0 i.1.0 w.1 i.1.1)) i.1.2);
        once = subst Distinct (sym flat)
            (distinct_concat_map part (regions_of s n) (regions_distinct s n) (λ r m. (parts r).once)
            (λ r q mr mq y k l.
            let i = (parts r).inside y k in
            let j = (parts q).inside y l in
            let e : of_block i.1.0 ≡ of_block j.1.0 = same_from s sd (region_up n r i.1.0 mr i.1.1 ∙ sym (region_up n q j.1.0 mq j.1.1)) i.0 i.1.2 j.1.2 in
            let f : i.1.0 ≡ j.1.0 = cc in
            sym (blocks_in_lem s r i.1.1).1 ∙ ap (λ (b : ℕ). (block_at s b).region) f ∙ (blocks_in_lem s q j.1.1).1));
      }
    where
      part : ℕ → List Owner
      part r = defined (in_region r)

      flat : flat_map step_defines (flat_map in_region (regions_of s n)) ≡ flat_map part (regions_of s n)
      flat = concat_map_concat_map step_defines in_region (regions_of s n)

  -- ---- a region, whatever the number of regions that may be entered

  region_part : (k r : ℕ) → BlocksPart s (region_steps k s r) (blocks_of s r)
  unfolding region_steps defined
  region_part zero r = record { inside = λ y m. absurd (Memᴰ.not-nil m); once = tt }
  region_part (suc k) r = list_part s sd (full_op s (region_steps k s)) (λ n l. op_part_lem (region_steps k s) (region_part k) n) (blocks_of s r) (region_blocks r)

  full_part_lem : (k n : ℕ) → OpPart s (full_op s (region_steps k s)) n
  full_part_lem k = op_part_lem (region_steps k s) (region_part k)

  -- an operation and what it defines
  op_once : (k n : ℕ) → op_exists s n ≡ true → Distinct (of_op n ∷ defined (full_op s (region_steps k s) n))
  unfolding op_exists
  op_once k n h = (λ m. not_around_itself s sd (owner_op s sd n (ltb-true _ _ h)) ((full_part_lem k n).inside (of_op n) m).1, (full_part_lem k n).once)

  op_here : (k n : ℕ) → op_exists s n ≡ true
      → (w : Owner) → Memᴰ w (of_op n ∷ defined (full_op s (region_steps k s) n)) → (owner_exists s w ≡ true) × From s (of_op n) w
  unfolding op_exists
  op_here k n h w m =
      ⊎_elim
      (λ e. (subst (λ (x : Owner). owner_exists s x ≡ true) (sym e) (owner_op s sd n (ltb-true _ _ h)), inl e))
      (λ i. let q = (full_part_lem k n).inside w i in (q.0, inr q.1))
      (Memᴰ.cases_cons m)

  one_block_alone : (b : ℕ) → b < length s.blocks → Blocks s (b ∷ [])
  one_block_alone b l =
      record {
        here = λ c m. subst (λ (n : ℕ). n < length s.blocks) (sym (Memᴰ.eq_of_singleton m)) l;
        once = (λ m. Memᴰ.not-nil m, tt);
        around = λ c d mc md. ap (λ (n : ℕ). up s (of_block n)) (Memᴰ.eq_of_singleton mc ∙ sym (Memᴰ.eq_of_singleton md));
      }

  -- ---- a fragment

  pub owners_once : (f : Sort) (n : ℕ) → exists s f n ≡ true → Distinct (defines_owners s f n)
  unfolding defines_owners steps exists block_exists step_defines defined
  owners_once op n h = op_once levels n h
  owners_once block n h = (list_part s sd (full_op s (region_steps levels s)) (λ m l. full_part_lem levels m) (n ∷ []) (one_block_alone n (ltb-true _ _ h))).once
  owners_once region n h = (region_part levels n).once

  -- each exists, and is what the fragment begins with or inside that
  pub owners_from : (f : Sort) (n : ℕ) → exists s f n ≡ true → (w : Owner) → Memᴰ w (defines_owners s f n)
      → (owner_exists s w ≡ true) × ((r : Owner) × Root s f n r × From s r w)
  unfolding defines_owners steps exists block_exists step_defines defined Root
  owners_from op n h w m = let i = op_here levels n h w m in (i.0, (of_op n, refl, i.1))
  owners_from block n h w m =
      let i = (list_part s sd (full_op s (region_steps levels s)) (λ m l. full_part_lem levels m) (n ∷ []) (one_block_alone n (ltb-true _ _ h))).inside w m in
      (i.0, (of_block i.1.0, ap of_block (Memᴰ.eq_of_singleton i.1.1), i.1.2))
  owners_from region n h w m = let i = (region_part levels n).inside w m in (i.0, (of_block i.1.0, (i.1.0, i.1.1, refl), i.1.2))

  pub owners_here : (f : Sort) (n : ℕ) → exists s f n ≡ true → (w : Owner) → Memᴰ w (defines_owners s f n) → owner_exists s w ≡ true
  owners_here f n h w m = (owners_from f n h w m).0

  pub values_once_lem : (f : Sort) (n : ℕ) → exists s f n ≡ true → Distinct (defines_values s f n)
  unfolding defines_values
  values_once_lem f n h =
      distinct_concat_map (values_of s) (defines_owners s f n) (owners_once f n h) (λ w m. values_distinct s w)
      (λ w x mw mx v k l. sym (values_in_lem s w k).1 ∙ (values_in_lem s x l).1)

  pub values_here : (f : Sort) (n : ℕ) (v : ℕ) → Memᴰ v (defines_values s f n) → v < length s.values
  unfolding defines_values
  values_here f n v m = let w = mem_concat_map (values_of s) (defines_owners s f n) m in (values_in_lem s w.0 w.2).0

  -- ---- the operations alone, and the blocks: by a function that lists of an owner nothing, or its number

  module _ (number : Owner → List ℕ) (of : ℕ → Owner) (owner : (w : Owner) (n : ℕ) → Memᴰ n (number w) → w ≡ of n) (alone : (w : Owner) → Distinct (number w)) where
    numbers_once : (f : Sort) (n : ℕ) → exists s f n ≡ true → Distinct (flat_map number (defines_owners s f n))
    numbers_once f n h =
        distinct_concat_map number (defines_owners s f n) (owners_once f n h) (λ w m. alone w) (λ w x mw mx b k l. owner w b k ∙ sym (owner x b l))

    numbers_here : (f : Sort) (n : ℕ) → exists s f n ≡ true → (m : ℕ) → Memᴰ m (flat_map number (defines_owners s f n)) → owner_exists s (of m) ≡ true
    numbers_here f n h m k =
        let w = mem_concat_map number (defines_owners s f n) k in
        subst (λ (x : Owner). owner_exists s x ≡ true) (owner w.0 m w.2) (owners_here f n h w.0 w.1)

  pub ops_once : (f : Sort) (n : ℕ) → exists s f n ≡ true → Distinct (fragment_ops s f n)
  unfolding fragment_ops
  ops_once = numbers_once op_owner of_op op_owner_lem op_alone

  pub ops_here : (f : Sort) (n : ℕ) → exists s f n ≡ true → (m : ℕ) → Memᴰ m (fragment_ops s f n) → m < length s.ops
  unfolding fragment_ops owner_exists op_exists
  ops_here f n h m k = ltb-true _ _ (numbers_here op_owner of_op op_owner_lem op_alone f n h m k)

  pub blocks_once_lem : (f : Sort) (n : ℕ) → exists s f n ≡ true → Distinct (defines_blocks s f n)
  unfolding defines_blocks
  blocks_once_lem = numbers_once block_owner of_block block_owner_lem block_alone

  pub blocks_here : (f : Sort) (n : ℕ) → exists s f n ≡ true → (b : ℕ) → Memᴰ b (defines_blocks s f n) → b < length s.blocks
  unfolding defines_blocks owner_exists block_exists
  blocks_here f n h b k = ltb-true _ _ (numbers_here block_owner of_block block_owner_lem block_alone f n h b k)
