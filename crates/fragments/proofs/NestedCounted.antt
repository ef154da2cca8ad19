-- The size of an operation, by its recursion into regions, is the number of operations that the walk comes to; and so is that of a fragment,
-- its outermost operations counted together. Assumes nothing.
use Prim.Native.Nat.{ℕ, zero, suc, ◌+◌}
use native.Mathlib.Omega.{arith}
use native.Mathlib.Nat.{add-zero}
use mathlib.Core.List.{List, [], ◌∷◌, ◌++◌, map, append-nil}
use mathlib.Core.Path.{◌≡◌, refl, sym, ap, ◌∙◌}
use lib.ListN.{length, length-append}
use Rattle.rules.specs.Lists.{sum}
use Rattle.std.specs.List.{flat_map}
use Rattle.rules.specs.Store.{Store, ops_of, blocks_of, regions_of}
use Rattle.rules.specs.declared.types.Owner.{Owner}
use Rattle.rules.specs.declared.types.Owner.TheVariants.{Op as of_op, Block as of_block}
use Rattle.rules.specs.Fragments.{Step, shell, levels, full_op, shells, list_steps, region_steps, steps, step_defines, op_owner, defines_owners, fragment_ops, ops_in_blocks, ops_inside, outermost}
use Rattle.rules.specs.declared.types.Sort.{Sort}
use Rattle.rules.specs.declared.types.Sort.TheVariants.{Op as op, Block as block, Region as region}
use Rattle.rules.proofs.Basics.Distinct.{concat_map_append}
use Rattle.rules.proofs.Basics.Appended.{sum_append}
use Rattle.rules.proofs.Copying.Renumbered.{map_same}
use Rattle.rules.proofs.Extents.Inside.{height}
use Rattle.fragments.specs.Sizes.{op_size, ops_size}

-- ---- sums

sums_same : (f g : ℕ → ℕ) (xs : List ℕ) → ((x : ℕ) → f x ≡ g x) → sum (map f xs) ≡ sum (map g xs)
sums_same f g xs same = ap sum (map_same f g xs (λ x m. same x))

sum_sucs : (g : ℕ → ℕ) (xs : List ℕ) → sum (map (λ (x : ℕ). suc (g x)) xs) ≡ length xs + sum (map g xs)
unfolding sum
sum_sucs g [] = refl
sum_sucs g (x ∷ xs) = let e = sum_sucs g xs in omega arith

sum_concat : (f : ℕ → ℕ) (g : ℕ → List ℕ) (xs : List ℕ) → sum (map f (flat_map g xs)) ≡ sum (map (λ (x : ℕ). sum (map f (g x))) xs)
unfolding sum
sum_concat f g [] = refl
sum_concat f g (x ∷ xs) = sum_append f (g x) (flat_map g xs) ∙ ap (λ (k : ℕ). sum (map f (g x)) + k) (sum_concat f g xs)

-- ---- how many operations steps define

unfoldable count : List Step → ℕ
count xs = length (flat_map op_owner (flat_map step_defines xs))

count_append : (xs ys : List Step) → count (xs ++ ys) ≡ count xs + count ys
unfolding count
count_append xs ys =
    ap (λ (ws : List Owner). length (flat_map op_owner ws)) (concat_map_append step_defines xs ys)
    ∙ ap length (concat_map_append op_owner (flat_map step_defines xs) (flat_map step_defines ys))
    ∙ length-append (flat_map op_owner (flat_map step_defines xs)) (flat_map op_owner (flat_map step_defines ys))

count_concat : (f : ℕ → List Step) (xs : List ℕ) → count (flat_map f xs) ≡ sum (map (λ (x : ℕ). count (f x)) xs)
unfolding sum count
count_concat f [] = refl
count_concat f (x ∷ xs) = count_append (f x) (flat_map f xs) ∙ ap (λ (k : ℕ). count (f x) + k) (count_concat f xs)

block_shells : (bs : List ℕ) → count (map (λ (n : ℕ). shell (of_block n)) bs) ≡ 0
unfolding count step_defines op_owner
block_shells [] = refl
block_shells (b ∷ bs) = block_shells bs

op_shells : (ns : List ℕ) → count (map (λ (n : ℕ). shell (of_op n)) ns) ≡ length ns
unfolding count step_defines op_owner
op_shells [] = refl
op_shells (n ∷ ns) = ap suc (op_shells ns)

blocks_none : (bs : List ℕ) → count (shells of_block bs) ≡ 0
unfolding count step_defines op_owner shells
blocks_none bs = block_shells bs

ops_each : (ns : List ℕ) → count (shells of_op ns) ≡ length ns
unfolding count step_defines op_owner shells
ops_each ns = op_shells ns

module _ (s : Store) where
  -- ---- a list of blocks: its operations, and what each one's regions have

  both : (full : ℕ → List Step) (bs : List ℕ)
      → sum (map (λ (b : ℕ). length (ops_of s b)) bs) + sum (map (λ (b : ℕ). sum (map (λ (n : ℕ). count (full n)) (ops_of s b))) bs)
      ≡ sum (map (λ (n : ℕ). suc (count (full n))) (ops_in_blocks s bs))
  unfolding ops_in_blocks sum
  both full [] = refl
  both full (b ∷ bs) =
      let rest = both full bs in
      let here = sum_sucs (λ (n : ℕ). count (full n)) (ops_of s b) in
      let parts = sum_append (λ (n : ℕ). suc (count (full n))) (ops_of s b) (flat_map (ops_of s) bs) in
      omega arith

  abbrev heads : List ℕ → List Step
  heads bs = flat_map (λ (b : ℕ). shells of_op (ops_of s b)) bs

  abbrev fulls : (ℕ → List Step) → List ℕ → List Step
  fulls full bs = flat_map (λ (b : ℕ). flat_map full (ops_of s b)) bs

  heads_count : (bs : List ℕ) → count (heads bs) ≡ sum (map (λ (b : ℕ). length (ops_of s b)) bs)
  heads_count bs =
      count_concat (λ (b : ℕ). shells of_op (ops_of s b)) bs
      ∙ sums_same (λ (b : ℕ). count (shells of_op (ops_of s b))) (λ (b : ℕ). length (ops_of s b)) bs (λ b. ops_each (ops_of s b))

  fulls_count : (full : ℕ → List Step) (bs : List ℕ) → count (fulls full bs) ≡ sum (map (λ (b : ℕ). sum (map (λ (n : ℕ). count (full n)) (ops_of s b))) bs)
  fulls_count full bs =
      count_concat (λ (b : ℕ). flat_map full (ops_of s b)) bs
      ∙ sums_same (λ (b : ℕ). count (flat_map full (ops_of s b))) (λ (b : ℕ). sum (map (λ (n : ℕ). count (full n)) (ops_of s b))) bs
      (λ b. count_concat full (ops_of s b))

  listed : (full : ℕ → List Step) (bs : List ℕ) → count (list_steps s full bs) ≡ sum (map (λ (n : ℕ). suc (count (full n))) (ops_in_blocks s bs))
  unfolding list_steps
  listed full bs =
      let first : count (list_steps s full bs) ≡ count (shells of_block bs ++ heads bs) + count (fulls full bs) = count_append (shells of_block bs ++ heads bs) (fulls full bs) in
      let second = count_append (shells of_block bs) (heads bs) in
      let outer = heads_count bs in
      let inner = fulls_count full bs in
      let none = blocks_none bs in
      let all = both full bs in
      omega arith

  of_full : (inside : ℕ → List Step) (n : ℕ) → count (full_op s inside n) ≡ sum (map (λ (r : ℕ). count (inside r)) (regions_of s n))
  unfolding full_op count step_defines
  of_full inside n = count_concat inside (regions_of s n)

  zeros : (rs : List ℕ) → sum (map (λ (r : ℕ). 0) rs) ≡ 0
  unfolding sum
  zeros [] = refl
  zeros (r ∷ rs) = let e = zeros rs in omega arith

  none_in : (rs : List ℕ) → sum (map (λ (r : ℕ). count (region_steps zero s r)) rs) ≡ 0
  unfolding region_steps count
  none_in rs = zeros rs

  -- ---- an operation

  sized : (k n : ℕ) → suc (count (full_op s (region_steps k s) n)) ≡ op_size k s n
  unfolding op_size region_steps ops_inside
  sized zero n = ap suc (of_full (region_steps zero s) n ∙ none_in (regions_of s n))
  sized (suc k) n =
      ap suc
      (of_full (region_steps (suc k) s) n
      ∙ sums_same
      (λ (r : ℕ). count (list_steps s (full_op s (region_steps k s)) (blocks_of s r)))
      (λ (r : ℕ). sum (map (op_size k s) (ops_in_blocks s (blocks_of s r))))
      (regions_of s n)
      (λ r. listed (full_op s (region_steps k s)) (blocks_of s r)
      ∙ sums_same (λ (m : ℕ). suc (count (full_op s (region_steps k s) m))) (op_size k s) (ops_in_blocks s (blocks_of s r)) (sized k))
      ∙ sym (sum_concat (op_size k s) (λ (r : ℕ). ops_in_blocks s (blocks_of s r)) (regions_of s n)))

  -- ---- a fragment

  listed_size : (k : ℕ) (bs : List ℕ) → count (list_steps s (full_op s (region_steps k s)) bs) ≡ ops_size k s (ops_in_blocks s bs)
  unfolding ops_size
  listed_size k bs =
      listed (full_op s (region_steps k s)) bs
      ∙ sums_same (λ (m : ℕ). suc (count (full_op s (region_steps k s) m))) (op_size k s) (ops_in_blocks s bs) (sized k)

  pub fragment_counted : (f : Sort) (n : ℕ) → length (fragment_ops s f n) ≡ ops_size (height f) s (outermost s f n)
  unfolding fragment_ops defines_owners steps count step_defines op_owner outermost height region_steps ops_in_blocks ops_size sum
  fragment_counted op n = sized levels n ∙ sym (add-zero (op_size levels s n))
  fragment_counted block n = listed_size levels (n ∷ []) ∙ ap (ops_size levels s) (append-nil (ops_of s n))
  fragment_counted region n = listed_size 32 (blocks_of s n)
