-- No key is longer than `longest_key`. What each step writes is charged to the operation or block that it is of, the count of a region's blocks to
-- the operation around it; a fragment defines each once, so all charges together are within the store's totals. Assumes nothing.
use Prim.Native.Nat.{ℕ, zero, suc, ◌+◌, ◌*◌, ◌/◌, ◌≤◌, ◌<◌}
use native.Mathlib.Nat.{le_refl, le_trans, not-suc-le-zero}
use native.Mathlib.Omega.{arith}
use mathlib.Core.Bool.{true, not}
use mathlib.Core.List.Memᴰ
use mathlib.Core.List.{List, [], ◌∷◌, ◌++◌, map, Memᴰ}
use Rattle.std.specs.Prelude.{Option, None, Some}
use mathlib.Core.Path.{◌≡◌, refl, sym, ap, subst, ◌∙◌}
use lib.ListN.{length, length-append, length-map, get_or, set, get_or-map}
use lib.Seq.{get_or-set_other}
use Rattle.rules.specs.Lists.{sum}
use Rattle.std.specs.List.{flat_map}
use Rattle.rules.specs.Store.{Store, Op, Block, no_op, no_block, op_at, block_at, type_of, ops_of, blocks_of, regions_of, values_of, operand_total, successor_total, attribute_total, sound}
use Rattle.rules.specs.declared.types.Attribute.{Attribute}
use Rattle.rules.specs.declared.types.Owner.{Owner}
use Rattle.rules.specs.declared.types.Owner.TheVariants.{Op as of_op, Block as of_block}
use Rattle.rules.specs.Fragments.{exists, levels, Step, shell, names, counted, full_op, shells, list_steps, region_steps, steps, step_defines, block_owner, defines_owners, defines_values, defines_blocks, op_owner}
use Rattle.rules.specs.declared.types.Sort.{Sort}
use Rattle.rules.specs.declared.types.Sort.TheVariants.{Op as op, Block as block, Region as region}
use Rattle.rules.specs.Shells.{Shell, ignored, unignored, shell_of}
use Rattle.rules.specs.declared.types.Ignore.{Ignore}
use Rattle.rules.specs.Hash.{bytes, leaf, count, tag, list_bytes, location_bytes, flag, attribute_bytes, shell_bytes, head_bytes, Numbering, no_numbers, numbered, name_of, name_bytes, feeds, all_bytes}
use Rattle.rules.specs.declared.types.Name.{Name}
use Rattle.rules.specs.declared.types.Name.TheVariants.{WalkNumber as walk_number, StoreNumber as store_number}
use Rattle.rules.specs.Keys.{key}
use Rattle.rules.specs.KeyLaws.{KeyLongest}
use Rattle.rules.proofs.Basics.Distinct.{Distinct, distinct_concat_map, mem_concat_map, concat_map_append}
use Rattle.rules.proofs.Basics.Appended.{sum_append}
use Rattle.rules.proofs.Basics.Pigeons.{pigeons}
use Rattle.rules.proofs.Soundness.Sound.{Sound, facts}
use Rattle.rules.proofs.Soundness.Children.{regions_in_lem, regions_distinct}
use Rattle.rules.proofs.Form.OnceInLists.{defined}
use Rattle.rules.proofs.Form.Once.{owners_once, owners_here, blocks_once_lem, blocks_here}
use Rattle.rules.proofs.Form.Counted.{values_most, ops_once, ops_here}
use Rattle.rules.proofs.Keys.Fitting.{filter_most}

-- ---- sums

-- of what a function gives for each entry
unfoldable pub over : {A : Type 0} → (A → ℕ) → List A → ℕ
over f xs = sum (map f xs)

module _ {A : Type 0} where
  over_append : (f : A → ℕ) (xs ys : List A) → over f (xs ++ ys) ≡ over f xs + over f ys
  unfolding over
  over_append f xs ys = sum_append f xs ys

  over_same : (f g : A → ℕ) (xs : List A) → ((x : A) → Memᴰ x xs → f x ≡ g x) → over f xs ≡ over g xs
  unfolding over sum
  over_same f g [] e = refl
  over_same f g (x ∷ xs) e = omega (arith, e x (Memᴰ.head refl), over_same f g xs (λ y m. e y (Memᴰ.tail m)))

over_cons : {A : Type 0} (f : A → ℕ) (x : A) (xs : List A) → over f (x ∷ xs) ≡ f x + over f xs
unfolding over sum
over_cons f x xs = refl

over_concat : {A B : Type 0} (f : B → ℕ) (g : A → List B) (xs : List A) → over f (flat_map g xs) ≡ over (λ (x : A). over f (g x)) xs
unfolding over sum
over_concat f g [] = refl
over_concat f g (x ∷ xs) = omega (arith, over_append f (g x) (flat_map g xs), over_concat f g xs)

-- ---- distinct places of a list

taken : (ws : List ℕ) (n : ℕ) → get_or ws n 0 + sum (set ws n 0) ≡ sum ws
unfolding sum
taken [] n = refl
taken (w ∷ ws) zero = omega arith
taken (w ∷ ws) (suc n) = omega (arith, taken ws n)

zero_le_any : (n : ℕ) → 0 ≤ n
zero_le_any n = omega arith

distinct_sum : (ws ns : List ℕ) → Distinct ns → over (λ (n : ℕ). get_or ws n 0) ns ≤ sum ws
unfolding over sum
distinct_sum ws [] d = zero_le_any (sum ws)
distinct_sum ws (n ∷ ns) d =
    let others : over (λ (m : ℕ). get_or ws m 0) ns ≡ over (λ (m : ℕ). get_or (set ws n 0) m 0) ns =
    over_same _ _ ns (λ m k. sym (get_or-set_other ws n m 0 0 (λ e. d.0 (Memᴰ.cast (sym e) k)))) in
    omega (arith, others, distinct_sum (set ws n 0) ns d.1, taken ws n)

-- the same of what stands at the places
pub places_most : {A : Type 0} (f : A → ℕ) (xs : List A) (d : A) (ns : List ℕ) → Distinct ns → ((n : ℕ) → Memᴰ n ns → n < length xs)
    → over (λ (n : ℕ). f (get_or xs n d)) ns ≤ over f xs
unfolding over
places_most f xs d ns once here =
    let same : over (λ (n : ℕ). f (get_or xs n d)) ns ≡ over (λ (n : ℕ). get_or (map f xs) n 0) ns =
    over_same _ _ ns (λ n m. sym (get_or-map f xs n d) ∙ any_default (map f xs) n (f d) 0 (subst (λ (k : ℕ). n < k) (sym (length-map xs f)) (here n m))) in
    omega (arith, same, distinct_sum (map f xs) ns once)
  where
    any_default : (ws : List ℕ) (n a b : ℕ) → n < length ws → get_or ws n a ≡ get_or ws n b
    any_default [] n a b l = absurd (not-suc-le-zero l)
    any_default (w ∷ ws) zero a b l = refl
    any_default (w ∷ ws) (suc n) a b l = any_default ws n a b (omega arith)

-- ---- what a step writes

bytes_length : (k n : ℕ) → length (bytes k n) ≡ k
unfolding bytes
bytes_length zero n = refl
bytes_length (suc k) n = ap suc (bytes_length k (n / 256))

leaf_length : (n : ℕ) → length (leaf n) ≡ 4
unfolding leaf
leaf_length n = bytes_length 4 n

count_length : (n : ℕ) → length (count n) ≡ 8
unfolding count
count_length n = bytes_length 8 n

walk_name_length : (i : ℕ) → length (name_bytes (walk_number i)) ≡ 9
unfolding name_bytes tag
walk_name_length i = omega (arith, length-append (bytes 1 0) (count i), bytes_length 1 0, count_length i)

store_name_length : (n : ℕ) → length (name_bytes (store_number n)) ≡ 5
unfolding name_bytes tag
store_name_length n = omega (arith, length-append (bytes 1 1) (leaf n), bytes_length 1 1, leaf_length n)

name_most : (x : Name) → length (name_bytes x) ≤ 9
name_most (walk_number i) = omega (arith, walk_name_length i)
name_most (store_number n) = omega (arith, store_name_length n)

attribute_length : (a : Attribute) → length (attribute_bytes a) ≡ 13
unfolding attribute_bytes flag
attribute_length a =
    omega (
      arith,
      length-append (leaf a.key ++ leaf a.kind ++ leaf a.content) (flag a.inherent),
      length-append (leaf a.key ++ leaf a.kind) (leaf a.content),
      length-append (leaf a.key) (leaf a.kind),
      leaf_length a.key,
      leaf_length a.kind,
      leaf_length a.content,
    )

attributes_length : (xs : List Attribute) → length (flat_map attribute_bytes xs) ≡ 13 * length xs
attributes_length [] = refl
attributes_length (x ∷ xs) = omega (arith, length-append (attribute_bytes x) (flat_map attribute_bytes xs), attribute_length x, attributes_length xs)

leaves_length : (xs : List ℕ) → length (flat_map leaf xs) ≡ 4 * length xs
leaves_length [] = refl
leaves_length (x ∷ xs) = omega (arith, length-append (leaf x) (flat_map leaf xs), leaf_length x, leaves_length xs)

names_most : (g : ℕ → Name) (ns : List ℕ) → length (flat_map (λ (n : ℕ). name_bytes (g n)) ns) ≤ 9 * length ns
names_most g [] = le_refl 0
names_most g (n ∷ ns) = omega (arith, length-append (name_bytes (g n)) (flat_map (λ (m : ℕ). name_bytes (g m)) ns), name_most (g n), names_most g ns)

uses_length : (g : ℕ → Name) (ns : List ℕ)
    → length (list_bytes count (λ (n : ℕ). name_bytes (g n)) ns) ≡ 8 + length (flat_map (λ (n : ℕ). name_bytes (g n)) ns)
unfolding list_bytes
uses_length g ns = omega (arith, length-append (count (length ns)) (flat_map (λ (n : ℕ). name_bytes (g n)) ns), count_length (length ns))

uses_most : (g : ℕ → Name) (ns : List ℕ) → length (list_bytes count (λ (n : ℕ). name_bytes (g n)) ns) ≤ 8 + 9 * length ns
uses_most g ns = omega (arith, uses_length g ns, names_most g ns)

location_most : (o : Option ℕ) → length (location_bytes o) ≤ 4
unfolding location_bytes
location_most None = omega arith
location_most (Some l) = omega (arith, leaf_length l)

pub shell_length : (sh : Shell) → length (shell_bytes count sh) ≡ length (location_bytes sh.location) + 16 + 13 * length sh.attributes + 4 * length sh.types
unfolding shell_bytes list_bytes
shell_length sh =
    let L = location_bytes sh.location in
    let C = count (length sh.attributes) in
    let A = flat_map attribute_bytes sh.attributes in
    let T = flat_map leaf sh.types in
    omega (
      arith,
      length-append ((L ++ C) ++ A) (count (length sh.types) ++ T),
      length-append (L ++ C) A,
      length-append L C,
      length-append (count (length sh.types)) T,
      count_length (length sh.attributes),
      attributes_length sh.attributes,
      count_length (length sh.types),
      leaves_length sh.types,
    )

shell_most : (sh : Shell) → length (shell_bytes count sh) ≤ 20 + 13 * length sh.attributes + 4 * length sh.types
shell_most sh = omega (arith, shell_length sh, location_most sh.location)

-- what an operation, or a block, is charged for what it is and names
unfoldable op_charge : Op → ℕ
op_charge o = 48 + 13 * length o.attributes + 9 * length o.operands + 9 * length o.successors

unfoldable block_charge : Block → ℕ
block_charge b = 28 + 13 * length b.attributes

module _ (s : Store) where
  -- at most so many bytes come of a shell, and of a step
  unfoldable shell_weight : Owner → ℕ
  shell_weight (of_op n) = 32 + 13 * length (op_at s n).attributes + 4 * length (values_of s (of_op n))
  shell_weight (of_block b) = 20 + 13 * length (block_at s b).attributes + 4 * length (values_of s (of_block b))

  unfoldable weight : Step → ℕ
  weight (shell w) = shell_weight w
  weight (names n) = 16 + 9 * length (op_at s n).operands + 9 * length (op_at s n).successors
  weight (counted k) = 8

  -- and an operation is charged the counts of its regions' blocks, a block that of its operations
  unfoldable charge : Owner → ℕ
  charge (of_op n) = op_charge (op_at s n) + 4 * length (values_of s (of_op n)) + 8 * length (regions_of s n)
  charge (of_block b) = block_charge (block_at s b) + 4 * length (values_of s (of_block b))

  module _ (ig : Ignore) where
    owner_most : (w : Owner) → length (head_bytes s w ++ shell_bytes count (shell_of s ig w)) ≤ shell_weight w
    unfolding head_bytes shell_of unignored shell_weight
    owner_most (of_op n) =
        let head = leaf (op_at s n).kind ++ count (length (regions_of s n)) in
        omega (
          arith,
          length-append head (shell_bytes count (shell_of s ig (of_op n))),
          length-append (leaf (op_at s n).kind) (count (length (regions_of s n))),
          leaf_length (op_at s n).kind,
          count_length (length (regions_of s n)),
          shell_most (shell_of s ig (of_op n)),
          filter_most (λ (a : Attribute). not (ignored ig a)) (op_at s n).attributes,
          length-map (values_of s (of_op n)) (type_of s),
        )
    owner_most (of_block b) =
        omega (arith, shell_most (shell_of s ig (of_block b)), filter_most (λ (a : Attribute). not (ignored ig a)) (block_at s b).attributes, length-map (values_of s (of_block b)) (type_of s))

    step_most : (x : Step) (N : Numbering) → length (feeds count s ig x N) ≤ weight x
    unfolding feeds weight
    step_most (shell w) N = owner_most w
    step_most (names n) N =
        omega (
          arith,
          length-append (list_bytes count (λ (v : ℕ). name_bytes (name_of N.values v)) (op_at s n).operands) (list_bytes count (λ (b : ℕ). name_bytes (name_of N.blocks b)) (op_at s n).successors),
          uses_most (name_of N.values) (op_at s n).operands,
          uses_most (name_of N.blocks) (op_at s n).successors,
        )
    step_most (counted k) N = omega (arith, count_length k)

    steps_most : (xs : List Step) (N : Numbering) → length (all_bytes count s ig xs N) ≤ over weight xs
    unfolding all_bytes over sum
    steps_most [] N = le_refl 0
    steps_most (x ∷ xs) N = omega (arith, length-append (feeds count s ig x N) (all_bytes count s ig xs (numbered s x N)), step_most x N, steps_most xs (numbered s x N))

  -- ---- what the steps of a walk write, against what the owners that they define are charged

  abbrev written : List Step → ℕ
  written xs = over weight xs

  abbrev charged : List Step → ℕ
  charged xs = over charge (defined xs)

  charged_append : (xs ys : List Step) → charged (xs ++ ys) ≡ charged xs + charged ys
  unfolding defined
  charged_append xs ys = ap (over charge) (concat_map_append step_defines xs ys) ∙ over_append charge (flat_map step_defines xs) (flat_map step_defines ys)

  charged_concat : (f : ℕ → List Step) (ns : List ℕ) → charged (flat_map f ns) ≡ over (λ (n : ℕ). charged (f n)) ns
  unfolding over sum defined
  charged_concat f [] = refl
  charged_concat f (n ∷ ns) = charged_append (f n) (flat_map f ns) ∙ ap (λ (k : ℕ). charged (f n) + k) (charged_concat f ns)

  written_shells : (w : ℕ → Owner) (ns : List ℕ) → written (shells w ns) ≡ 8 + over (λ (n : ℕ). shell_weight (w n)) ns
  unfolding shells over sum weight
  written_shells w ns = ap (λ (k : ℕ). 8 + k) (go ns)
    where
      go : (ms : List ℕ) → sum (map weight (map (λ (n : ℕ). shell (w n)) ms)) ≡ sum (map (λ (n : ℕ). shell_weight (w n)) ms)
      go [] = refl
      go (m ∷ ms) = ap (λ (k : ℕ). shell_weight (w m) + k) (go ms)

  charged_shells : (w : ℕ → Owner) (ns : List ℕ) → charged (shells w ns) ≡ over (λ (n : ℕ). charge (w n)) ns
  unfolding shells over sum defined step_defines
  charged_shells w ns = go ns
    where
      go : (ms : List ℕ) → sum (map charge (flat_map step_defines (map (λ (n : ℕ). shell (w n)) ms))) ≡ sum (map (λ (n : ℕ). charge (w n)) ms)
      go [] = refl
      go (m ∷ ms) = ap (λ (k : ℕ). charge (w m) + k) (go ms)

  regions_most : (in_region : ℕ → List Step) → ((r : ℕ) → written (in_region r) ≤ 8 + charged (in_region r)) → (rs : List ℕ)
      → over (λ (r : ℕ). written (in_region r)) rs ≤ 8 * length rs + over (λ (r : ℕ). charged (in_region r)) rs
  unfolding over sum
  regions_most in_region h [] = zero_le_any 0
  regions_most in_region h (r ∷ rs) = omega (arith, h r, regions_most in_region h rs)

  -- a full operation and its shell
  full_most : (in_region : ℕ → List Step) → ((r : ℕ) → written (in_region r) ≤ 8 + charged (in_region r)) → (n : ℕ)
      → shell_weight (of_op n) + written (full_op s in_region n) ≤ charge (of_op n) + charged (full_op s in_region n)
  unfolding full_op over sum weight shell_weight charge op_charge defined step_defines
  full_most in_region h n =
      let w : sum (map weight (flat_map in_region (regions_of s n))) ≡ over (λ (r : ℕ). written (in_region r)) (regions_of s n) = over_concat weight in_region (regions_of s n) in
      let c : sum (map charge (flat_map step_defines (flat_map in_region (regions_of s n)))) ≡ over (λ (r : ℕ). charged (in_region r)) (regions_of s n) = charged_concat in_region (regions_of s n) in
      omega (arith, w, c, regions_most in_region h (regions_of s n))

  block_weight : (b : ℕ) → shell_weight (of_block b) + 8 ≡ charge (of_block b)
  unfolding shell_weight charge block_charge
  block_weight b = omega arith

  none_most : over (λ (b : ℕ). shell_weight (of_block b)) [] + written [] + written [] ≤ over (λ (b : ℕ). charge (of_block b)) [] + charged [] + charged []
  unfolding over sum defined
  none_most = le_refl 0

  -- the operations of a block: their count, their shells, and they in full
  ops_most : (full : ℕ → List Step) → ((n : ℕ) → shell_weight (of_op n) + written (full n) ≤ charge (of_op n) + charged (full n)) → (ns : List ℕ)
      → over (λ (n : ℕ). shell_weight (of_op n)) ns + over (λ (n : ℕ). written (full n)) ns ≤ over (λ (n : ℕ). charge (of_op n)) ns + over (λ (n : ℕ). charged (full n)) ns
  unfolding over sum
  ops_most full h [] = zero_le_any 0
  ops_most full h (n ∷ ns) = omega (arith, h n, ops_most full h ns)

  -- and those of each block of a list, with the blocks' own shells
  inside_most : (full : ℕ → List Step) → ((n : ℕ) → shell_weight (of_op n) + written (full n) ≤ charge (of_op n) + charged (full n)) → (bs : List ℕ)
      → over (λ (b : ℕ). shell_weight (of_block b)) bs + written (flat_map (λ (b : ℕ). shells of_op (ops_of s b)) bs) + written (flat_map (λ (b : ℕ). flat_map full (ops_of s b)) bs)
      ≤ over (λ (b : ℕ). charge (of_block b)) bs + charged (flat_map (λ (b : ℕ). shells of_op (ops_of s b)) bs) + charged (flat_map (λ (b : ℕ). flat_map full (ops_of s b)) bs)
  inside_most full h [] = none_most
  inside_most full h (b ∷ bs) =
      let ns : List ℕ = ops_of s b in
      let ops : List Step = flat_map (λ (c : ℕ). shells of_op (ops_of s c)) bs in
      let fulls : List Step = flat_map (λ (c : ℕ). flat_map full (ops_of s c)) bs in
      omega (
        arith,
        block_weight b,
        over_cons (λ (c : ℕ). shell_weight (of_block c)) b bs,
        over_cons (λ (c : ℕ). charge (of_block c)) b bs,
        over_append weight (shells of_op ns) ops,
        over_append weight (flat_map full ns) fulls,
        charged_append (shells of_op ns) ops,
        charged_append (flat_map full ns) fulls,
        written_shells of_op ns,
        charged_shells of_op ns,
        over_concat weight full ns,
        charged_concat full ns,
        ops_most full h ns,
        inside_most full h bs,
      )

  -- ---- a list of blocks, a region, a fragment

  list_most : (full : ℕ → List Step) → ((n : ℕ) → shell_weight (of_op n) + written (full n) ≤ charge (of_op n) + charged (full n)) → (bs : List ℕ)
      → written (list_steps s full bs) ≤ 8 + charged (list_steps s full bs)
  unfolding list_steps
  list_most full h bs =
      let blocks : List Step = shells of_block bs in
      let ops : List Step = flat_map (λ (b : ℕ). shells of_op (ops_of s b)) bs in
      let fulls : List Step = flat_map (λ (b : ℕ). flat_map full (ops_of s b)) bs in
      omega (
        arith,
        over_append weight (blocks ++ ops) fulls,
        over_append weight blocks ops,
        charged_append (blocks ++ ops) fulls,
        charged_append blocks ops,
        written_shells of_block bs,
        charged_shells of_block bs,
        inside_most full h bs,
      )

  region_most : (k r : ℕ) → written (region_steps k s r) ≤ 8 + charged (region_steps k s r)
  unfolding region_steps over sum
  region_most zero r = zero_le_any _
  region_most (suc k) r = list_most (full_op s (region_steps k s)) (full_most (region_steps k s) (region_most k)) (blocks_of s r)

  op_most : (n : ℕ) (xs : List Step) → shell_weight (of_op n) + written xs ≤ charge (of_op n) + charged xs → written (shell (of_op n) ∷ xs) ≤ 8 + charged (shell (of_op n) ∷ xs)
  unfolding over sum weight defined step_defines
  op_most n xs l = omega arith

  fragment_most : (f : Sort) (n : ℕ) → written (steps s f n) ≤ 8 + charged (steps s f n)
  unfolding steps
  fragment_most op n = op_most n (full_op s (region_steps levels s) n) (full_most (region_steps levels s) (region_most levels) n)
  fragment_most block n = list_most (full_op s (region_steps levels s)) (full_most (region_steps levels s) (region_most levels)) (n ∷ [])
  fragment_most region n = region_most levels n

-- ---- all charges together

-- by what they are for
ops_charge : (os : List Op)
    → over op_charge os ≡ 48 * length os + 13 * over (λ (o : Op). length o.attributes) os + 9 * over (λ (o : Op). length o.operands) os + 9 * over (λ (o : Op). length o.successors) os
unfolding over sum op_charge
ops_charge [] = refl
ops_charge (o ∷ os) = omega (arith, ops_charge os)

blocks_charge : (bs : List Block) → over block_charge bs ≡ 28 * length bs + 13 * over (λ (b : Block). length b.attributes) bs
unfolding over sum block_charge
blocks_charge [] = refl
blocks_charge (b ∷ bs) = omega (arith, blocks_charge bs)

module _ (s : Store) where
  ops_among : List Owner → List ℕ
  ops_among ws = flat_map op_owner ws

  owners_charge : (ws : List Owner)
      → over (charge s) ws ≡ over (λ (n : ℕ). op_charge (op_at s n)) (ops_among ws) + over (λ (b : ℕ). block_charge (block_at s b)) (flat_map block_owner ws)
      + 4 * length (flat_map (values_of s) ws) + 8 * length (flat_map (regions_of s) (ops_among ws))
  unfolding over sum charge op_owner block_owner ops_among
  owners_charge [] = refl
  owners_charge (of_op n ∷ ws) = omega (arith, owners_charge ws, length-append (values_of s (of_op n)) (flat_map (values_of s) ws), length-append (regions_of s n) (flat_map (regions_of s) (flat_map op_owner ws)))
  owners_charge (of_block b ∷ ws) = omega (arith, owners_charge ws, length-append (values_of s (of_block b)) (flat_map (values_of s) ws))

  module _ (sd : sound s ≡ true) (f : Sort) (n : ℕ) (h : exists s f n ≡ true) where
    abbrev so : Sound s
    so = facts s sd

    abbrev ws : List Owner
    ws = defines_owners s f n

    ns_once : Distinct (ops_among ws)
    unfolding ops_among
    ns_once = ops_once ws (owners_once s so f n h)

    regions_few : length (flat_map (regions_of s) (ops_among ws)) ≤ 256
    regions_few =
        le_trans
        (pigeons (length s.regions) (flat_map (regions_of s) (ops_among ws))
        (distinct_concat_map (regions_of s) (ops_among ws) ns_once (λ m k. regions_distinct s m) (λ m k mm mk r a b. sym (regions_in_lem s m a).1 ∙ (regions_in_lem s k b).1))
        (λ r m. let w = mem_concat_map (regions_of s) (ops_among ws) m in (regions_in_lem s w.0 w.2).0))
        so.totals.regions

    ops_charged : over (λ (m : ℕ). op_charge (op_at s m)) (ops_among ws) ≤ over op_charge s.ops
    unfolding op_at ops_among
    ops_charged = places_most op_charge s.ops no_op (ops_among ws) ns_once (ops_here s sd ws (owners_here s so f n h))

    blocks_charged : over (λ (m : ℕ). block_charge (block_at s m)) (flat_map block_owner ws) ≤ over block_charge s.blocks
    unfolding block_at defines_blocks
    blocks_charged = places_most block_charge s.blocks no_block (flat_map block_owner ws) (blocks_once_lem s so f n h) (blocks_here s so f n h)

    all_charged : over (charge s) ws ≤ 78336
    unfolding operand_total successor_total attribute_total over defines_values
    all_charged =
        omega (
          arith,
          owners_charge ws,
          ops_charged,
          blocks_charged,
          ops_charge s.ops,
          blocks_charge s.blocks,
          regions_few,
          values_most s sd f n h,
          so.totals.ops,
          so.totals.blocks,
          so.totals.operands,
          so.totals.successors,
          so.totals.attributes,
        )

pub key_longest : KeyLongest
unfolding KeyLongest key defines_owners defined
key_longest s sd ig f n h =
    let a : length (all_bytes count s ig (steps s f n) no_numbers) ≤ over (weight s) (steps s f n) = steps_most s ig (steps s f n) no_numbers in
    let b : over (weight s) (steps s f n) ≤ 8 + over (charge s) (defines_owners s f n) = fragment_most s f n in
    omega (arith, a, b, all_charged s sd f n h)
