-- What the recursion adds up is the size of what came so far, and in the end that of the fragment. Assumes nothing.
use Prim.Native.Nat.{ℕ, suc, ◌+◌, ◌-◌, ◌^◌, ◌≤◌, min, max}
use native.Mathlib.Omega.{arith}
use mathlib.Core.Bool.{true, false}
use mathlib.Core.List.Memᴰ
use mathlib.Core.List.{List, [], ◌∷◌, ◌++◌, Memᴰ}
use Rattle.std.specs.Prelude.{Some}
use mathlib.Core.Path.{◌≡◌, refl, sym, ap, subst, ◌∙◌}
use lib.ListN.{length, get_or}
use Rattle.rules.specs.Lists.{sum}
use Rattle.rules.specs.Store.{Store, parent_of, op_around, ops_of, blocks_of, regions_of, max_nesting, sound}
use Rattle.rules.specs.Fragments.{exists, fragment_ops, ops_in_blocks, outermost}
use Rattle.rules.specs.declared.types.Sort.{Sort}
use Rattle.rules.specs.declared.types.Sort.TheVariants.{Op as op, Block as block, Region as region}
use Rattle.rules.specs.Extents.{extent, deepest, op_nesting, deepest_nesting}
use Rattle.rules.specs.ExtentLaws.{ExtentMost}
use Rattle.rules.proofs.Basics.Appended.{sum_append}
use Rattle.rules.proofs.Basics.Distinct.{mem_concat_map}
use Rattle.rules.proofs.Copying.Renumbered.{map_same}
use Rattle.rules.proofs.Soundness.Children.{ops_in_lem, blocks_in_lem, regions_in_lem}
use Rattle.rules.proofs.Walking.Levels.{Leaves, op_leaves, leaves_most, leaves_inside}
use Rattle.rules.proofs.Extents.Deepest.{deepest_append}
use Rattle.rules.proofs.Extents.Inside.{height, height_enough}
use Rattle.rules.proofs.Extents.Laws.{extent_most}
use Rattle.fragments.specs.Sizes.{op_size, ops_size, ops_nesting, SizeIs, LevelsLeft}
use Rattle.fragments.specs.declared.types.Size.{Size}
use Rattle.fragments.proofs.LevelsEnough.{deepest_same, deepest_sucs, size_enough, nesting_enough}
use Rattle.fragments.proofs.NestedCounted.{fragment_counted}

-- two parts together
pub sizes_together : {a b n m : ℕ} {x y q : Size} → SizeIs a n x → SizeIs b m y → q.operations ≡ min (x.operations + y.operations) (2 ^ 32 - 1)
    → q.nesting ≡ max x.nesting y.nesting → SizeIs (a + b) (max n m) q
sizes_together f g many deep = record { operations = λ l. omega (arith, f.operations, g.operations, many, l); nesting = omega (arith, f.nesting, g.nesting, deep) }

-- the same numbers
pub size_as : {a b n m : ℕ} {q : Size} → a ≡ b → n ≡ m → SizeIs a n q → SizeIs b m q
size_as {q} e f h = record { operations = λ l. omega (arith, h.operations, e, l); nesting = h.nesting ∙ f }

module _ (k : ℕ) (s : Store) where
  -- the size of operations, as part of the one around
  abbrev pub OpsSize : List ℕ → Size → Type 0
  OpsSize ns q = SizeIs (ops_size k s ns) (ops_nesting k s ns) q

  pub none_sized : OpsSize [] (record { operations = 0; nesting = 0 })
  unfolding ops_size ops_nesting sum deepest
  none_sized = record { operations = λ l. refl; nesting = refl }

  pub size_append : (xs ys : List ℕ) → ops_size k s (xs ++ ys) ≡ ops_size k s xs + ops_size k s ys
  unfolding ops_size
  size_append xs ys = sum_append (op_size k s) xs ys

  pub nesting_append : (xs ys : List ℕ) → ops_nesting k s (xs ++ ys) ≡ max (ops_nesting k s xs) (ops_nesting k s ys)
  unfolding ops_nesting
  nesting_append xs ys = deepest_append (λ (m : ℕ). suc (op_nesting k s m)) xs ys

  pub more_sized : (xs ys : List ℕ) {x y q : Size} → OpsSize xs x → OpsSize ys y → q.operations ≡ min (x.operations + y.operations) (2 ^ 32 - 1)
      → q.nesting ≡ max x.nesting y.nesting → OpsSize (xs ++ ys) q
  more_sized xs ys f g many deep = size_as (sym (size_append xs ys)) (sym (nesting_append xs ys)) (sizes_together f g many deep)

  pub one_sized : (n : ℕ) {x y : Size} → SizeIs (op_size k s n) (op_nesting k s n) x → y.operations ≡ x.operations → y.nesting ≡ x.nesting + 1 → OpsSize (n ∷ []) y
  unfolding ops_size ops_nesting sum deepest
  one_sized n f many deep =
      record { operations = λ l. omega (arith, f.operations, many, l); nesting = omega (arith, f.nesting, deep) }

-- ---- remaining nesting

module _ (s : Store) where
  pub left_around : (r b : ℕ) {left : ℕ} → Memᴰ b (blocks_of s r) → LevelsLeft s (get_or s.regions r 0) left → LevelsLeft s (op_around s b) left
  unfolding op_around
  left_around r b {left} m h = subst (λ (n : ℕ). LevelsLeft s (get_or s.regions n 0) left) (sym (blocks_in_lem s r m).1) h

  pub left_of_region : (n r : ℕ) {left : ℕ} → Memᴰ r (regions_of s n) → LevelsLeft s n left → LevelsLeft s (get_or s.regions r 0) left
  left_of_region n r {left} m h = subst (λ (k : ℕ). LevelsLeft s k left) (sym (regions_in_lem s n m).1) h

module _ (s : Store) (sd : sound s ≡ true) where
  -- an operation in a block leaves one less than the one around the block
  pub left_inside : (b n left : ℕ) → Memᴰ n (ops_of s b) → LevelsLeft s (op_around s b) left → (i : ℕ) × LevelsLeft s n i × (left ≡ suc i)
  left_inside b n left m h =
      let i = op_leaves s sd n in
      let inside : Leaves s max_nesting (Some b) i.0 = rw (ops_in_lem s b m).1 at i.1 in
      (i.0, i.1, leaves_inside s 31 b i.0 left h inside)

  pub left_less : (b n left : ℕ) → Memᴰ n (ops_of s b) → LevelsLeft s (op_around s b) left → LevelsLeft s n (left - 1)
  left_less b n left m h =
      let w = left_inside b n left m h in
      let e : left ≡ suc w.0 = w.2 in
      subst (LevelsLeft s n) (omega arith) w.1

  -- ---- a fragment

  module _ (f : Sort) (n k : ℕ) (enough : (m j : ℕ) → Memᴰ m (outermost s f n) → LevelsLeft s m j → j ≤ k) where
    all_counted : ops_size k s (outermost s f n) ≡ length (fragment_ops s f n)
    unfolding ops_size
    all_counted =
        ap sum
        (map_same (op_size k s) (op_size (height f) s) (outermost s f n)
        (λ m m∈. let j = op_leaves s sd m in
        let l : j.0 ≤ 32 = leaves_most s max_nesting (parent_of s m) j.0 j.1 in
        size_enough s sd k (height f) j.0 m j.1 (enough m j.0 m∈ j.1) (omega (arith, l, height_enough f))))
        ∙ sym (fragment_counted s f n)

    all_nested : ops_nesting k s (outermost s f n) - 1 ≡ deepest_nesting s f n
    unfolding ops_nesting deepest_nesting
    all_nested =
        deepest_sucs (op_nesting k s) (outermost s f n)
        ∙ deepest_same (op_nesting k s) (op_nesting max_nesting s) (outermost s f n)
        (λ m m∈. let j = op_leaves s sd m in
        let l : j.0 ≤ 32 = leaves_most s max_nesting (parent_of s m) j.0 j.1 in
        nesting_enough s sd k max_nesting j.0 m j.1 (enough m j.0 m∈ j.1) l)

    module _ (here : exists s f n ≡ true) where
      few : length (fragment_ops s f n) ≤ 512
      unfolding ExtentMost extent
      few = (extent_most s sd (record { locations = false; bits = 0 }) f n here).3

      pub sized_ops : {deep : ℕ} {q : Size} → SizeIs (ops_size k s (outermost s f n)) deep q → q.operations ≡ length (fragment_ops s f n)
      sized_ops h = omega (arith, h.operations, all_counted, few)

      pub sized_nesting : {many : ℕ} {q : Size} → SizeIs many (ops_nesting k s (outermost s f n)) q → q.nesting - 1 ≡ deepest_nesting s f n
      sized_nesting h = ap (λ (d : ℕ). d - 1) h.nesting ∙ all_nested

  -- ---- sort by sort

  levels_same : (m i j : ℕ) → LevelsLeft s m i → LevelsLeft s m j → j ≡ i
  levels_same m i j h k = cc

  module _ (n left : ℕ) where
    enough_op : LevelsLeft s n left → (m j : ℕ) → Memᴰ m (outermost s op n) → LevelsLeft s m j → j ≤ left
    unfolding outermost
    enough_op h m j m∈ l = omega (arith, levels_same n left j h (subst (λ (x : ℕ). LevelsLeft s x j) (Memᴰ.eq_of_singleton m∈) l))

    pub op_whole : LevelsLeft s n left → exists s op n ≡ true → {q : Size} → SizeIs (op_size left s n) (op_nesting left s n) q
        → (q.operations ≡ length (fragment_ops s op n)) × (q.nesting ≡ deepest_nesting s op n)
    unfolding outermost
    op_whole h e {q} f =
        let one : Size = record { operations = q.operations; nesting = q.nesting + 1 } in
        let g : OpsSize left s (n ∷ []) one = one_sized left s n f refl refl in
        let nesting : q.nesting + 1 - 1 ≡ deepest_nesting s op n = sized_nesting op n left (enough_op h) e g in
        (sized_ops op n left (enough_op h) e g, omega arith)

    enough_block : LevelsLeft s (op_around s n) left → (m j : ℕ) → Memᴰ m (outermost s block n) → LevelsLeft s m j → j ≤ left - 1
    unfolding outermost
    enough_block h m j m∈ l = omega (arith, levels_same m (left - 1) j (left_less n m left m∈ h) l)

    pub block_whole : LevelsLeft s (op_around s n) left → exists s block n ≡ true → {q : Size} → OpsSize (left - 1) s (ops_of s n) q
        → (q.operations ≡ length (fragment_ops s block n)) × (q.nesting - 1 ≡ deepest_nesting s block n)
    unfolding outermost
    block_whole h e f = (sized_ops block n (left - 1) (enough_block h) e f, sized_nesting block n (left - 1) (enough_block h) e f)

    enough_region : LevelsLeft s (get_or s.regions n 0) left → (m j : ℕ) → Memᴰ m (outermost s region n) → LevelsLeft s m j → j ≤ left - 1
    unfolding outermost ops_in_blocks
    enough_region h m j m∈ l =
        let b = mem_concat_map (ops_of s) (blocks_of s n) m∈ in
        omega (arith, levels_same m (left - 1) j (left_less b.0 m left b.2 (left_around s n b.0 b.1 h)) l)

    pub region_whole : LevelsLeft s (get_or s.regions n 0) left → exists s region n ≡ true → {q : Size}
        → OpsSize (left - 1) s (ops_in_blocks s (blocks_of s n)) q
        → (q.operations ≡ length (fragment_ops s region n)) × (q.nesting - 1 ≡ deepest_nesting s region n)
    unfolding outermost
    region_whole h e f = (sized_ops region n (left - 1) (enough_region h) e f, sized_nesting region n (left - 1) (enough_region h) e f)
