-- The walks that call one another: an operation in full is its names and then its regions one after the other, a region is its list of
-- blocks, and a list of blocks is its three passes. Each pass goes through its list child by child, whatever its steps do. Assumes nothing.
use Rattle.std.proofs.Common.{◌≡◌, ℕ, ◌<◌, ◌≤◌, true, ltb, List, [], ◌∷◌, ◌++◌, map, length, get_or, sym, refl, ap, ◌∙◌, subst, arith, ltb-true, lt-ltb}
use Rattle.std.specs.List.{list_all, flat_map}
use Rattle.rules.specs.Store.{Store, op_at, regions_of, value_exists, block_exists, max_blocks, max_own_regions, sound}
use Rattle.rules.specs.declared.types.Owner.{Owner}
use Rattle.rules.specs.declared.types.Owner.TheVariants.{Op as of_op}
use Rattle.rules.specs.Fragments.{Step, shell, names, full_op, list_steps, region_steps, levels, steps}
use Rattle.rules.specs.declared.types.Sort.{Sort}
use Rattle.rules.specs.declared.types.Sort.TheVariants.{Op as op, Block as block, Region as region}
use Rattle.rules.proofs.Basics.Tests.{all_at, all_of}
use Rattle.rules.proofs.Basics.Appended.{mem_get_d}
use Rattle.rules.proofs.Soundness.Sound.{facts}
use Rattle.rules.proofs.Walking.EnoughSteps as enough
use Rattle.layout.specs.Columns.{Cols}
use Rattle.layout.specs.Reading.{op_count, store_of}
use Rattle.layout.proofs.Tabulate.{ops_length}
use Rattle.fragments.specs.Order.{block_list}
use Rattle.fragments.specs.declared.types.Blocks.TheVariants.{InRegion, Single}
use Rattle.fragments.specs.Parts.{block_shells, op_shells, full_steps, ops_in_full, listed_steps}
use Rattle.fragments.proofs.Passing.{StepRelation, StepsOf}

-- ---- what an operation names has a word

more : (n m : ℕ) → n ≤ m → (xs : List ℕ) → list_all (λ (x : ℕ). ltb x n) xs ≡ true → list_all (λ (x : ℕ). ltb x m) xs ≡ true
more n m le xs h = all_of (λ (x : ℕ). ltb x m) xs (λ x i. let l : x < n = ltb-true x n (all_at (λ (y : ℕ). ltb y n) xs h i) in lt-ltb x m (omega arith))

module _ (s : Store) (sd : sound s ≡ true) (n : ℕ) (l : n < length s.ops) where
  pub operands_there : list_all (λ (v : ℕ). ltb v (length s.values)) (op_at s n).operands ≡ true
  unfolding value_exists
  operands_there = ((facts s sd).op n l).operands_in

  pub successors_few : list_all (λ (b : ℕ). ltb b max_blocks) (op_at s n).successors ≡ true
  unfolding block_exists
  successors_few = more (length s.blocks) max_blocks (facts s sd).totals.blocks (op_at s n).successors ((facts s sd).op n l).successors_in

-- an entry of a list of numbers below m
pub below_at : (m : ℕ) (xs : List ℕ) → list_all (λ (v : ℕ). ltb v m) xs ≡ true → (i : ℕ) → i < length xs → get_or xs i 0 < m
below_at m xs h i l = ltb-true (get_or xs i 0) m (all_at (λ (v : ℕ). ltb v m) xs h (mem_get_d xs i 0 l))

pub regions_few : (C : Cols) → sound (store_of C) ≡ true → (n : ℕ) → n < op_count C → length (regions_of (store_of C) n) ≤ max_own_regions
regions_few C sd n l = ((facts (store_of C) sd).op n (subst (λ (k : ℕ). n < k) (sym (ops_length C)) l)).regions_fit

-- ---- an operation in full

module _ (s : Store) where
  -- the steps of a region, where a walk begins
  abbrev pub in_region : ℕ → List Step
  in_region = region_steps levels s

  full_parts : (n : ℕ) → full_steps s n ≡ (names n ∷ []) ++ flat_map in_region (regions_of s n)
  unfolding full_steps full_op
  full_parts n = refl

  pub region_list : sound s ≡ true → (r : ℕ) → in_region r ≡ listed_steps s (block_list s (InRegion r))
  unfolding listed_steps full_steps block_list
  region_list sd r = enough.region_steps_lem s sd r

module _ {A : Type 0} (W : StepRelation A) (s : Store) (n : ℕ) {a b : A} (does : W.Does (names n ∷ []) a b) (rs : List ℕ) (e : regions_of s n ≡ rs) where
  pub regions_room : W.Room (full_steps s n) a → W.Room (flat_map (in_region s) rs) b
  regions_room r =
      let parted : W.Room ((names n ∷ []) ++ flat_map (in_region s) (regions_of s n)) a = subst (λ (xs : List Step). W.Room xs a) (full_parts s n) r in
      subst (λ (xs : List ℕ). W.Room (flat_map (in_region s) xs) b) e (W.rest (names n ∷ []) (flat_map (in_region s) (regions_of s n)) parted does)

  pub full_done : {c : A} → W.Does (flat_map (in_region s) rs) b c → W.Does (full_steps s n) a c
  full_done {c} g =
      subst (λ (xs : List Step). W.Does xs a c) (ap (λ (xs : List ℕ). (names n ∷ []) ++ flat_map (in_region s) xs) (sym e) ∙ sym (full_parts s n))
      (W.both (names n ∷ []) (flat_map (in_region s) rs) does g)

-- ---- the passes

-- one for each child
pub each : (f : ℕ → List Step) → StepsOf (flat_map f) f
each f = record { none = refl; some = λ n xs. refl }

-- a shell for each child of a list, behind the step at which the list begins
abbrev pub each_shell : (ℕ → Owner) → List ℕ → List Step
each_shell w ns = map (λ (n : ℕ). shell (w n)) ns

pub each_shell_lem : (w : ℕ → Owner) → StepsOf (each_shell w) (λ (n : ℕ). shell (w n) ∷ [])
each_shell_lem w = record { none = refl; some = λ n xs. refl }

module _ (s : Store) (bs : List ℕ) where
  abbrev pub first_pass : List Step
  first_pass = block_shells bs

  abbrev pub second_pass : List Step
  second_pass = flat_map (op_shells s) bs

  abbrev pub third_pass : List Step
  third_pass = flat_map (ops_in_full s) bs

  passes : listed_steps s bs ≡ first_pass ++ second_pass ++ third_pass
  unfolding listed_steps list_steps block_shells op_shells ops_in_full
  passes = refl

module _ {A : Type 0} (W : StepRelation A) (s : Store) (bs : List ℕ) {a : A} where
  parted_room : W.Room (listed_steps s bs) a → W.Room (first_pass s bs ++ second_pass s bs ++ third_pass s bs) a
  parted_room r = subst (λ (xs : List Step). W.Room xs a) (passes s bs) r

  pub first_room : W.Room (listed_steps s bs) a → W.Room (first_pass s bs) a
  first_room r = W.first (first_pass s bs) (second_pass s bs) (W.first (first_pass s bs ++ second_pass s bs) (third_pass s bs) (parted_room r))

  module _ {b : A} (f : W.Does (first_pass s bs) a b) where
    pub second_room : W.Room (listed_steps s bs) a → W.Room (second_pass s bs) b
    second_room r = W.rest (first_pass s bs) (second_pass s bs) (W.first (first_pass s bs ++ second_pass s bs) (third_pass s bs) (parted_room r)) f

    module _ {c : A} (g : W.Does (second_pass s bs) b c) where
      pub third_room : W.Room (listed_steps s bs) a → W.Room (third_pass s bs) c
      third_room r = W.rest (first_pass s bs ++ second_pass s bs) (third_pass s bs) (parted_room r) (W.both (first_pass s bs) (second_pass s bs) f g)

      pub passes_done : {d : A} → W.Does (third_pass s bs) c d → W.Does (listed_steps s bs) a d
      passes_done {d} h =
          subst (λ (xs : List Step). W.Does xs a d) (sym (passes s bs)) (W.both (first_pass s bs ++ second_pass s bs) (third_pass s bs) (W.both (first_pass s bs) (second_pass s bs) f g) h)

-- ---- the steps of a fragment, and the walk over them

pub op_steps : (s : Store) (n : ℕ) → steps s op n ≡ (shell (of_op n) ∷ []) ++ full_steps s n
unfolding steps full_steps
op_steps s n = refl

pub block_steps : (s : Store) (n : ℕ) → steps s block n ≡ listed_steps s (block_list s (Single n))
unfolding steps listed_steps full_steps block_list
block_steps s n = refl

pub region_steps_lem : (s : Store) → sound s ≡ true → (n : ℕ) → steps s region n ≡ listed_steps s (block_list s (InRegion n))
unfolding steps
region_steps_lem s sd n = region_list s sd n

module _ {A : Type 0} (W : StepRelation A) (s : Store) (f : Sort) (n : ℕ) (xs : List Step) (e : steps s f n ≡ xs) {a : A} where
  pub steps_room : W.Room (steps s f n) a → W.Room xs a
  steps_room r = subst (λ (l : List Step). W.Room l a) e r

  pub steps_done : {b : A} → W.Does xs a b → W.Does (steps s f n) a b
  steps_done {b} d = subst (λ (l : List Step). W.Does l a b) (sym e) d
