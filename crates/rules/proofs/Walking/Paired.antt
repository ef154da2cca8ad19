-- A walk only adds to `paired`, and at most one for each shell on the left: a step that enters a pair adds one and another nothing,
-- and that passes through every way in which a walk is put together. Assumes nothing.
use Prim.Native.Nat.{ℕ, zero, suc, ◌+◌, ◌≤◌}
use native.Mathlib.Nat.{le_refl, le_trans}
use native.Mathlib.Omega.{arith}
use mathlib.Core.Bool.{true}
use mathlib.Core.List.{List, [], ◌∷◌, ◌++◌, map, append-nil}
use mathlib.Core.Path.{◌≡◌, refl, ap, ◌∙◌}
use lib.ListN.{length, take, drop, length-append}
use Rattle.std.specs.List.{flat_map}
use Rattle.rules.specs.Store.{Store, ops_of, blocks_of, sound}
use Rattle.rules.specs.declared.types.Owner.TheVariants.{Op as of_op, Block as of_block}
use Rattle.rules.specs.Fragments.{exists, levels, Step, shell, full_op, shells, list_steps, region_steps, steps, step_defines, defines_owners}
use Rattle.rules.specs.declared.types.Sort.{Sort}
use Rattle.rules.specs.declared.types.Sort.TheVariants.{Op as op, Block as block, Region as region}
use Rattle.rules.specs.declared.types.Ignore.{Ignore}
use Rattle.rules.specs.Comparison.{State, Pair, Walk, on, ended, standing, ◌>>=◌, pairwise, each_pair, pair_of, enter_ops, enter_blocks, pair_ops, pair_blocks, check_ops, pass2, pass3, compare_regions, compare_by}
use Rattle.rules.proofs.Basics.Distinct.{concat_map_append}
use Rattle.rules.proofs.Form.OnceInLists.{defined}
use Rattle.rules.proofs.Form.Counted.{owners_most}
use Rattle.rules.proofs.Walking.Walks.{Passes, Always, no_steps, always_then, always_expect, always_pairwise, always_each, always_ops, always_pass2, always_pass3, always_lists}

-- ---- a walk only adds

abbrev pub Grows : (State → Walk) → Type 0
Grows f = (st : State) → st.paired ≤ (standing (f st)).paired

pub grows_bind : (w : Walk) (f : State → Walk) → Grows f → (standing w).paired ≤ (standing (w >>= f)).paired
unfolding standing
grows_bind (on st) f h = h st
grows_bind (ended why st) f h = le_refl st.paired

abbrev Adding : List Step → State → Walk → Type 0
Adding xs st w = st.paired ≤ (standing w).paired

adding : Passes Adding
unfolding standing
adding =
    record {
      stays = λ xs st. le_refl st.paired;
      stops = λ xs st why. le_refl st.paired;
      behind = λ xs ys st w f a b. le_trans a (grows_bind w f b);
    }

pub grows_pairwise : (f : ℕ → ℕ → State → Walk) → ((l r : ℕ) → Grows (f l r)) → (p : Pair) (ls rs : List ℕ) → Grows (pairwise f p ls rs)
grows_pairwise f h = always_pairwise Adding adding f of_op h

pub grows_each : (f : ℕ → ℕ → State → Walk) → ((l r : ℕ) → Grows (f l r)) → (ls rs : List ℕ) → Grows (each_pair f ls rs)
grows_each f h ls rs = always_each Adding adding f no_steps ls rs (λ l m. h l)

module _ (s : Store) where
  pub grows_ops : (f : ℕ → ℕ → State → Walk) → ((l r : ℕ) → Grows (f l r)) → (l r : ℕ) → Grows (check_ops s f l r)
  grows_ops f h l r = always_ops Adding adding s f no_steps l r (λ x m. h x)

  pub grows_pass3 : (f : ℕ → ℕ → State → Walk) → ((l r : ℕ) → Grows (f l r)) → (ls rs : List ℕ) → Grows (pass3 s f ls rs)
  grows_pass3 f h ls rs = always_pass3 Adding adding s f no_steps ls rs (λ b m n k. h n)

module _ (s : Store) (ig : Ignore) where
  pub grows_pair_ops : (l r : ℕ) → Grows (pair_ops s ig l r)
  unfolding pair_ops enter_ops standing
  grows_pair_ops l r st = always_expect Adding adding [] _ (pair_of op l r) st (enter_ops s l r st) (omega arith)

  pub grows_pair_blocks : (l r : ℕ) → Grows (pair_blocks s ig l r)
  unfolding pair_blocks enter_blocks standing
  grows_pair_blocks l r st = always_expect Adding adding [] _ (pair_of block l r) st (enter_blocks s l r st) (omega arith)

module _ (s : Store) (ig : Ignore) where
  pub grows_pass2 : (ls rs : List ℕ) → Grows (pass2 s ig ls rs)
  grows_pass2 = always_pass2 Adding adding s ig (grows_pair_ops s ig)

  pub grows_regions : (k : ℕ) (l r : ℕ) → Grows (compare_regions k s ig l r)
  unfolding standing compare_regions
  grows_regions zero l r st = le_refl st.paired
  grows_regions (suc k) l r st =
      always_lists Adding adding s ig (grows_pair_ops s ig) (grows_pair_blocks s ig) _ no_steps (pair_of region l r) (blocks_of s l) (blocks_of s r)
      (λ b m n i. grows_ops s (compare_regions k s ig) (grows_regions k) n)
      st

-- ---- and no more than there are shells among the steps on the left

abbrev AtMost : List Step → State → Walk → Type 0
AtMost xs st w = (standing w).paired ≤ st.paired + length (defined xs)

bind_most : (xs : List Step) (w : Walk) (f : State → Walk) → Always AtMost xs f → (standing (w >>= f)).paired ≤ (standing w).paired + length (defined xs)
unfolding standing
bind_most xs (on st) f h = h st
bind_most xs (ended why st) f h = omega arith

defined_append : (xs ys : List Step) → length (defined (xs ++ ys)) ≡ length (defined xs) + length (defined ys)
unfolding defined
defined_append xs ys = ap length (concat_map_append step_defines xs ys) ∙ length-append (flat_map step_defines xs) (flat_map step_defines ys)

at_most : Passes AtMost
unfolding standing
at_most =
    record {
      stays = λ xs st. omega arith;
      stops = λ xs st why. omega arith;
      behind = λ xs ys st w f a b. omega (arith, bind_most ys w f b, defined_append xs ys);
    }

module _ (s : Store) (ig : Ignore) where
  ops_most : (l r : ℕ) → Always AtMost (shell (of_op l) ∷ []) (pair_ops s ig l r)
  unfolding pair_ops enter_ops standing defined step_defines
  ops_most l r st = always_expect AtMost at_most (shell (of_op l) ∷ []) _ (pair_of op l r) st (enter_ops s l r st) (omega arith)

  blocks_most : (l r : ℕ) → Always AtMost (shell (of_block l) ∷ []) (pair_blocks s ig l r)
  unfolding pair_blocks enter_blocks standing defined step_defines
  blocks_most l r st = always_expect AtMost at_most (shell (of_block l) ∷ []) _ (pair_of block l r) st (enter_blocks s l r st) (omega arith)

  regions_most : (k : ℕ) (l r : ℕ) → Always AtMost (region_steps k s l) (compare_regions k s ig l r)
  unfolding standing compare_regions region_steps
  regions_most zero l r = λ st. omega arith
  regions_most (suc k) l r =
      always_lists AtMost at_most s ig ops_most blocks_most _ _ (pair_of region l r) (blocks_of s l) (blocks_of s r)
      (λ b m n i q. always_ops AtMost at_most s _ _ n q (λ x j. regions_most k x))

  full_most : (l r : ℕ) → Always AtMost (full_op s (region_steps levels s) l) (check_ops s (compare_regions levels s ig) l r)
  full_most l r = always_ops AtMost at_most s _ _ l r (λ x m. regions_most levels x)

  fragments_most : (f : Sort) (l r : ℕ) → Always AtMost (steps s f l) (compare_by s ig f l r)
  unfolding compare_by steps
  fragments_most op l r = always_then AtMost at_most (shell (of_op l) ∷ []) _ (pair_ops s ig l r) _ (ops_most l r) (full_most l r)
  fragments_most block l r = always_lists AtMost at_most s ig ops_most blocks_most _ _ (pair_of block l r) (l ∷ []) (r ∷ []) (λ b m n i. full_most n)
  fragments_most region l r = regions_most levels l r

pub paired_most : (s : Store) → sound s ≡ true → (ig : Ignore) (f : Sort) (l r : ℕ) → exists s f l ≡ true → (st : State)
    → (standing (compare_by s ig f l r st)).paired ≤ st.paired + 768
unfolding defines_owners defined
paired_most s sd ig f l r e st =
    let most : (standing (compare_by s ig f l r st)).paired ≤ st.paired + length (defines_owners s f l) = fragments_most s ig f l r st in
    omega (arith, owners_most s sd f l e)

-- ---- two runs of a block's operations

-- a part of a list defines no more than the list
module _ (f : ℕ → List Step) where
  abbrev many : List ℕ → ℕ
  many ns = length (defined (flat_map f ns))

  taken_most : (n : ℕ) (ns : List ℕ) → many (take n ns) ≤ many ns
  unfolding defined
  taken_most zero ns = omega arith
  taken_most (suc n) [] = omega arith
  taken_most (suc n) (m ∷ ns) =
      omega (arith, taken_most n ns, defined_append (f m) (flat_map f (take n ns)), defined_append (f m) (flat_map f ns))

  dropped_most : (i : ℕ) (ns : List ℕ) → many (drop i ns) ≤ many ns
  dropped_most zero ns = omega arith
  dropped_most (suc i) [] = omega arith
  dropped_most (suc i) (m ∷ ns) = omega (arith, dropped_most i ns, defined_append (f m) (flat_map f ns))

  part_most : (n i : ℕ) (ns : List ℕ) → many (take n (drop i ns)) ≤ many ns
  part_most n i ns = omega (arith, taken_most n (drop i ns), dropped_most i ns)

-- a list of operations by their shells alone
shells_each : (ns : List ℕ) → map (λ (n : ℕ). shell (of_op n)) ns ≡ flat_map (λ (n : ℕ). shell (of_op n) ∷ []) ns
shells_each [] = refl
shells_each (n ∷ ns) = ap (λ (xs : List Step). shell (of_op n) ∷ xs) (shells_each ns)

module _ (s : Store) (ig : Ignore) where
  abbrev full : ℕ → List Step
  full = full_op s (region_steps levels s)

  abbrev own : ℕ → List Step
  own n = shell (of_op n) ∷ []

  runs_most : (p : Pair) (ls rs : List ℕ)
      → Always AtMost (map (λ (n : ℕ). shell (of_op n)) ls ++ flat_map full ls) (λ st. pairwise (pair_ops s ig) p ls rs st >>= each_pair (check_ops s (compare_regions levels s ig)) ls rs)
  runs_most p ls rs =
      always_then AtMost at_most _ (flat_map full ls) (pairwise (pair_ops s ig) p ls rs) (each_pair (check_ops s (compare_regions levels s ig)) ls rs)
      (always_pairwise AtMost at_most (pair_ops s ig) of_op (ops_most s ig) p ls rs)
      (always_each AtMost at_most _ full ls rs (λ l m. full_most s ig l))

  block_defines : (b : ℕ) → many own (ops_of s b) + many full (ops_of s b) ≤ length (defines_owners s block b)
  unfolding defines_owners steps list_steps shells defined step_defines
  block_defines b =
      let ns = ops_of s b in
      let spread : flat_map step_defines (map (λ (n : ℕ). shell (of_op n)) ns ++ [] ++ (flat_map full ns ++ [])) ≡ defined (flat_map own ns) ++ defined (flat_map full ns) =
      (λ i. flat_map step_defines ((append-nil (map (λ (n : ℕ). shell (of_op n)) ns) ∙ shells_each ns) i ++ append-nil (flat_map full ns) i)) ∙ concat_map_append step_defines (flat_map own ns) (flat_map full ns) in
      omega (arith, ap length spread, length-append (defined (flat_map own ns)) (defined (flat_map full ns)))

-- two runs of a block of a sound store, whatever the starts
pub runs_paired : (s : Store) → sound s ≡ true → (ig : Ignore) (p : Pair) (b n i : ℕ) (rs : List ℕ) → exists s block b ≡ true → (st : State)
    → (standing (pairwise (pair_ops s ig) p (take n (drop i (ops_of s b))) rs st >>= each_pair (check_ops s (compare_regions levels s ig)) (take n (drop i (ops_of s b))) rs)).paired ≤ st.paired + 768
unfolding defines_owners
runs_paired s sd ig p b n i rs e st =
    let ls = take n (drop i (ops_of s b)) in
    let most = runs_most s ig p ls rs st in
    let parts : length (defined (map (λ (m : ℕ). shell (of_op m)) ls ++ flat_map (full s ig) ls)) ≡ many (own s ig) ls + many (full s ig) ls =
    defined_append (map (λ (m : ℕ). shell (of_op m)) ls) (flat_map (full s ig) ls) ∙ ap (λ (xs : List Step). length (defined xs) + many (full s ig) ls) (shells_each ls) in
    omega (arith, most, parts, part_most (own s ig) n i (ops_of s b), part_most (full s ig) n i (ops_of s b), block_defines s ig b, owners_most s sd block b e)
