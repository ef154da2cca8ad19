-- What is kept wherever a pair that exists is entered is kept by a whole comparison: it enters its two fragments and what stands in child
-- lists, and all of that exists. Assumes nothing.
use Prim.Native.Nat.{ℕ, zero, suc, ◌<◌}
use mathlib.Core.Bool.{Bool, true, false}
use mathlib.Core.List.Memᴰ
use mathlib.Core.List.{List, [], ◌∷◌, Memᴰ}
use mathlib.Core.Path.{◌≡◌, refl}
use borrow.Author.Tests.{ltb-true}
use lib.ListN.{length}
use Rattle.rules.specs.Store.{Store, ops_of, blocks_of, regions_of, op_exists, block_exists}
use Rattle.rules.specs.Fragments.{exists, levels}
use Rattle.rules.specs.declared.types.Sort.{Sort}
use Rattle.rules.specs.declared.types.Sort.TheVariants.{Op as op, Block as block, Region as region}
use Rattle.rules.specs.declared.types.Ignore.{Ignore}
use Rattle.rules.specs.Comparison.{State, Pair, Walk, on, ended, standing, ◌>>=◌, pairwise, each_pair, pair_of, expect, enter_ops, enter_blocks, pair_ops, pair_blocks, check_names, check_ops, pass1, pass2, pass3, compare_lists, compare_regions, compare_by}
use Rattle.rules.proofs.Soundness.Children.{ops_in_lem, blocks_in_lem}

-- from whatever state it begins
abbrev pub Keeps : (State → Type 0) → (State → Walk) → Type 0
Keeps I f = (st : State) → I st → I (standing (f st))

module _ (I : State → Type 0) where
  keeps_bind : (w : Walk) (f : State → Walk) → I (standing w) → Keeps I f → I (standing (w >>= f))
  unfolding standing
  keeps_bind (on st) f h k = k st h
  keeps_bind (ended why st) f h k = h

  keeps_expect : (b : Bool) (p : Pair) (st t : State) → I st → I t → I (standing (expect b p st t))
  unfolding standing expect
  keeps_expect true p st t h k = k
  keeps_expect false p st t h k = h

  -- of every pair of the two lists
  abbrev Each : (ℕ → ℕ → State → Walk) → List ℕ → List ℕ → Type 0
  Each f ls rs = (l r : ℕ) → Memᴰ l ls → Memᴰ r rs → Keeps I (f l r)

  keeps_pairwise : (f : ℕ → ℕ → State → Walk) (p : Pair) (ls rs : List ℕ) → Each f ls rs → Keeps I (pairwise f p ls rs)
  unfolding standing pairwise
  keeps_pairwise f p [] [] a st h = h
  keeps_pairwise f p [] (r ∷ rs) a st h = h
  keeps_pairwise f p (l ∷ []) [] a st h = h
  keeps_pairwise f p (l ∷ m ∷ ls) [] a st h = h
  keeps_pairwise f p (l ∷ ls) (r ∷ rs) a st h =
      keeps_bind (f l r st) (pairwise f p ls rs) (a l r (Memᴰ.head refl) (Memᴰ.head refl) st h)
      (keeps_pairwise f p ls rs (λ m n i j. a m n (Memᴰ.tail i) (Memᴰ.tail j)))

  keeps_each : (f : ℕ → ℕ → State → Walk) (ls rs : List ℕ) → Each f ls rs → Keeps I (each_pair f ls rs)
  unfolding standing each_pair
  keeps_each f [] rs a st h = h
  keeps_each f (l ∷ ls) [] a st h = h
  keeps_each f (l ∷ ls) (r ∷ rs) a st h =
      keeps_bind (f l r st) (each_pair f ls rs) (a l r (Memᴰ.head refl) (Memᴰ.head refl) st h)
      (keeps_each f ls rs (λ m n i j. a m n (Memᴰ.tail i) (Memᴰ.tail j)))

  -- where a pair that exists keeps it
  module _ (s : Store) (ig : Ignore)
      (ops : (l r : ℕ) → l < length s.ops → r < length s.ops → (st : State) → I st → I (enter_ops s l r st))
      (blocks : (l r : ℕ) → l < length s.blocks → r < length s.blocks → (st : State) → I st → I (enter_blocks s l r st)) where
    keeps_ops : (l r : ℕ) → l < length s.ops → r < length s.ops → Keeps I (pair_ops s ig l r)
    unfolding pair_ops
    keeps_ops l r el er st h = keeps_expect _ (pair_of op l r) st (enter_ops s l r st) h (ops l r el er st h)

    keeps_blocks : (l r : ℕ) → l < length s.blocks → r < length s.blocks → Keeps I (pair_blocks s ig l r)
    unfolding pair_blocks
    keeps_blocks l r el er st h = keeps_expect _ (pair_of block l r) st (enter_blocks s l r st) h (blocks l r el er st h)

    keeps_check : (f : ℕ → ℕ → State → Walk) → ((l r : ℕ) → Keeps I (f l r)) → (l r : ℕ) → Keeps I (check_ops s f l r)
    unfolding check_ops check_names
    keeps_check f a l r st h =
        keeps_bind _ (each_pair f (regions_of s l) (regions_of s r)) (keeps_expect _ (pair_of op l r) st st h h)
        (keeps_each f (regions_of s l) (regions_of s r) (λ x y i j. a x y))

    -- the blocks of two lists exist
    keeps_lists : (f : ℕ → ℕ → State → Walk) → ((l r : ℕ) → Keeps I (f l r)) → (p : Pair) (ls rs : List ℕ)
        → ((l : ℕ) → Memᴰ l ls → l < length s.blocks) → ((r : ℕ) → Memᴰ r rs → r < length s.blocks)
        → Keeps I (compare_lists s ig f p ls rs)
    unfolding compare_lists pass1 pass2 pass3
    keeps_lists f a p ls rs el er st h =
        keeps_bind _ (pass3 s f ls rs)
        (keeps_bind _ (pass2 s ig ls rs)
        (keeps_pairwise (pair_blocks s ig) p ls rs (λ l r i j. keeps_blocks l r (el l i) (er r j)) st h)
        (keeps_each _ ls rs
        (λ l r i j. keeps_pairwise (pair_ops s ig) (pair_of block l r) (ops_of s l) (ops_of s r)
        (λ m n u v. keeps_ops m n (ops_in_lem s l u).0 (ops_in_lem s r v).0))))
        (keeps_each _ ls rs (λ l r i j. keeps_each f (ops_of s l) (ops_of s r) (λ m n u v. a m n)))

    keeps_regions : (k l r : ℕ) → Keeps I (compare_regions k s ig l r)
    unfolding standing compare_regions
    keeps_regions zero l r st h = h
    keeps_regions (suc k) l r st h =
        keeps_lists (check_ops s (compare_regions k s ig)) (keeps_check (compare_regions k s ig) (keeps_regions k)) (pair_of region l r) (blocks_of s l) (blocks_of s r)
        (λ b m. (blocks_in_lem s l m).0)
        (λ b m. (blocks_in_lem s r m).0)
        st h

    pub keeps_fragments : (f : Sort) (l r : ℕ) → exists s f l ≡ true → exists s f r ≡ true → Keeps I (compare_by s ig f l r)
    unfolding compare_by exists op_exists block_exists
    keeps_fragments op l r el er st h =
        keeps_bind _ (check_ops s (compare_regions levels s ig) l r) (keeps_ops l r (ltb-true _ _ el) (ltb-true _ _ er) st h)
        (keeps_check (compare_regions levels s ig) (keeps_regions levels) l r)
    keeps_fragments block l r el er st h =
        keeps_lists (check_ops s (compare_regions levels s ig)) (keeps_check (compare_regions levels s ig) (keeps_regions levels)) (pair_of block l r) (l ∷ []) (r ∷ [])
        (λ b m. rw (Memᴰ.eq_of_singleton m) (ltb-true _ _ el))
        (λ b m. rw (Memᴰ.eq_of_singleton m) (ltb-true _ _ er))
        st h
    keeps_fragments region l r el er st h = keeps_regions levels l r st h

    -- two runs of operations, which exist
    pub keeps_runs : (p : Pair) (ls rs : List ℕ)
        → ((l : ℕ) → Memᴰ l ls → l < length s.ops) → ((r : ℕ) → Memᴰ r rs → r < length s.ops)
        → Keeps I (λ st. pairwise (pair_ops s ig) p ls rs st >>= each_pair (check_ops s (compare_regions levels s ig)) ls rs)
    keeps_runs p ls rs el er st h =
        keeps_bind _ (each_pair (check_ops s (compare_regions levels s ig)) ls rs)
        (keeps_pairwise (pair_ops s ig) p ls rs (λ l r i j. keeps_ops l r (el l i) (er r j)) st h)
        (keeps_each (check_ops s (compare_regions levels s ig)) ls rs (λ l r i j. keeps_check (compare_regions levels s ig) (keeps_regions levels) l r))
