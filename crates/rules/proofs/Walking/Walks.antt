-- What holds of steps, from where each begins to what it comes to, holds of a walk made of them, if it passes from one walk to the next:
-- through every way in which a walk is put together. Assumes nothing.
use Prim.Native.Nat.{ℕ}
use mathlib.Core.Bool.{Bool, true, false}
use mathlib.Core.List.{List, [], ◌∷◌, ◌++◌, map, Memᴰ}
use mathlib.Core.Path.{refl}
use lib.ListN.{length}
use Rattle.std.specs.List.{flat_map}
use Rattle.rules.specs.Store.{Store, ops_of, regions_of}
use Rattle.rules.specs.declared.types.Owner.{Owner}
use Rattle.rules.specs.declared.types.Owner.TheVariants.{Op as of_op, Block as of_block}
use Rattle.rules.specs.Fragments.{Step, shell, names, counted, full_op, shells, list_steps}
use Rattle.rules.specs.declared.types.Sort.TheVariants.{Op as op, Block as block}
use Rattle.rules.specs.declared.types.Ignore.{Ignore}
use Rattle.rules.specs.Comparison.{State, Pair, Stop, unequal, one_longer, Walk, on, ended, ◌>>=◌, pairwise, each_pair, pair_of, expect, pair_ops, pair_blocks, check_names, check_ops, pass1, pass2, pass3, compare_lists}

-- ---- of the steps on the left that a walk goes through, the state in which it begins, and what it comes to

-- it holds of a walk that goes on at once and of one that ends at once, and passes from a walk to one behind it
pub record Passes (R : List Step → State → Walk → Type 0) : Type 0 where
  pub stays : (xs : List Step) (st : State) → R xs st (on st)
  pub stops : (xs : List Step) (st : State) (why : Stop) → R xs st (ended why st)
  pub behind : (xs ys : List Step) (st : State) (w : Walk) (f : State → Walk) → R xs st w → ((t : State) → R ys t (f t)) → R (xs ++ ys) st (w >>= f)

-- in whatever state it begins
abbrev pub Always : (List Step → State → Walk → Type 0) → List Step → (State → Walk) → Type 0
Always R xs f = (st : State) → R xs st (f st)

-- for what does not depend on the steps
abbrev pub no_steps : ℕ → List Step
no_steps n = []

module _ (R : List Step → State → Walk → Type 0) (h : Passes R) where
  pub always_then : (xs ys : List Step) (f g : State → Walk) → Always R xs f → Always R ys g → Always R (xs ++ ys) (λ st. f st >>= g)
  always_then xs ys f g a b st = h.behind xs ys st (f st) g (a st) b

  pub always_expect : (xs : List Step) (b : Bool) (p : Pair) (st t : State) → R xs st (on t) → R xs st (expect b p st t)
  unfolding expect
  always_expect xs true p st t a = a
  always_expect xs false p st t a = h.stops xs st (unequal p)

  -- pair by pair, each with a shell
  pub always_pairwise : (f : ℕ → ℕ → State → Walk) (w : ℕ → Owner) → ((l r : ℕ) → Always R (shell (w l) ∷ []) (f l r))
      → (p : Pair) (ls rs : List ℕ) → Always R (map (λ (l : ℕ). shell (w l)) ls) (pairwise f p ls rs)
  unfolding pairwise
  always_pairwise f w a p [] [] st = h.stays _ st
  always_pairwise f w a p [] (r ∷ rs) st = h.stops _ st (unequal p)
  always_pairwise f w a p (l ∷ []) [] st = h.stops _ st (one_longer p)
  always_pairwise f w a p (l ∷ m ∷ ls) [] st = h.stops _ st (unequal p)
  always_pairwise f w a p (l ∷ ls) (r ∷ rs) st =
      always_then (shell (w l) ∷ []) (map (λ (n : ℕ). shell (w n)) ls) (f l r) (pairwise f p ls rs) (a l r) (always_pairwise f w a p ls rs) st

  -- and as a list
  pub always_shells : (f : ℕ → ℕ → State → Walk) (w : ℕ → Owner) → ((l r : ℕ) → Always R (shell (w l) ∷ []) (f l r))
      → (p : Pair) (ls rs : List ℕ) → Always R (shells w ls) (pairwise f p ls rs)
  unfolding shells
  always_shells f w a p ls rs =
      always_then (counted (length ls) ∷ []) (map (λ (l : ℕ). shell (w l)) ls) on (pairwise f p ls rs) (h.stays _) (always_pairwise f w a p ls rs)

  -- pair by pair, each with steps
  pub always_each : (f : ℕ → ℕ → State → Walk) (g : ℕ → List Step) (ls rs : List ℕ) → ((l : ℕ) → Memᴰ l ls → (r : ℕ) → Always R (g l) (f l r))
      → Always R (flat_map g ls) (each_pair f ls rs)
  unfolding each_pair
  always_each f g [] rs a st = h.stays _ st
  always_each f g (l ∷ ls) [] a st = h.stays _ st
  always_each f g (l ∷ ls) (r ∷ rs) a st =
      always_then (g l) (flat_map g ls) (f l r) (each_pair f ls rs) (a l (Memᴰ.head refl) r) (always_each f g ls rs (λ m k. a m (Memᴰ.tail k))) st

  module _ (s : Store) (f : ℕ → ℕ → State → Walk) (g : ℕ → List Step) where
    pub always_ops : (l r : ℕ) → ((x : ℕ) → Memᴰ x (regions_of s l) → (y : ℕ) → Always R (g x) (f x y)) → Always R (full_op s g l) (check_ops s f l r)
    unfolding check_ops check_names full_op
    always_ops l r a =
        always_then (names l ∷ []) (flat_map g (regions_of s l)) (check_names s l r) _
        (λ st. always_expect (names l ∷ []) _ (pair_of op l r) st st (h.stays _ st))
        (always_each f g (regions_of s l) (regions_of s r) a)

    pub always_pass3 : (ls rs : List ℕ) → ((b : ℕ) → Memᴰ b ls → (n : ℕ) → Memᴰ n (ops_of s b) → (r : ℕ) → Always R (g n) (f n r))
        → Always R (flat_map (λ (b : ℕ). flat_map g (ops_of s b)) ls) (pass3 s f ls rs)
    unfolding pass3
    always_pass3 ls rs a = always_each _ _ ls rs (λ l m r. always_each f g (ops_of s l) (ops_of s r) (a l m))

  -- where it holds of pairs
  module _ (s : Store) (ig : Ignore) (ops : (l r : ℕ) → Always R (shell (of_op l) ∷ []) (pair_ops s ig l r)) where
    pub always_pass2 : (ls rs : List ℕ) → Always R (flat_map (λ (b : ℕ). shells of_op (ops_of s b)) ls) (pass2 s ig ls rs)
    unfolding pass2
    always_pass2 ls rs = always_each _ _ ls rs (λ l m r. always_shells (pair_ops s ig) of_op ops (pair_of block l r) (ops_of s l) (ops_of s r))

    pub always_lists : ((l r : ℕ) → Always R (shell (of_block l) ∷ []) (pair_blocks s ig l r)) → (f : ℕ → ℕ → State → Walk) (g : ℕ → List Step)
        → (p : Pair) (ls rs : List ℕ) → ((b : ℕ) → Memᴰ b ls → (n : ℕ) → Memᴰ n (ops_of s b) → (r : ℕ) → Always R (g n) (f n r))
        → Always R (list_steps s g ls) (compare_lists s ig f p ls rs)
    unfolding compare_lists pass1 list_steps
    always_lists blocks f g p ls rs a =
        always_then _ _ _ (pass3 s f ls rs)
        (always_then _ _ (pass1 s ig p ls rs) (pass2 s ig ls rs) (always_shells (pair_blocks s ig) of_block blocks p ls rs) (always_pass2 ls rs))
        (always_pass3 s f g ls rs a)
