-- Equal runs have equal window sums: pass 2 has found the shells of each pair the same, and a window takes in nothing but shells. Assumes
-- nothing.
use Prim.Native.Nat.{ℕ}
use mathlib.Core.Bool.{Bool, true, false, cond}
use mathlib.Core.List.{List, [], ◌∷◌, ◌++◌, map, head-eq_of_cons-eq, tail-eq_of_cons-eq}
use mathlib.Core.Path.{◌≡◌, refl, ap, ap₂}
use Rattle.rules.specs.Store.{Store}
use Rattle.rules.specs.declared.types.Owner.TheVariants.{Op as of_op}
use Rattle.rules.specs.Shells.{counts_of, same_shells}
use Rattle.rules.specs.declared.types.Ignore.{Ignore}
use Rattle.rules.specs.declared.types.Sort.TheVariants.{Op as op}
use Rattle.rules.specs.Comparison.{State, Pair, unequal, Walk, on, ended, pairwise, pair_of, expect, pair_ops, enter_ops, ◌>>=◌}
use Rattle.rules.specs.Hash.{fnv, leaf, count, uncounted, head_bytes, shell_bytes, feeds}
use Rattle.rules.specs.Laws.{succeeds}
use Rattle.rules.specs.Runs.{compare_runs, shell_hash, weighted, window_sum}
use Rattle.rules.specs.RunLaws.{SameWindow}
use Rattle.rules.proofs.Basics.Tests.{clash}
use Rattle.rules.proofs.Form.SameShells.{shells→≡}

-- ---- shells that are the same have one hash

counts_head : (s : Store) (l r : ℕ) → counts_of s (of_op l) ≡ counts_of s (of_op r) → head_bytes s (of_op l) ≡ head_bytes s (of_op r)
unfolding counts_of head_bytes
counts_head s l r e =
    let kind = head-eq_of_cons-eq e in
    let regions = head-eq_of_cons-eq (tail-eq_of_cons-eq e) in
    λ i. leaf (kind i) ++ count (regions i)

same_hash : (s : Store) (ig : Ignore) (l r : ℕ) → same_shells s ig (of_op l) (of_op r) ≡ true → shell_hash s ig l ≡ shell_hash s ig r
unfolding shell_hash feeds
same_hash s ig l r h =
    let p = shells→≡ s ig (of_op l) (of_op r) h in
    λ i. fnv (counts_head s l r p.0 i ++ shell_bytes uncounted (p.1 i))

-- ---- lists that pass 2 goes through

bound : (w : Walk) (f : State → Walk) → succeeds (w >>= f) ≡ true → succeeds w ≡ true
unfolding succeeds
bound (on st) f h = refl
bound (ended why st) f h = clash h refl

module _ (s : Store) (ig : Ignore) (p : Pair) where
  -- of the same shells
  abbrev Alike : List ℕ → List ℕ → Type 0
  Alike ls rs = map (shell_hash s ig) ls ≡ map (shell_hash s ig) rs

  alike_next : (l r : ℕ) (ls rs : List ℕ) → same_shells s ig (of_op l) (of_op r) ≡ true → Alike ls rs → Alike (l ∷ ls) (r ∷ rs)
  alike_next l r ls rs h rest = ap₂ ◌∷◌ (same_hash s ig l r h) rest

  paired : (ls rs : List ℕ) (st : State) → succeeds (pairwise (pair_ops s ig) p ls rs st) ≡ true → Alike ls rs
  unfolding pairwise succeeds pair_ops expect
  paired [] [] st h = refl
  paired [] (r ∷ rs) st h = clash h refl
  paired (l ∷ []) [] st h = clash h refl
  paired (l ∷ m ∷ ls) [] st h = clash h refl
  paired (l ∷ ls) (r ∷ rs) st h = go (same_shells s ig (of_op l) (of_op r)) refl h (paired ls rs)
    where
      go : (b : Bool) → same_shells s ig (of_op l) (of_op r) ≡ b
          → succeeds (cond b (on (enter_ops s l r st)) (ended (unequal (pair_of op l r)) st) >>= pairwise (pair_ops s ig) p ls rs) ≡ true
          → ((st' : State) → succeeds (pairwise (pair_ops s ig) p ls rs st') ≡ true → Alike ls rs) → Alike (l ∷ ls) (r ∷ rs)
      go true e k rest = alike_next l r ls rs e (rest (enter_ops s l r st) k)
      go false e k rest = clash k refl

pub same_window : SameWindow
unfolding SameWindow compare_runs window_sum
same_window s ig b ls rs h = ap weighted (paired s ig _ ls rs _ (bound _ _ h))
