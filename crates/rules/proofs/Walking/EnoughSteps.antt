-- Any sufficient number of levels gives the same steps: those of a region are told by those of the regions next inside it, with one level
-- less. Assumes nothing.
use Prim.Native.Nat.{ℕ, suc, ◌≤◌}
use native.Mathlib.Omega.{arith}
use mathlib.Core.Bool.{true}
use mathlib.Core.List.{List, ◌∷◌, ◌++◌, Memᴰ}
use mathlib.Core.Path.{◌≡◌, ap}
use Rattle.std.specs.List.{flat_map}
use Rattle.rules.specs.Store.{Store, ops_of, blocks_of, regions_of, sound}
use Rattle.rules.specs.declared.types.Owner.TheVariants.{Op as of_op, Block as of_block}
use Rattle.rules.specs.Fragments.{levels, Step, names, full_op, shells, list_steps, region_steps}
use Rattle.rules.proofs.Basics.Distinct.{concat_map_same}
use Rattle.rules.proofs.Walking.Levels.{by_levels}

list_same : (s : Store) (full full' : ℕ → List Step) (bs : List ℕ) → ((b : ℕ) → Memᴰ b bs → (n : ℕ) → Memᴰ n (ops_of s b) → full n ≡ full' n)
    → list_steps s full bs ≡ list_steps s full' bs
unfolding list_steps
list_same s full full' bs same =
    ap (λ (xs : List Step). shells of_block bs ++ flat_map (λ (b : ℕ). shells of_op (ops_of s b)) bs ++ xs)
    (concat_map_same (λ (b : ℕ). flat_map full (ops_of s b)) (λ (b : ℕ). flat_map full' (ops_of s b)) bs (λ b m. concat_map_same full full' (ops_of s b) (same b m)))

module _ (s : Store) (sd : sound s ≡ true) where
  pub steps_enough : (k l : ℕ) → levels ≤ k → levels ≤ l → (r : ℕ) → region_steps k s r ≡ region_steps l s r
  unfolding region_steps full_op
  steps_enough =
      by_levels s sd (λ k l r. region_steps k s r ≡ region_steps l s r)
      (λ k l r inner. list_same s (full_op s (region_steps k s)) (full_op s (region_steps l s)) (blocks_of s r)
      (λ b b∈ n n∈. ap (λ (xs : List Step). names n ∷ xs)
      (concat_map_same (region_steps k s) (region_steps l s) (regions_of s n) (λ q q∈. inner b n q b∈ n∈ q∈))))

  -- what stands in a region is gone through as where a walk begins
  pub region_steps_lem : (r : ℕ) → region_steps levels s r ≡ list_steps s (full_op s (region_steps levels s)) (blocks_of s r)
  unfolding region_steps
  region_steps_lem r = steps_enough levels (suc levels) (omega arith) (omega arith) r
