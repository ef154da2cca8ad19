-- The operations in the order of including are those that the walk of the rules defines: both come to each operation of each block, and in it
-- to the same of its regions. Assumes nothing.
use Prim.Native.Nat.{ℕ, zero, suc}
use mathlib.Core.Bool.{Bool, false, ◌||◌, or-false}
use mathlib.Core.List.{List}
use mathlib.Core.Path.{◌≡◌, refl, sym, ap, ap₂, ◌∙◌}
use Rattle.std.specs.List.{list_any, flat_map}
use Rattle.rules.specs.Store.{Store, ops_of, blocks_of, regions_of}
use Rattle.rules.specs.Fragments.{levels, Step, counted, full_op, list_steps, region_steps, steps, step_defines, op_owner, defines_owners, fragment_ops}
use Rattle.rules.specs.declared.types.Sort.{Sort}
use Rattle.rules.specs.declared.types.Sort.TheVariants.{Op as op, Block as block, Region as region}
use Rattle.rules.proofs.Basics.Distinct.{concat_map_concat_map}
use Rattle.rules.proofs.Walking.ByParts.{any_same, any_concat, op_hit, block_hit, any_listed, any_block, any_full}
use Rattle.listing.specs.Tally.{op_ops_by, block_ops_by, region_ops, block_ops, op_ops}

-- those inside a fragment, as they are included
unfoldable pub ops_included : Store → Sort → ℕ → List ℕ
ops_included s op n = op_ops levels s n
ops_included s block n = block_ops levels s n
ops_included s region n = region_ops levels s n

module _ (p : ℕ → Bool) where
  -- ---- an operation that steps define passes

  hit : Step → Bool
  hit x = list_any p (flat_map op_owner (step_defines x))

  none_counted : (k : ℕ) → hit (counted k) ≡ false
  unfolding hit step_defines
  none_counted k = refl

  hits : (xs : List Step) → list_any p (flat_map op_owner (flat_map step_defines xs)) ≡ list_any hit xs
  unfolding hit
  hits xs = ap (list_any p) (concat_map_concat_map op_owner step_defines xs) ∙ any_concat p (λ (x : Step). flat_map op_owner (step_defines x)) xs

  module _ (s : Store) (includes : ℕ → List ℕ) (in_region : ℕ → List Step) (same : (r : ℕ) → list_any p (includes r) ≡ list_any hit (in_region r)) where
    full : ℕ → List Step
    full = full_op s in_region

    -- an operation and all in its regions
    op_same : (n : ℕ) → list_any p (op_ops_by includes s n) ≡ op_hit hit none_counted s full n
    unfolding full hit step_defines op_owner op_ops_by
    op_same n =
        ap₂ ◌||◌ (sym (or-false (p n)))
        (any_concat p includes (regions_of s n) ∙ any_same _ _ (regions_of s n) same ∙ sym (any_full hit none_counted s in_region n))

    block_same : (b : ℕ) → list_any p (block_ops_by includes s b) ≡ block_hit hit none_counted s full b
    unfolding hit step_defines op_owner block_ops_by
    block_same b = any_concat p (op_ops_by includes s) (ops_of s b) ∙ any_same _ _ (ops_of s b) op_same

    list_same : (bs : List ℕ) → list_any p (flat_map (block_ops_by includes s) bs) ≡ list_any hit (list_steps s full bs)
    list_same bs = any_concat p (block_ops_by includes s) bs ∙ any_same _ _ bs block_same ∙ sym (any_listed hit none_counted s full bs)

  -- ---- a region, whatever the number of regions that may be entered

  region_same : (s : Store) (k r : ℕ) → list_any p (region_ops k s r) ≡ list_any hit (region_steps k s r)
  unfolding region_ops region_steps full
  region_same s zero r = refl
  region_same s (suc k) r = list_same s (region_ops k s) (region_steps k s) (region_same s k) (blocks_of s r)

  -- ---- a fragment

  by_walk : (s : Store) (f : Sort) (n : ℕ) → list_any p (ops_included s f n) ≡ list_any hit (steps s f n)
  unfolding ops_included op_ops block_ops steps full
  by_walk s op n = op_same s (region_ops levels s) (region_steps levels s) (region_same s levels) n
  by_walk s block n =
      block_same s (region_ops levels s) (region_steps levels s) (region_same s levels) n
      ∙ sym (any_block hit none_counted s (full_op s (region_steps levels s)) n)
  by_walk s region n = region_same s levels n

  pub same_ops : (s : Store) (f : Sort) (n : ℕ) → list_any p (ops_included s f n) ≡ list_any p (fragment_ops s f n)
  unfolding fragment_ops defines_owners
  same_ops s f n = by_walk s f n ∙ sym (hits (steps s f n))
