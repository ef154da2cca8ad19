-- "The number of operations still below" falls at each round: an operation inside another has a larger number. Assumes nothing.
use Prim.Native.Nat.{ℕ, ◌-◌, ◌<◌}
use native.Mathlib.Omega.{arith}
use mathlib.Core.Bool.{true}
use mathlib.Core.List.Memᴰ
use mathlib.Core.List.{Memᴰ}
use Rattle.std.specs.Prelude.{Option}
use mathlib.Core.Path.{◌≡◌, ap, subst}
use borrow.Author.Tests.{ltb-true}
use lib.ListN.{length, get_or}
use Rattle.rules.specs.Store.{Store, op_around, op_after, ops_of, regions_of, sound}
use Rattle.rules.proofs.Soundness.Sound.{facts}
use Rattle.rules.proofs.Soundness.Children.{ops_in_lem, blocks_in_lem, regions_in_lem}
use Rattle.fragments.specs.Order.{block_list}
use Rattle.fragments.specs.declared.types.Blocks.{Blocks}
use Rattle.fragments.specs.declared.types.Blocks.TheVariants.{InRegion, Single}

-- the operations from number n on
abbrev pub below : Store → ℕ → ℕ
below s n = length s.ops - n

-- the operation around a list of blocks
unfoldable pub around_list : Store → Blocks → ℕ
around_list s (InRegion r) = get_or s.regions r 0
around_list s (Single b) = op_around s b

pub around_all : (s : Store) (x : Blocks) (b : ℕ) → Memᴰ b (block_list s x) → op_around s b ≡ around_list s x
unfolding block_list around_list op_around
around_all s (InRegion r) b m = ap (λ (q : ℕ). get_or s.regions q 0) (blocks_in_lem s r m).1
around_all s (Single a) b m = ap (op_around s) (Memᴰ.eq_of_singleton m)

-- it is around each block of the list by itself
pub around_block : (s : Store) (x : Blocks) (b : ℕ) → Memᴰ b (block_list s x) → around_list s (Single b) ≡ around_list s x
unfolding around_list
around_block s x b m = around_all s x b m

-- an operation in the list is behind the one around it
pub op_falls : (s : Store) → sound s ≡ true → (x : Blocks) (b n : ℕ) → Memᴰ b (block_list s x) → Memᴰ n (ops_of s b) → below s n < below s (around_list s x)
unfolding op_after
op_falls s sd x b n mb mn =
    let w = ops_in_lem s b mn in
    let l : n < length s.ops = w.0 in
    let k : op_around s b < n = ltb-true _ _ (subst (λ (p : Option ℕ). op_after s n p ≡ true) w.1 ((facts s sd).op n l).later) in
    let e : op_around s b ≡ around_list s x = around_all s x b mb in
    omega arith

-- the one around an operation's region is that operation
pub around_region : (s : Store) (n r : ℕ) → Memᴰ r (regions_of s n) → around_list s (InRegion r) ≡ n
unfolding around_list
around_region s n r m = (regions_in_lem s n m).1
