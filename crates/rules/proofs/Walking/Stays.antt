-- No operation of a sound store is nested deeper than 32: going up from it takes one of 32 levels from each region to the next. And a walk
-- goes only through the store: a shell that it comes to is of what the fragment defines, which exists; and where it comes to an operation's
-- names it comes to its shell too. Assumes nothing.
use Prim.Native.Nat.{ℕ, zero, suc, ◌≤◌}
use native.Mathlib.Omega.{arith}
use mathlib.Core.Bool.{true}
use mathlib.Core.List.{Memᴰ}
use Rattle.std.specs.Prelude.{Some}
use mathlib.Core.Path.{◌≡◌}
use borrow.Author.Tests.{ltb-true}
use Rattle.rules.specs.Store.{Store, op_exists, owner_exists, parent_of, op_around, levels_left, max_nesting, sound}
use Rattle.rules.specs.declared.types.Owner.{Owner}
use Rattle.rules.specs.declared.types.Owner.TheVariants.{Op as of_op}
use Rattle.rules.specs.Fragments.{exists, shell, steps}
use Rattle.rules.specs.declared.types.Sort.{Sort}
use Rattle.rules.specs.BuildingLaws.{Around, NestedAtMost, WalkStays}
use Rattle.rules.proofs.Basics.Tests.{impossible}
use Rattle.rules.proofs.Soundness.Sound.{facts}
use Rattle.rules.proofs.Form.Once.{owners_here}
use Rattle.rules.proofs.Walking.Levels.{Leaves, op_leaves}
use Rattle.rules.proofs.Copying.Shelled.{in_steps, shell_defined}

around_most : (s : Store) (m k n j : ℕ) → Leaves s m (parent_of s n) j → Around k s n → k ≤ m
unfolding Around levels_left
around_most s m zero n j h a = omega arith
around_most s zero (suc k) n j h a = let inside : Leaves s zero (Some a.0) j = rw a.1.0 at h in impossible cc
around_most s (suc m) (suc k) n j h a =
    let inside : Leaves s (suc m) (Some a.0) j = rw a.1.0 at h in
    let l : k ≤ m = around_most s m k (op_around s a.0) j inside a.1.1 in
    omega arith

pub nested_at_most : NestedAtMost
unfolding NestedAtMost exists op_exists
nested_at_most s sd n h =
    let w = op_leaves s sd n in
    (((facts s sd).op n (ltb-true _ _ h)).nesting, λ k a. around_most s max_nesting k n w.0 w.1 a)

module _ (s : Store) (sd : sound s ≡ true) (f : Sort) (n : ℕ) (h : exists s f n ≡ true) where
  shell_here : (w : Owner) → Memᴰ (shell w) (steps s f n) → owner_exists s w ≡ true
  shell_here w k = owners_here s (facts s sd) f n h w (shell_defined s f n w k)

pub walk_stays : WalkStays
unfolding WalkStays owner_exists
walk_stays s sd f n h = (shell_here s sd f n h, λ m k. shell_here s sd f n h (of_op m) (in_steps s f n m k))
