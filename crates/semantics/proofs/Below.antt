-- What a run in a fragment comes to is inside it: the operations of its blocks, the blocks of its operations' regions, and their values;
-- and what its operations name is what the fragment names. Assumes nothing.
use Prim.Native.Nat.{ℕ, zero, suc}
use mathlib.Core.Bool.{true}
use mathlib.Core.List.Memᴰ
use mathlib.Core.List.{List, [], ◌∷◌, Memᴰ}
use mathlib.Core.Logic.{⊎_elim}
use mathlib.Core.Path.{◌≡◌, refl, ap, ◌∙◌}
use lib.ListN.{get_or}
use Rattle.rules.specs.Store.{Store, op_at, block_at, op_around, ops_of, blocks_of, regions_of, results_of, arguments_of, values_of, sound}
use Rattle.rules.specs.declared.types.Owner.TheVariants.{Op as of_op, Block as of_block}
use Rattle.rules.specs.Fragments.{Step, shell, names, full_op, list_steps, region_steps, levels, steps, step_operands, step_successors, fragment_ops, defines_blocks, defines_values, defines_owners, names_values, names_blocks}
use Rattle.rules.specs.declared.types.Sort.{Sort}
use Rattle.rules.specs.declared.types.Sort.TheVariants.{Op as op, Block as block, Region as region}
use Rattle.rules.proofs.Basics.Distinct.{mem_concat_map}
use Rattle.rules.proofs.Soundness.Children.{blocks_in_lem, regions_in_lem}
use Rattle.rules.proofs.Form.Roots.{Root}
use Rattle.rules.proofs.Form.Owned.{op_owned, owned_op, block_owned, owned_block}
use Rattle.rules.proofs.Copying.Renumbered.{in_concat_map}
use Rattle.rules.proofs.Copying.Shelled.{full_listed, listed_op, owner_shell}
use Rattle.rules.proofs.Copying.Walked.{ops_of_blocks}
use Rattle.rules.proofs.Copying.Within.{block_inside, roots_defined}

-- ---- where a walk comes to an operation's shell it comes to its names

module _ (s : Store) where
  abbrev Named : List Step → Type 0
  Named xs = (n : ℕ) → Memᴰ (shell (of_op n)) xs → Memᴰ (names n) xs

  named_list : (g : ℕ → List Step) → ((r : ℕ) → Named (g r)) → (bs : List ℕ) → Named (list_steps s (full_op s g) bs)
  unfolding full_op
  named_list g h bs n m =
      ⊎_elim
      (λ b. full_listed s (full_op s g) bs b.1 b.2 (Memᴰ.head refl))
      (λ b. ⊎_elim (λ e. let z : ⊥ = cc in absurd z)
      (λ p. let w = mem_concat_map g (regions_of s b.1) p in full_listed s (full_op s g) bs b.2 b.3 (Memᴰ.tail (in_concat_map g (regions_of s b.1) w.1 (h w.0 n w.2))))
      (Memᴰ.cases_cons b.4))
      (listed_op s (full_op s g) bs m)

  named_region : (k r : ℕ) → Named (region_steps k s r)
  unfolding region_steps
  named_region zero r n m = absurd (Memᴰ.not-nil m)
  named_region (suc k) r n m = named_list (region_steps k s) (named_region k) (blocks_of s r) n m

  named_steps : (f : Sort) (a : ℕ) → Named (steps s f a)
  unfolding steps full_op
  named_steps op a n m =
      ⊎_elim (λ e. let f : n ≡ a = cc in Memᴰ.tail (Memᴰ.head (ap names f)))
      (λ p. ⊎_elim (λ e. let z : ⊥ = cc in absurd z)
      (λ q. let w = mem_concat_map (region_steps levels s) (regions_of s a) q in
      Memᴰ.tail (Memᴰ.tail (in_concat_map (region_steps levels s) (regions_of s a) w.1 (named_region levels w.0 n w.2))))
      (Memᴰ.cases_cons p))
      (Memᴰ.cases_cons m)
  named_steps block a n m = named_list (region_steps levels s) (named_region levels) (a ∷ []) n m
  named_steps region a n m = named_region levels a n m

module _ (s : Store) (sd : sound s ≡ true) (f : Sort) (a : ℕ) where
  names_there : (n : ℕ) → Memᴰ n (fragment_ops s f a) → Memᴰ (names n) (steps s f a)
  names_there n m = named_steps s f a n (owner_shell s f a (of_op n) (op_owned s f a m))

  pub operands_named : (n v : ℕ) → Memᴰ n (fragment_ops s f a) → Memᴰ v (op_at s n).operands → Memᴰ v (names_values s f a)
  unfolding names_values step_operands
  operands_named n v m k = in_concat_map (step_operands s) (steps s f a) (names_there n m) k

  pub successors_named : (n c : ℕ) → Memᴰ n (fragment_ops s f a) → Memᴰ c (op_at s n).successors → Memᴰ c (names_blocks s f a)
  unfolding names_blocks step_successors
  successors_named n c m k = in_concat_map (step_successors s) (steps s f a) (names_there n m) k

  -- ---- what is below

  pub op_below : (c n : ℕ) → Memᴰ c (defines_blocks s f a) → Memᴰ n (ops_of s c) → Memᴰ n (fragment_ops s f a)
  op_below c n m k = ops_of_blocks s f a (in_concat_map (ops_of s) (defines_blocks s f a) m k)

  pub block_below : (n r c : ℕ) → Memᴰ n (fragment_ops s f a) → Memᴰ r (regions_of s n) → Memᴰ c (blocks_of s r) → Memᴰ c (defines_blocks s f a)
  unfolding op_around
  block_below n r c m j k =
      let b = blocks_in_lem s r k in
      let e : get_or s.regions (block_at s c).region 0 ≡ n = ap (λ (x : ℕ). get_or s.regions x 0) b.1 ∙ (regions_in_lem s n j).1 in
      owned_block s f a (block_inside s sd f a c b.0 (rw e (op_owned s f a m)))

  pub result_below : (n v : ℕ) → Memᴰ n (fragment_ops s f a) → Memᴰ v (results_of s n) → Memᴰ v (defines_values s f a)
  unfolding defines_values results_of
  result_below n v m k = in_concat_map (values_of s) (defines_owners s f a) (op_owned s f a m) k

  pub argument_below : (c v : ℕ) → Memᴰ c (defines_blocks s f a) → Memᴰ v (arguments_of s c) → Memᴰ v (defines_values s f a)
  unfolding defines_values arguments_of
  argument_below c v m k = in_concat_map (values_of s) (defines_owners s f a) (block_owned s f a m) k

-- ---- what a fragment begins with

pub op_root : (s : Store) → sound s ≡ true → (a : ℕ) → Memᴰ a (fragment_ops s op a)
unfolding Root
op_root s sd a = owned_op s op a (roots_defined s sd op a (of_op a) refl)

pub block_root : (s : Store) → sound s ≡ true → (a : ℕ) → Memᴰ a (defines_blocks s block a)
unfolding Root
block_root s sd a = owned_block s block a (roots_defined s sd block a (of_block a) refl)

pub region_root : (s : Store) → sound s ≡ true → (a c : ℕ) → Memᴰ c (blocks_of s a) → Memᴰ c (defines_blocks s region a)
unfolding Root
region_root s sd a c m = owned_block s region a (roots_defined s sd region a (of_block c) (c, m, refl))
