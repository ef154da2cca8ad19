-- The length of a fragment's key, what its walk has numbered, and its size are its extent. Assumes nothing.
use Prim.Native.Nat.{ℕ, suc}
use native.Mathlib.Omega.{arith}
use mathlib.Core.List.{List, [], ◌∷◌, append-nil}
use mathlib.Core.Path.{◌≡◌, sym, ap, ◌∙◌}
use lib.ListN.{length}
use Rattle.std.specs.List.{flat_map}
use Rattle.rules.specs.Store.{Store, blocks_of, regions_of, values_of, max_nesting}
use Rattle.rules.specs.declared.types.Owner.TheVariants.{Op as of_op}
use Rattle.rules.specs.Fragments.{steps, step_defines, op_owner, block_owner, outermost, ops_in_blocks, ops_inside, defines_owners, defines_values, defines_blocks, fragment_ops}
use Rattle.rules.specs.declared.types.Sort.{Sort}
use Rattle.rules.specs.declared.types.Sort.TheVariants.{Op as op}
use Rattle.rules.specs.declared.types.Ignore.{Ignore}
use Rattle.rules.specs.Hash.{no_numbers}
use Rattle.rules.specs.Keys.{key}
use Rattle.rules.specs.Extents.{deepest, op_nesting, deepest_nesting, extent}
use Rattle.fragments.specs.Words.{values_numbered, blocks_numbered}
use Rattle.fragments.specs.Numbered.{values_in, blocks_in, Numbers}
use Rattle.fragments.proofs.Counting.{no_words, stands_start}
use Rattle.fragments.proofs.Lone.{two_steps}
use Rattle.keys.specs.Extents.{of_numbers}

-- ---- an operation without regions

module _ (s : Store) (ig : Ignore) (n : ℕ) (none : regions_of s n ≡ []) where
  owners_alone : defines_owners s op n ≡ of_op n ∷ []
  unfolding defines_owners step_defines
  owners_alone = ap (flat_map step_defines) (two_steps s n none)

  values_alone : length (defines_values s op n) ≡ length (values_of s (of_op n))
  unfolding defines_values
  values_alone = ap (λ ws. length (flat_map (values_of s) ws)) owners_alone ∙ ap length (append-nil (values_of s (of_op n)))

  blocks_alone : length (defines_blocks s op n) ≡ 0
  unfolding defines_blocks block_owner
  blocks_alone = ap (λ ws. length (flat_map block_owner ws)) owners_alone

  ops_alone : length (fragment_ops s op n) ≡ 1
  unfolding fragment_ops op_owner
  ops_alone = ap (λ ws. length (flat_map op_owner ws)) owners_alone

  nesting_alone : deepest_nesting s op n ≡ 0
  unfolding deepest_nesting outermost deepest op_nesting ops_inside
  nesting_alone =
      let inside : ops_inside s n ≡ [] = ap (flat_map (λ (r : ℕ). ops_in_blocks s (blocks_of s r))) none in
      let e : op_nesting max_nesting s n ≡ 0 = ap (deepest (λ (m : ℕ). suc (op_nesting 31 s m))) inside in
      omega (arith, e)

  pub extent_alone : (bytes : ℕ) → bytes ≡ length (key s ig op n) → of_numbers bytes (length (values_of s (of_op n))) 0 1 0 ≡ extent s ig op n
  unfolding extent of_numbers
  extent_alone bytes e = λ i. of_numbers (e i) (sym values_alone i) (sym blocks_alone i) (sym ops_alone i) (sym nesting_alone i)

-- ---- any other fragment

module _ (s : Store) (ig : Ignore) (f : Sort) (n : ℕ) {numbers : List ℕ} (m : Numbers s (steps s f n) no_words numbers) where
  values_walked : values_numbered numbers ≡ length (defines_values s f n)
  unfolding no_numbers values_in defines_values defines_owners
  values_walked = omega (arith, m.values, (stands_start s).value_count)

  blocks_walked : blocks_numbered numbers ≡ length (defines_blocks s f n)
  unfolding no_numbers blocks_in defines_blocks defines_owners
  blocks_walked = omega (arith, m.blocks, (stands_start s).block_count)

  pub extent_walked : {bytes operations nesting : ℕ} → bytes ≡ length (key s ig f n) → operations ≡ length (fragment_ops s f n) → nesting ≡ deepest_nesting s f n
      → of_numbers bytes (values_numbered numbers) (blocks_numbered numbers) operations nesting ≡ extent s ig f n
  unfolding extent of_numbers
  extent_walked e o d = λ i. of_numbers (e i) (values_walked i) (blocks_walked i) (o i) (d i)
