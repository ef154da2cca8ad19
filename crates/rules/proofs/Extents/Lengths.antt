-- How long a key is doesn't depend on types: every type takes 4 bytes, a shell's attributes and location are the same under every list of
-- renamed types, and the numbers that names get don't depend on types. Assumes nothing.
use Prim.Native.Nat.{ℕ}
use native.Mathlib.Omega.{arith}
use mathlib.Core.List.{List, [], ◌∷◌}
use mathlib.Core.Path.{◌≡◌, refl, ap, ◌∙◌}
use lib.ListN.{length, length-append, length-map}
use Rattle.rules.specs.Store.{Store, op_at, regions_of}
use Rattle.rules.specs.declared.types.Owner.{Owner}
use Rattle.rules.specs.declared.types.Owner.TheVariants.{Op as of_op, Block as of_block}
use Rattle.rules.specs.Fragments.{Step, shell, names, counted, steps}
use Rattle.rules.specs.declared.types.Sort.{Sort}
use Rattle.rules.specs.Shells.{Shell, shell_of}
use Rattle.rules.specs.declared.types.Ignore.{Ignore}
use Rattle.rules.specs.Hash.{count, shell_bytes, head_bytes, Numbering, no_numbers, numbered, feeds, all_bytes}
use Rattle.rules.specs.Types.{present, renamed}
use Rattle.rules.specs.Keys.{key}
use Rattle.rules.proofs.RenamedTypes.Renamed.{shell_renamed, shell_renamed_lem, steps_renamed, numbered_renamed}
use Rattle.rules.proofs.Keys.Longest.{shell_length}

module _ (types : List ℕ) where
  -- a shell, with present types
  shell_same : (sh : Shell) → length (shell_bytes count (shell_renamed types sh)) ≡ length (shell_bytes count sh)
  unfolding shell_renamed
  shell_same sh = omega (arith, shell_length sh, shell_length (shell_renamed types sh), length-map sh.types (present types))

  module _ (s : Store) (ig : Ignore) where
    head_same : (w : Owner) → head_bytes (renamed types s) w ≡ head_bytes s w
    unfolding head_bytes renamed op_at regions_of
    head_same (of_op n) = refl
    head_same (of_block b) = refl

    -- a step
    pub step_length_renamed : (x : Step) (N : Numbering) → length (feeds count (renamed types s) ig x N) ≡ length (feeds count s ig x N)
    unfolding feeds renamed op_at
    step_length_renamed (shell w) N =
        let sh = shell_of s ig w in
        omega (
          arith,
          length-append (head_bytes (renamed types s) w) (shell_bytes count (shell_of (renamed types s) ig w)),
          length-append (head_bytes s w) (shell_bytes count sh),
          ap length (head_same w),
          ap (λ (x : Shell). length (shell_bytes count x)) (shell_renamed_lem types s ig w),
          shell_same sh,
        )
    step_length_renamed (names n) N = refl
    step_length_renamed (counted k) N = refl

    -- the steps of a walk
    pub steps_length_renamed : (xs : List Step) (N : Numbering)
        → length (all_bytes count (renamed types s) ig xs N) ≡ length (all_bytes count s ig xs N)
    unfolding all_bytes
    steps_length_renamed [] N = refl
    steps_length_renamed (x ∷ xs) N =
        omega (
          arith,
          length-append (feeds count (renamed types s) ig x N) (all_bytes count (renamed types s) ig xs (numbered (renamed types s) x N)),
          length-append (feeds count s ig x N) (all_bytes count s ig xs (numbered s x N)),
          step_length_renamed x N,
          ap (λ (M : Numbering). length (all_bytes count (renamed types s) ig xs M)) (numbered_renamed types s x N),
          steps_length_renamed xs (numbered s x N),
        )

    pub key_length_renamed : (f : Sort) (n : ℕ) → length (key (renamed types s) ig f n) ≡ length (key s ig f n)
    unfolding key
    key_length_renamed f n =
        ap (λ (xs : List Step). length (all_bytes count (renamed types s) ig xs no_numbers)) (steps_renamed types s f n)
        ∙ steps_length_renamed (steps s f n) no_numbers
