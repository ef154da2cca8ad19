-- A walk has no more than 1,280 steps that tell of something: one for each shell, and in every list as many operations in full as there are shells of operations. Assumes nothing.
use Rattle.std.proofs.Common.{◌≡◌, ℕ, zero, suc, ◌+◌, ◌≤◌, List, [], ◌∷◌, ◌++◌, true, map, length, refl, ap, arith}
use Rattle.std.specs.List.{flat_map}
use Rattle.rules.specs.Store.{Store, ops_of, blocks_of, regions_of, sound, op_exists, max_ops, max_blocks}
use Rattle.rules.specs.declared.types.Owner.TheVariants.{Op as of_op, Block as of_block}
use Rattle.rules.specs.Fragments.{Step, shell, names, counted, full_op, shells, list_steps, region_steps, levels, steps, step_defines, op_owner, block_owner, defines_owners, defines_blocks, exists}
use Rattle.rules.specs.declared.types.Sort.TheVariants.{Op as op}
use Rattle.rules.proofs.Soundness.Sound.{facts}
use Rattle.rules.proofs.Form.Once.{owners_once, owners_here}
use Rattle.rules.proofs.Form.Counted.{ops_most, blocks_most}
use Rattle.copying.specs.Steps.{step_listed, steps_listed, most_steps}

-- how many steps are an operation's names, and how many the shell of an operation
opened : List Step → ℕ
opened [] = 0
opened (shell w ∷ xs) = opened xs
opened (names n ∷ xs) = suc (opened xs)
opened (counted k ∷ xs) = opened xs

op_shells : List Step → ℕ
op_shells [] = 0
op_shells (shell (of_op n) ∷ xs) = suc (op_shells xs)
op_shells (shell (of_block b) ∷ xs) = op_shells xs
op_shells (names n ∷ xs) = op_shells xs
op_shells (counted k ∷ xs) = op_shells xs

opened_append : (xs ys : List Step) → opened (xs ++ ys) ≡ opened xs + opened ys
unfolding opened
opened_append [] ys = omega arith
opened_append (shell w ∷ xs) ys = opened_append xs ys
opened_append (names n ∷ xs) ys = omega (arith, opened_append xs ys)
opened_append (counted k ∷ xs) ys = opened_append xs ys

shells_append : (xs ys : List Step) → op_shells (xs ++ ys) ≡ op_shells xs + op_shells ys
unfolding op_shells
shells_append [] ys = omega arith
shells_append (shell (of_op n) ∷ xs) ys = omega (arith, shells_append xs ys)
shells_append (shell (of_block b) ∷ xs) ys = shells_append xs ys
shells_append (names n ∷ xs) ys = shells_append xs ys
shells_append (counted k ∷ xs) ys = shells_append xs ys

-- one for each
steps_counted : (xs : List Step) → length (steps_listed xs) ≡ opened xs + op_shells xs + length (flat_map block_owner (flat_map step_defines xs))
unfolding opened op_shells steps_listed step_listed step_defines block_owner
steps_counted [] = refl
steps_counted (shell (of_op n) ∷ xs) = omega (arith, steps_counted xs)
steps_counted (shell (of_block b) ∷ xs) = omega (arith, steps_counted xs)
steps_counted (names n ∷ xs) = omega (arith, steps_counted xs)
steps_counted (counted k ∷ xs) = steps_counted xs

shells_counted : (xs : List Step) → op_shells xs ≡ length (flat_map op_owner (flat_map step_defines xs))
unfolding op_shells step_defines op_owner
shells_counted [] = refl
shells_counted (shell (of_op n) ∷ xs) = ap suc (shells_counted xs)
shells_counted (shell (of_block b) ∷ xs) = shells_counted xs
shells_counted (names n ∷ xs) = shells_counted xs
shells_counted (counted k ∷ xs) = shells_counted xs

-- ---- lists of shells

of_ops : (ns : List ℕ) → (opened (map (λ (n : ℕ). shell (of_op n)) ns) ≡ 0) × (op_shells (map (λ (n : ℕ). shell (of_op n)) ns) ≡ length ns)
unfolding opened op_shells
of_ops [] = (refl, refl)
of_ops (n ∷ ns) = let h = of_ops ns in (h.0, ap suc h.1)

of_blocks : (bs : List ℕ) → (opened (map (λ (b : ℕ). shell (of_block b)) bs) ≡ 0) × (op_shells (map (λ (b : ℕ). shell (of_block b)) bs) ≡ 0)
unfolding opened op_shells
of_blocks [] = (refl, refl)
of_blocks (b ∷ bs) = of_blocks bs

-- ---- the walk

-- as many are opened as have a shell
abbrev Even : List Step → Type 0
Even xs = opened xs ≡ op_shells xs

module _ (s : Store) where
  regions_even : (f : ℕ → List Step) → ((r : ℕ) → Even (f r)) → (rs : List ℕ) → Even (flat_map f rs)
  unfolding opened op_shells
  regions_even f h [] = refl
  regions_even f h (r ∷ rs) =
      let e = h r in
      let rest = regions_even f h rs in
      omega (arith, opened_append (f r) (flat_map f rs), shells_append (f r) (flat_map f rs))

  -- an operation in full opens one more
  full_one : (f : ℕ → List Step) → ((r : ℕ) → Even (f r)) → (n : ℕ) → opened (full_op s f n) ≡ suc (op_shells (full_op s f n))
  unfolding full_op opened op_shells
  full_one f h n = ap suc (regions_even f h (regions_of s n))

  module _ (full : ℕ → List Step) (h : (n : ℕ) → opened (full n) ≡ suc (op_shells (full n))) where
    fulls : (ns : List ℕ) → opened (flat_map full ns) ≡ length ns + op_shells (flat_map full ns)
    unfolding opened op_shells
    fulls [] = refl
    fulls (n ∷ ns) =
        let e = h n in
        let rest = fulls ns in
        omega (arith, opened_append (full n) (flat_map full ns), shells_append (full n) (flat_map full ns))

    -- the second and the third pass
    second : List ℕ → List Step
    second bs = flat_map (λ (b : ℕ). shells of_op (ops_of s b)) bs

    third : List ℕ → List Step
    third bs = flat_map (λ (b : ℕ). flat_map full (ops_of s b)) bs

    passes_even : (bs : List ℕ) → opened (second bs) + opened (third bs) ≡ op_shells (second bs) + op_shells (third bs)
    unfolding second third opened op_shells shells
    passes_even [] = refl
    passes_even (b ∷ bs) =
        let rest = passes_even bs in
        let ns = ops_of s b in
        let o = of_ops ns in
        let f = fulls ns in
        omega (
          arith,
          opened_append (map (λ (n : ℕ). shell (of_op n)) ns) (second bs),
          shells_append (map (λ (n : ℕ). shell (of_op n)) ns) (second bs),
          opened_append (flat_map full ns) (third bs),
          shells_append (flat_map full ns) (third bs),
          o.0,
          o.1,
          f,
          rest,
        )

    list_even : (bs : List ℕ) → Even (list_steps s full bs)
    unfolding list_steps shells second third opened op_shells
    list_even bs =
        let first = map (λ (m : ℕ). shell (of_block m)) bs in
        let p = passes_even bs in
        let b = of_blocks bs in
        let even : opened ((first ++ second bs) ++ third bs) ≡ op_shells ((first ++ second bs) ++ third bs)
        = omega (
          arith,
          opened_append (first ++ second bs) (third bs),
          shells_append (first ++ second bs) (third bs),
          opened_append first (second bs),
          shells_append first (second bs),
          b.0,
          b.1,
          p,
        ) in
        even

  region_even : (k r : ℕ) → Even (region_steps k s r)
  unfolding region_steps opened op_shells
  region_even zero r = refl
  region_even (suc k) r = list_even (full_op s (region_steps k s)) (full_one (region_steps k s) (region_even k)) (blocks_of s r)

  walk_even : (n : ℕ) → Even (steps s op n)
  unfolding steps opened op_shells
  walk_even n = full_one (region_steps levels s) (region_even levels) n

  pub few_steps : sound s ≡ true → (n : ℕ) → op_exists s n ≡ true → length (steps_listed (steps s op n)) ≤ most_steps
  unfolding defines_owners defines_blocks exists
  few_steps sd n e =
      let so = facts s sd in
      let ws = defines_owners s op n in
      let o : length (flat_map op_owner ws) ≤ max_ops = ops_most s sd ws (owners_once s so op n e) (owners_here s so op n e) in
      let b : length (defines_blocks s op n) ≤ max_blocks = blocks_most s sd op n e in
      omega (arith, steps_counted (steps s op n), shells_counted (steps s op n), walk_even n)
