-- The operations inside a fragment, by those next inside one another: what a walk comes to under an operation, with so many regions to
-- enter, is that operation and what it comes to under those in its regions, with one region less. Assumes nothing.
use Prim.Native.Nat.{ℕ, zero, suc, ◌≤◌}
use native.Mathlib.Omega.{arith}
use mathlib.Core.List.Memᴰ
use mathlib.Core.List.{List, [], ◌∷◌, ◌++◌, append-nil, Memᴰ}
use mathlib.Core.Logic.{◌⊎◌, inl, inr, ⊎_elim}
use mathlib.Core.Path.{◌≡◌, refl, sym, subst}
use Rattle.std.specs.List.{flat_map}
use Rattle.rules.specs.Store.{Store, ops_of, blocks_of, regions_of, max_nesting}
use Rattle.rules.specs.declared.types.Owner.TheVariants.{Op as of_op, Block as of_block}
use Rattle.rules.specs.Fragments.{Step, shell, names, counted, levels, full_op, shells, list_steps, region_steps, steps, step_defines, op_owner, fragment_ops, defines_owners, ops_in_blocks, ops_inside, outermost}
use Rattle.rules.specs.declared.types.Sort.{Sort}
use Rattle.rules.specs.declared.types.Sort.TheVariants.{Op as op, Block as block, Region as region}
use Rattle.rules.proofs.Basics.Tests.{impossible}
use Rattle.rules.proofs.Basics.Distinct.{mem_concat_map}
use Rattle.rules.proofs.Form.Once.{op_owner_lem}
use Rattle.rules.proofs.Copying.Renumbered.{in_concat_map}

-- the steps come to the operation
abbrev Comes : List Step → ℕ → Type 0
Comes xs m = Memᴰ (shell (of_op m)) xs

not_of_blocks : (bs : List ℕ) (m : ℕ) → Comes (shells of_block bs) m → ⊥
unfolding shells
not_of_blocks bs m i =
    ⊎_elim
    (λ e. impossible cc)
    (λ j. let w = Memᴰ.of_map (λ (b : ℕ). shell (of_block b)) bs j in
    let e : shell (of_block w.0) ≡ shell (of_op m) = w.2 in
    impossible cc)
    (Memᴰ.cases_cons i)

of_ops : (ns : List ℕ) (m : ℕ) → Comes (shells of_op ns) m → Memᴰ m ns
unfolding shells
of_ops ns m i =
    ⊎_elim
    (λ e. impossible cc)
    (λ j. let w = Memᴰ.of_map (λ (n : ℕ). shell (of_op n)) ns j in
    let e : shell (of_op w.0) ≡ shell (of_op m) = w.2 in
    let f : m ≡ w.0 = cc in
    Memᴰ.cast f w.1)
    (Memᴰ.cases_cons i)

-- so many regions may be entered from a fragment's outermost operations
unfoldable pub height : Sort → ℕ
height op = levels
height block = levels
height region = max_nesting

pub height_enough : (f : Sort) → max_nesting ≤ height f
unfolding height
height_enough op = omega arith
height_enough block = omega arith
height_enough region = omega arith

module _ (s : Store) where
  -- it is n, or comes of its full steps
  abbrev Whole : (ℕ → List Step) → ℕ → ℕ → Type 0
  Whole full n m = Comes (shell (of_op n) ∷ full n) m

  -- ---- a list of blocks

  module _ (full : ℕ → List Step) (bs : List ℕ) where
    list_comes : (m : ℕ) → Comes (list_steps s full bs) m → (n : ℕ) × Memᴰ n (ops_in_blocks s bs) × Whole full n m
    unfolding list_steps ops_in_blocks
    list_comes m i =
        ⊎_elim
        (λ j. ⊎_elim (λ k. absurd (not_of_blocks bs m k)) as_shell (Memᴰ.append_cases (shells of_block bs) j))
        in_full
        (Memᴰ.append_cases _ i)
      where
        Found : Type 0
        Found = (n : ℕ) × Memᴰ n (flat_map (ops_of s) bs) × Whole full n m

        as_shell : Comes (flat_map (λ (b : ℕ). shells of_op (ops_of s b)) bs) m → Found
        as_shell j =
            let b = mem_concat_map (λ (c : ℕ). shells of_op (ops_of s c)) bs j in
            (m, in_concat_map (ops_of s) bs b.1 (of_ops (ops_of s b.0) m b.2), Memᴰ.head refl)

        in_full : Comes (flat_map (λ (b : ℕ). flat_map full (ops_of s b)) bs) m → Found
        in_full j =
            let b = mem_concat_map (λ (c : ℕ). flat_map full (ops_of s c)) bs j in
            let n = mem_concat_map full (ops_of s b.0) b.2 in
            (n.0, in_concat_map (ops_of s) bs b.1 n.1, Memᴰ.tail n.2)

    comes_list : (n m : ℕ) → Memᴰ n (ops_in_blocks s bs) → Whole full n m → Comes (list_steps s full bs) m
    unfolding list_steps ops_in_blocks shells
    comes_list n m i j =
        let b = mem_concat_map (ops_of s) bs i in
        ⊎_elim
        (λ e. let f : m ≡ n = cc in
        let k : Comes (shells of_op (ops_of s b.0)) m = Memᴰ.tail (Memᴰ.map (λ (x : ℕ). shell (of_op x)) (Memᴰ.cast f b.2)) in
        Memᴰ.append_left _ (Memᴰ.append_right (shells of_block bs) (in_concat_map (λ (c : ℕ). shells of_op (ops_of s c)) bs b.1 k)))
        (λ k. Memᴰ.append_right (shells of_block bs ++ flat_map (λ (c : ℕ). shells of_op (ops_of s c)) bs)
        (in_concat_map (λ (c : ℕ). flat_map full (ops_of s c)) bs b.1 (in_concat_map full (ops_of s b.0) b.2 k)))
        (Memᴰ.cases_cons j)

  -- ---- an operation, with k regions to enter, one in another

  abbrev pub At : ℕ → ℕ → ℕ → Type 0
  At k = Whole (full_op s (region_steps k s))

  pub at_self : (k n : ℕ) → At k n n
  at_self k n = Memᴰ.head refl

  pub at_inside : (k n p m : ℕ) → Memᴰ p (ops_inside s n) → At k p m → At (suc k) n m
  unfolding full_op region_steps ops_inside
  at_inside k n p m i j =
      let r = mem_concat_map (λ (q : ℕ). ops_in_blocks s (blocks_of s q)) (regions_of s n) i in
      Memᴰ.tail (Memᴰ.tail (in_concat_map (region_steps (suc k) s) (regions_of s n) r.1
      (comes_list (full_op s (region_steps k s)) (blocks_of s r.0) p m r.2 j)))

  -- it is the operation itself, or under one next inside
  abbrev Under : ℕ → ℕ → ℕ → Type 0
  Under zero n m = m ≡ n
  Under (suc k) n m = (m ≡ n) ⊎ ((p : ℕ) × Memᴰ p (ops_inside s n) × At k p m)

  pub at_under : (k n m : ℕ) → At k n m → Under k n m
  unfolding full_op region_steps ops_inside
  at_under k n m i =
      ⊎_elim (λ e. itself k cc) (λ j. ⊎_elim (λ e. impossible cc) (inner k) (Memᴰ.cases_cons j)) (Memᴰ.cases_cons i)
    where
      itself : (j : ℕ) → m ≡ n → Under j n m
      itself zero e = e
      itself (suc j) e = inl e

      inner : (j : ℕ) → Comes (flat_map (region_steps j s) (regions_of s n)) m → Under j n m
      inner zero h = let r = mem_concat_map (region_steps zero s) (regions_of s n) h in absurd (Memᴰ.not-nil r.2)
      inner (suc j) h =
          let r = mem_concat_map (region_steps (suc j) s) (regions_of s n) h in
          let p = list_comes (full_op s (region_steps j s)) (blocks_of s r.0) m r.2 in
          inr (p.0, in_concat_map (λ (q : ℕ). ops_in_blocks s (blocks_of s q)) (regions_of s n) r.1 p.1, p.2)

  -- ---- a fragment

  defined_by : (x : Step) (m : ℕ) → Memᴰ (of_op m) (step_defines x) → x ≡ shell (of_op m)
  unfolding step_defines
  defined_by (shell w) m k = let e : of_op m ≡ w = Memᴰ.eq_of_singleton k in cc
  defined_by (names n) m k = absurd (Memᴰ.not-nil k)
  defined_by (counted n) m k = absurd (Memᴰ.not-nil k)

  from_steps : (f : Sort) (a m : ℕ) → Memᴰ m (fragment_ops s f a) → Comes (steps s f a) m
  unfolding fragment_ops defines_owners
  from_steps f a m i =
      let w = mem_concat_map op_owner (flat_map step_defines (steps s f a)) i in
      let x = mem_concat_map step_defines (steps s f a) w.1 in
      Memᴰ.cast (sym (defined_by x.0 m (Memᴰ.cast (sym (op_owner_lem w.0 m w.2)) x.2))) x.1

  of_steps : (f : Sort) (a m : ℕ) → Comes (steps s f a) m → Memᴰ m (fragment_ops s f a)
  unfolding fragment_ops defines_owners step_defines op_owner
  of_steps f a m i =
      let w : Memᴰ (of_op m) (flat_map step_defines (steps s f a)) = in_concat_map step_defines (steps s f a) i (Memᴰ.head refl) in
      in_concat_map op_owner (flat_map step_defines (steps s f a)) w (Memᴰ.head refl)

  one_block : (a : ℕ) → ops_in_blocks s (a ∷ []) ≡ ops_of s a
  unfolding ops_in_blocks
  one_block a = append-nil (ops_of s a)

  pub fragment_at : (f : Sort) (a m : ℕ) → Memᴰ m (fragment_ops s f a) → (p : ℕ) × Memᴰ p (outermost s f a) × At (height f) p m
  unfolding steps region_steps outermost height
  fragment_at op a m i = (a, Memᴰ.head refl, from_steps op a m i)
  fragment_at block a m i =
      let p = list_comes (full_op s (region_steps levels s)) (a ∷ []) m (from_steps block a m i) in
      (p.0, subst (Memᴰ p.0) (one_block a) p.1, p.2)
  fragment_at region a m i = list_comes (full_op s (region_steps max_nesting s)) (blocks_of s a) m (from_steps region a m i)

  pub at_fragment : (f : Sort) (a p m : ℕ) → Memᴰ p (outermost s f a) → At (height f) p m → Memᴰ m (fragment_ops s f a)
  unfolding steps region_steps outermost height
  at_fragment op a p m i j = of_steps op a m (subst (λ (q : ℕ). At levels q m) (Memᴰ.eq_of_singleton i) j)
  at_fragment block a p m i j =
      of_steps block a m (comes_list (full_op s (region_steps levels s)) (a ∷ []) p m (subst (Memᴰ p) (sym (one_block a)) i) j)
  at_fragment region a p m i j = of_steps region a m (comes_list (full_op s (region_steps max_nesting s)) (blocks_of s a) p m i j)
