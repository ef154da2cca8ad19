-- Which steps a walk over a list of blocks takes; and that an operation whose names a walk comes to has its shell in the walk too, so that whatever
-- the steps of an operation tell of lies in the operation. Assumes nothing.
use Prim.Native.Nat.{ℕ, zero, suc}
use mathlib.Core.List.Memᴰ
use mathlib.Core.List.{List, [], ◌∷◌, ◌++◌, Memᴰ}
use mathlib.Core.Logic.{◌⊎◌, inl, inr, ⊎_elim}
use mathlib.Core.Path.{◌≡◌, refl, sym, ap, subst}
use Rattle.std.specs.List.{flat_map}
use Rattle.rules.specs.Store.{Store, ops_of, blocks_of, regions_of}
use Rattle.rules.specs.declared.types.Owner.{Owner}
use Rattle.rules.specs.declared.types.Owner.TheVariants.{Op as of_op, Block as of_block}
use Rattle.rules.specs.Fragments.{Step, shell, names, counted, full_op, shells, list_steps, region_steps, levels, steps, step_defines, defines_owners}
use Rattle.rules.specs.declared.types.Sort.{Sort}
use Rattle.rules.specs.declared.types.Sort.TheVariants.{Op as op, Block as block, Region as region}
use Rattle.rules.proofs.Basics.Distinct.{mem_concat_map}
use Rattle.rules.proofs.Copying.Renumbered.{in_concat_map}

-- ---- shells

in_shells : (w : ℕ → Owner) (xs : List ℕ) {m : ℕ} → Memᴰ m xs → Memᴰ (shell (w m)) (shells w xs)
unfolding shells
in_shells w xs k = Memᴰ.tail (Memᴰ.map (λ (n : ℕ). shell (w n)) k)

of_shells : (w : ℕ → Owner) (xs : List ℕ) (v : Owner) → Memᴰ (shell v) (shells w xs) → (n : ℕ) × Memᴰ n xs × (w n ≡ v)
unfolding shells
of_shells w xs v k =
    ⊎_elim (λ e. let z : ⊥ = cc in absurd z)
    (λ i. let j = Memᴰ.of_map (λ (n : ℕ). shell (w n)) xs i in let e : shell (w j.0) ≡ shell v = j.2 in (j.0, j.1, cc))
    (Memᴰ.cases_cons k)

-- no names
unnamed : (w : ℕ → Owner) (xs : List ℕ) (m : ℕ) → Memᴰ (names m) (shells w xs) → ⊥
unfolding shells
unnamed w xs m k =
    ⊎_elim (λ e. let z : ⊥ = cc in z)
    (λ i. let j = Memᴰ.of_map (λ (n : ℕ). shell (w n)) xs i in let e = j.2 in let z : ⊥ = cc in z) (Memᴰ.cases_cons k)

-- ---- a list of blocks

module _ (s : Store) (full : ℕ → List Step) (bs : List ℕ) where
  -- its three parts
  abbrev op_part : List Step
  op_part = flat_map (λ (b : ℕ). shells of_op (ops_of s b)) bs

  abbrev full_part : List Step
  full_part = flat_map (λ (b : ℕ). flat_map full (ops_of s b)) bs

  pub block_listed : {b : ℕ} → Memᴰ b bs → Memᴰ (shell (of_block b)) (list_steps s full bs)
  unfolding list_steps
  block_listed i = Memᴰ.append_left full_part (Memᴰ.append_left op_part (in_shells of_block bs i))

  pub op_listed : {b m : ℕ} → Memᴰ b bs → Memᴰ m (ops_of s b) → Memᴰ (shell (of_op m)) (list_steps s full bs)
  unfolding list_steps
  op_listed {b} i j =
      Memᴰ.append_left full_part
      (Memᴰ.append_right (shells of_block bs) (in_concat_map (λ (b : ℕ). shells of_op (ops_of s b)) bs i (in_shells of_op (ops_of s b) j)))

  pub full_listed : {b m : ℕ} {x : Step} → Memᴰ b bs → Memᴰ m (ops_of s b) → Memᴰ x (full m) → Memᴰ x (list_steps s full bs)
  unfolding list_steps
  full_listed {b} i j k =
      Memᴰ.append_right (shells of_block bs ++ op_part)
      (in_concat_map (λ (b : ℕ). flat_map full (ops_of s b)) bs i (in_concat_map full (ops_of s b) j k))

  -- an operation of one of its blocks, and what is listed in full of it
  abbrev pub Below : Step → Type 0
  Below x = (b : ℕ) × (o : ℕ) × Memᴰ b bs × Memᴰ o (ops_of s b) × Memᴰ x (full o)

  full_part_lem : {x : Step} → Memᴰ x full_part → Below x
  full_part_lem i =
      let b = mem_concat_map (λ (b : ℕ). flat_map full (ops_of s b)) bs i in
      let o = mem_concat_map full (ops_of s b.0) b.2 in (b.0, o.0, b.1, o.1, o.2)

  op_part_lem : {m : ℕ} → Memᴰ (shell (of_op m)) op_part → (b : ℕ) × Memᴰ b bs × Memᴰ m (ops_of s b)
  op_part_lem {m} i =
      let b = mem_concat_map (λ (b : ℕ). shells of_op (ops_of s b)) bs i in
      let j = of_shells of_op (ops_of s b.0) (of_op m) b.2 in
      let e : of_op j.0 ≡ of_op m = j.2 in
      let f : j.0 ≡ m = cc in
      (b.0, b.1, subst (λ (x : ℕ). Memᴰ x (ops_of s b.0)) f j.1)

  pub listed_op : {m : ℕ} → Memᴰ (shell (of_op m)) (list_steps s full bs) → ((b : ℕ) × Memᴰ b bs × Memᴰ m (ops_of s b)) ⊎ Below (shell (of_op m))
  unfolding list_steps
  listed_op {m} k =
      ⊎_elim
      (λ i. ⊎_elim
      (λ j. let w = of_shells of_block bs (of_op m) j in let e = w.2 in let z : ⊥ = cc in absurd z)
      (λ j. inl (op_part_lem j))
      (Memᴰ.append_cases (shells of_block bs) i))
      (λ i. inr (full_part_lem i))
      (Memᴰ.append_cases (shells of_block bs ++ op_part) k)

  listed_names : {m : ℕ} → Memᴰ (names m) (list_steps s full bs) → Below (names m)
  unfolding list_steps
  listed_names {m} k =
      ⊎_elim
      (λ i. ⊎_elim
      (λ j. absurd (unnamed of_block bs m j))
      (λ j. let b = mem_concat_map (λ (b : ℕ). shells of_op (ops_of s b)) bs j in absurd (unnamed of_op (ops_of s b.0) m b.2))
      (Memᴰ.append_cases (shells of_block bs) i))
      full_part_lem
      (Memᴰ.append_cases (shells of_block bs ++ op_part) k)

-- ---- names and shells

module _ (s : Store) where
  in_full_lem : (in_region : ℕ → List Step) (m : ℕ) → ((r : ℕ) → Memᴰ (names m) (in_region r) → Memᴰ (shell (of_op m)) (in_region r))
      → (o : ℕ) → Memᴰ (names m) (full_op s in_region o) → (m ≡ o) ⊎ Memᴰ (shell (of_op m)) (full_op s in_region o)
  unfolding full_op
  in_full_lem in_region m inner o k =
      ⊎_elim
      (λ e. let f : m ≡ o = cc in inl f)
      (λ i. let r = mem_concat_map in_region (regions_of s o) i in inr (Memᴰ.tail (in_concat_map in_region (regions_of s o) r.1 (inner r.0 r.2))))
      (Memᴰ.cases_cons k)

  in_list_lem : (in_region : ℕ → List Step) (m : ℕ) → ((r : ℕ) → Memᴰ (names m) (in_region r) → Memᴰ (shell (of_op m)) (in_region r))
      → (bs : List ℕ) → Memᴰ (names m) (list_steps s (full_op s in_region) bs)
      → Memᴰ (shell (of_op m)) (list_steps s (full_op s in_region) bs)
  in_list_lem in_region m inner bs i =
      let b = listed_names s (full_op s in_region) bs i in
      ⊎_elim
      (λ e. op_listed s (full_op s in_region) bs b.2 (subst (λ (x : ℕ). Memᴰ x (ops_of s b.0)) (sym e) b.3))
      (λ j. full_listed s (full_op s in_region) bs b.2 b.3 j)
      (in_full_lem in_region m inner b.1 b.4)

  in_region_lem : (k r m : ℕ) → Memᴰ (names m) (region_steps k s r) → Memᴰ (shell (of_op m)) (region_steps k s r)
  unfolding region_steps
  in_region_lem zero r m i = absurd (Memᴰ.not-nil i)
  in_region_lem (suc k) r m i = in_list_lem (region_steps k s) m (λ q l. in_region_lem k q m l) (blocks_of s r) i

  pub in_steps : (f : Sort) (n m : ℕ) → Memᴰ (names m) (steps s f n) → Memᴰ (shell (of_op m)) (steps s f n)
  unfolding steps
  in_steps block n m k = in_list_lem (region_steps levels s) m (λ r l. in_region_lem levels r m l) (n ∷ []) k
  in_steps region n m k = in_region_lem levels n m k
  in_steps op n m k =
      ⊎_elim (λ e. let z : ⊥ = cc in absurd z)
      (λ i. ⊎_elim (λ e. Memᴰ.head (ap (λ (x : ℕ). shell (of_op x)) e)) (λ j. Memᴰ.tail j)
      (in_full_lem (region_steps levels s) m (λ r l. in_region_lem levels r m l) n i))
      (Memᴰ.cases_cons k)

  -- ---- owners

  pub shell_defined : (f : Sort) (n : ℕ) (w : Owner) → Memᴰ (shell w) (steps s f n) → Memᴰ w (defines_owners s f n)
  unfolding defines_owners step_defines
  shell_defined f n w k = in_concat_map step_defines (steps s f n) k (Memᴰ.head refl)

  pub shell_owner : (n : ℕ) (w : Owner) → Memᴰ (shell w) (steps s op n) → Memᴰ w (defines_owners s op n)
  shell_owner n w k = shell_defined op n w k

  pub names_owner : (n m : ℕ) → Memᴰ (names m) (steps s op n) → Memᴰ (of_op m) (defines_owners s op n)
  names_owner n m k = shell_owner n (of_op m) (in_steps op n m k)

  of_step : (x : Step) (w : Owner) → Memᴰ w (step_defines x) → x ≡ shell w
  unfolding step_defines
  of_step (shell v) w k = ap shell (sym (Memᴰ.eq_of_singleton k))
  of_step (names m) w k = absurd (Memᴰ.not-nil k)
  of_step (counted m) w k = absurd (Memᴰ.not-nil k)

  pub owner_shell : (f : Sort) (n : ℕ) (w : Owner) → Memᴰ w (defines_owners s f n) → Memᴰ (shell w) (steps s f n)
  unfolding defines_owners
  owner_shell f n w k = let x = mem_concat_map step_defines (steps s f n) k in subst (λ (y : Step). Memᴰ y (steps s f n)) (of_step x.0 w x.2) x.1
