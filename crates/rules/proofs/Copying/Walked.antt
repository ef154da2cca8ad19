-- What a walk over an operation comes to, by parents: its blocks are those of the regions that it enters, one after the other, its operations those
-- of its blocks; and what is next around a thing comes before it. Assumes nothing.
use Rattle.std.specs.Prelude.{option_map, Some}
use Prim.Native.Nat.{ℕ, zero, suc}
use mathlib.Core.List.Memᴰ
use mathlib.Core.List.{List, [], ◌∷◌, ◌++◌, map, append-nil, Memᴰ}
use mathlib.Core.Logic.{◌⊎◌, inl, inr, ⊎_elim}
use mathlib.Core.Path.{◌≡◌, refl, sym, ap, ap₂, subst, ◌∙◌}
use lib.ListN.{length, get_or}
use Rattle.std.proofs.lemmas.List.{map-append}
use Rattle.std.specs.List.{flat_map}
use Rattle.rules.specs.Store.{Store, ops_of, blocks_of, regions_of, op_around}
use Rattle.rules.specs.declared.types.Owner.{Owner}
use Rattle.rules.specs.declared.types.Owner.TheVariants.{Op as of_op, Block as of_block}
use Rattle.rules.specs.Fragments.{Step, shell, names, counted, full_op, shells, list_steps, region_steps, levels, steps, step_defines, op_owner, block_owner, defines_owners, defines_blocks, fragment_ops}
use Rattle.rules.specs.declared.types.Sort.{Sort}
use Rattle.rules.specs.declared.types.Sort.TheVariants.{Block as block, Region as region, Op as op}
use Rattle.rules.proofs.Basics.Distinct.{mem_concat_map, concat_map_append, concat_map_concat_map, concat_map_same}
use Rattle.rules.proofs.Soundness.Children.{ops_in_lem, blocks_in_lem, regions_in_lem}
use Rattle.rules.proofs.Form.Ancestors.{up}
use Rattle.rules.proofs.Copying.Renumbered.{Before, here, there, in_concat_map, before_left, before_right, before_across, before_within}

-- ---- lists of lists

pub concat_map_map : {A B C : Type 0} (f : B → List C) (g : A → B) (xs : List A) → flat_map f (map g xs) ≡ flat_map (λ (x : A). f (g x)) xs
concat_map_map f g [] = refl
concat_map_map f g (x ∷ xs) = ap (λ (l : List _). f (g x) ++ l) (concat_map_map f g xs)

pub map_concat_map : {A B C : Type 0} (f : B → C) (g : A → List B) (xs : List A) → map f (flat_map g xs) ≡ flat_map (λ (x : A). map f (g x)) xs
map_concat_map f g [] = refl
map_concat_map f g (x ∷ xs) = map-append f (g x) (flat_map g xs) ∙ ap (λ (l : List _). map f (g x) ++ l) (map_concat_map f g xs)

concat_map_none : {A B : Type 0} (f : A → List B) (xs : List A) → ((x : A) → f x ≡ []) → flat_map f xs ≡ []
concat_map_none f [] h = refl
concat_map_none f (x ∷ xs) h = ap₂ ◌++◌ (h x) (concat_map_none f xs h)

concat_map_one : (xs : List ℕ) → flat_map (λ (x : ℕ). x ∷ []) xs ≡ xs
concat_map_one [] = refl
concat_map_one (x ∷ xs) = ap (λ (l : List ℕ). x ∷ l) (concat_map_one xs)

-- what is listed by h from what F lists, entry by entry, is so of the whole
through : {A B C : Type 0} (h : B → List C) (F : A → List B) (G : A → List C) (xs : List A) → ((x : A) → G x ≡ flat_map h (F x)) → flat_map G xs ≡ flat_map h (flat_map F xs)
through h F G xs same = concat_map_same G _ xs (λ x m. same x) ∙ sym (concat_map_concat_map h F xs)

-- ---- a list of blocks, in three parts

unfoldable pub step_ops : Step → List ℕ
step_ops x = flat_map op_owner (step_defines x)

unfoldable pub step_blocks : Step → List ℕ
step_blocks x = flat_map block_owner (step_defines x)

no_ops : (m : ℕ) → step_ops (names m) ≡ []
unfolding step_ops step_defines
no_ops m = refl

no_blocks : (m : ℕ) → step_blocks (names m) ≡ []
unfolding step_blocks step_defines
no_blocks m = refl

module _ (s : Store) where
  module _ {A : Type 0} (f : Step → List A) (uncounted : (k : ℕ) → f (counted k) ≡ []) where
    of_shells : (w : ℕ → Owner) (xs : List ℕ) → flat_map f (shells w xs) ≡ flat_map (λ (n : ℕ). f (shell (w n))) xs
    unfolding shells
    of_shells w xs = ap₂ ◌++◌ (uncounted (length xs)) (concat_map_map f (λ (n : ℕ). shell (w n)) xs)

    pub parts : (full : ℕ → List Step) (bs : List ℕ)
        → flat_map f (list_steps s full bs)
        ≡ flat_map (λ (b : ℕ). f (shell (of_block b))) bs
        ++ flat_map (λ (b : ℕ). flat_map (λ (m : ℕ). f (shell (of_op m))) (ops_of s b)) bs
        ++ flat_map (λ (b : ℕ). flat_map (λ (m : ℕ). flat_map f (full m)) (ops_of s b)) bs
    unfolding list_steps
    parts full bs =
        concat_map_append f (shells of_block bs ++ flat_map (λ (b : ℕ). shells of_op (ops_of s b)) bs) (flat_map (λ (b : ℕ). flat_map full (ops_of s b)) bs)
        ∙ ap₂ ◌++◌
        (concat_map_append f (shells of_block bs) (flat_map (λ (b : ℕ). shells of_op (ops_of s b)) bs)
        ∙ ap₂ ◌++◌ (of_shells of_block bs)
        (concat_map_concat_map f (λ (b : ℕ). shells of_op (ops_of s b)) bs ∙ concat_map_same _ _ bs (λ b m. of_shells of_op (ops_of s b))))
        (concat_map_concat_map f (λ (b : ℕ). flat_map full (ops_of s b)) bs ∙ concat_map_same _ _ bs (λ b m. concat_map_concat_map f full (ops_of s b)))

  blocks_parts : (full : ℕ → List Step) (bs : List ℕ)
      → flat_map step_blocks (list_steps s full bs) ≡ bs ++ flat_map (λ (b : ℕ). flat_map (λ (m : ℕ). flat_map step_blocks (full m)) (ops_of s b)) bs
  unfolding step_blocks step_defines block_owner
  blocks_parts full bs =
      parts step_blocks (λ k. refl) full bs
      ∙ ap (λ (l : List ℕ). l ++ flat_map (λ (b : ℕ). flat_map (λ (m : ℕ). flat_map step_blocks (full m)) (ops_of s b)) bs)
      (ap₂ ◌++◌ (concat_map_one bs) (concat_map_none _ bs (λ b. concat_map_none _ (ops_of s b) (λ m. refl))) ∙ append-nil bs)

  ops_parts : (full : ℕ → List Step) (bs : List ℕ)
      → flat_map step_ops (list_steps s full bs) ≡ flat_map (ops_of s) bs ++ flat_map (λ (b : ℕ). flat_map (λ (m : ℕ). flat_map step_ops (full m)) (ops_of s b)) bs
  unfolding step_ops step_defines op_owner
  ops_parts full bs =
      parts step_ops (λ k. refl) full bs
      ∙ ap (λ (l : List ℕ). l ++ flat_map (λ (b : ℕ). flat_map (λ (m : ℕ). flat_map step_ops (full m)) (ops_of s b)) bs)
      (ap₂ ◌++◌ (concat_map_none _ bs (λ b. refl)) (concat_map_same _ _ bs (λ b m. concat_map_one (ops_of s b))))

  -- ---- regions, in the order in which they are entered, of k that may be entered one in another

  unfoldable pub regions_in : ℕ → ℕ → List ℕ
  regions_in zero r = []
  regions_in (suc k) r = r ∷ flat_map (λ (b : ℕ). flat_map (λ (m : ℕ). flat_map (regions_in k) (regions_of s m)) (ops_of s b)) (blocks_of s r)

  unfoldable pub walked_regions : ℕ → List ℕ
  walked_regions n = flat_map (regions_in levels) (regions_of s n)

  -- what full operations list of their regions
  module _ {A B : Type 0} (h : A → List B) (f : Step → List B) (unnamed : (m : ℕ) → f (names m) ≡ []) where
    of_full : (in_region : ℕ → List Step) (F : ℕ → List A) → ((r : ℕ) → flat_map f (in_region r) ≡ flat_map h (F r))
        → (m : ℕ) → flat_map f (full_op s in_region m) ≡ flat_map h (flat_map F (regions_of s m))
    unfolding full_op
    of_full in_region F same m =
        ap₂ ◌++◌ (unnamed m) (concat_map_concat_map f in_region (regions_of s m)) ∙ through h F (λ (r : ℕ). flat_map f (in_region r)) (regions_of s m) same

  blocks_of_regions : (k r : ℕ) → flat_map step_blocks (region_steps k s r) ≡ flat_map (blocks_of s) (regions_in k r)
  unfolding region_steps regions_in
  blocks_of_regions zero r = refl
  blocks_of_regions (suc k) r =
      blocks_parts (full_op s (region_steps k s)) (blocks_of s r)
      ∙ ap (λ (l : List ℕ). blocks_of s r ++ l)
      (through (blocks_of s) _ _ (blocks_of s r) (λ b. through (blocks_of s) _ _ (ops_of s b) (of_full (blocks_of s) step_blocks no_blocks (region_steps k s) (regions_in k) (blocks_of_regions k))))

  -- ---- operations of blocks

  ops_of_full : (in_region : ℕ → List Step) → ((r : ℕ) → flat_map step_ops (in_region r) ≡ flat_map (ops_of s) (flat_map step_blocks (in_region r)))
      → (m : ℕ) → flat_map step_ops (full_op s in_region m) ≡ flat_map (ops_of s) (flat_map step_blocks (full_op s in_region m))
  unfolding full_op
  ops_of_full in_region same m =
      of_full (ops_of s) step_ops no_ops in_region (λ (r : ℕ). flat_map step_blocks (in_region r)) same m
      ∙ ap (flat_map (ops_of s)) (sym (ap₂ ◌++◌ (no_blocks m) (concat_map_concat_map step_blocks in_region (regions_of s m))))

  ops_of_list : (in_region : ℕ → List Step) → ((r : ℕ) → flat_map step_ops (in_region r) ≡ flat_map (ops_of s) (flat_map step_blocks (in_region r)))
      → (bs : List ℕ) → flat_map step_ops (list_steps s (full_op s in_region) bs) ≡ flat_map (ops_of s) (flat_map step_blocks (list_steps s (full_op s in_region) bs))
  ops_of_list in_region same bs =
      ops_parts (full_op s in_region) bs
      ∙ ap (λ (l : List ℕ). flat_map (ops_of s) bs ++ l) (through (ops_of s) _ _ bs (λ b. through (ops_of s) _ _ (ops_of s b) (ops_of_full in_region same)))
      ∙ sym (concat_map_append (ops_of s) bs _)
      ∙ sym (ap (flat_map (ops_of s)) (blocks_parts (full_op s in_region) bs))

  ops_of_blocks_lem : (k r : ℕ) → flat_map step_ops (region_steps k s r) ≡ flat_map (ops_of s) (flat_map step_blocks (region_steps k s r))
  unfolding region_steps
  ops_of_blocks_lem zero r = refl
  ops_of_blocks_lem (suc k) r = ops_of_list (region_steps k s) (ops_of_blocks_lem k) (blocks_of s r)

  -- ---- of the whole operation

  pub blocks_by_region : (n : ℕ) → defines_blocks s op n ≡ flat_map (blocks_of s) (walked_regions n)
  unfolding defines_blocks defines_owners steps step_defines block_owner walked_regions step_blocks
  blocks_by_region n =
      concat_map_concat_map block_owner step_defines (steps s op n)
      ∙ of_full (blocks_of s) step_blocks no_blocks (region_steps levels s) (regions_in levels) (blocks_of_regions levels) n

  pub ops_by_block : (n : ℕ) → fragment_ops s op n ≡ n ∷ flat_map (ops_of s) (defines_blocks s op n)
  unfolding defines_blocks fragment_ops defines_owners steps step_defines op_owner block_owner step_blocks step_ops
  ops_by_block n =
      concat_map_concat_map op_owner step_defines (steps s op n)
      ∙ ap (λ (l : List ℕ). n ∷ l)
      (ops_of_full (region_steps levels s) (ops_of_blocks_lem levels) n
      ∙ ap (flat_map (ops_of s)) (sym (concat_map_concat_map block_owner step_defines (steps s op n))))

  -- of any fragment
  pub ops_of_blocks : (f : Sort) (n : ℕ) {m : ℕ} → Memᴰ m (flat_map (ops_of s) (defines_blocks s f n)) → Memᴰ m (fragment_ops s f n)
  unfolding defines_blocks fragment_ops defines_owners steps step_blocks step_ops
  ops_of_blocks op n {m} k = subst (Memᴰ m) (sym (ops_by_block n)) (Memᴰ.tail k)
  ops_of_blocks block n {m} k =
      subst (Memᴰ m)
      (ap (flat_map (ops_of s)) (concat_map_concat_map block_owner step_defines (steps s block n))
      ∙ sym (ops_of_list (region_steps levels s) (ops_of_blocks_lem levels) (n ∷ []))
      ∙ sym (concat_map_concat_map op_owner step_defines (steps s block n)))
      k
  ops_of_blocks region n {m} k =
      subst (Memᴰ m)
      (ap (flat_map (ops_of s)) (concat_map_concat_map block_owner step_defines (steps s region n))
      ∙ sym (ops_of_blocks_lem levels n)
      ∙ sym (concat_map_concat_map op_owner step_defines (steps s region n)))
      k

  -- ---- what is next around a thing comes before it

  unfoldable in_region : ℕ → ℕ → List Owner
  in_region k r = flat_map step_defines (region_steps k s r)

  unfoldable in_full : ℕ → ℕ → List Owner
  in_full k m = flat_map (in_region k) (regions_of s m)

  -- a region's blocks, their operations, and what is inside those
  unfoldable blocks_part : ℕ → List Owner
  blocks_part r = flat_map (λ (b : ℕ). of_block b ∷ []) (blocks_of s r)

  unfoldable ops_part : ℕ → List Owner
  ops_part r = flat_map (λ (b : ℕ). flat_map (λ (m : ℕ). of_op m ∷ []) (ops_of s b)) (blocks_of s r)

  unfoldable inside_part : ℕ → ℕ → List Owner
  inside_part k r = flat_map (λ (b : ℕ). flat_map (in_full k) (ops_of s b)) (blocks_of s r)

  full_owners : (k m : ℕ) → flat_map step_defines (full_op s (region_steps k s) m) ≡ in_full k m
  unfolding full_op step_defines in_full in_region
  full_owners k m = concat_map_concat_map step_defines (region_steps k s) (regions_of s m)

  region_parts : (k r : ℕ) → in_region (suc k) r ≡ blocks_part r ++ ops_part r ++ inside_part k r
  unfolding in_region region_steps step_defines blocks_part ops_part inside_part
  region_parts k r =
      parts step_defines (λ j. refl) (full_op s (region_steps k s)) (blocks_of s r)
      ∙ ap (λ (l : List Owner). blocks_part r ++ ops_part r ++ l) (concat_map_same _ _ (blocks_of s r) (λ b mb. concat_map_same _ _ (ops_of s b) (λ m mm. full_owners k m)))

  -- the operation of a region
  abbrev region_op : ℕ → Owner
  region_op r = of_op (get_or s.regions r 0)

  block_around : (r : ℕ) (w : Owner) → Memᴰ w (blocks_part r) → up s w ≡ Some (region_op r)
  unfolding blocks_part up op_around
  block_around r w m =
      let i = mem_concat_map (λ (b : ℕ). of_block b ∷ []) (blocks_of s r) m in
      ap (up s) (Memᴰ.eq_of_singleton i.2) ∙ ap (λ (q : ℕ). Some (region_op q)) (blocks_in_lem s r i.1).1

  op_around_lem : (r : ℕ) (w : Owner) → Memᴰ w (ops_part r) → (p : Owner) × (up s w ≡ Some p) × Memᴰ p (blocks_part r)
  unfolding blocks_part ops_part up
  op_around_lem r w m =
      let i = mem_concat_map (λ (b : ℕ). flat_map (λ (m : ℕ). of_op m ∷ []) (ops_of s b)) (blocks_of s r) m in
      let j = mem_concat_map (λ (m : ℕ). of_op m ∷ []) (ops_of s i.0) i.2 in (
        of_block i.0,
        ap (up s) (Memᴰ.eq_of_singleton j.2) ∙ ap (option_map of_block) (ops_in_lem s i.0 j.1).1,
        in_concat_map (λ (b : ℕ). of_block b ∷ []) (blocks_of s r) i.1 (Memᴰ.head refl),
      )

  -- in a region of an operation
  in_full_lem : (k m : ℕ) (w : Owner) → Memᴰ w (in_full k m) → (q : ℕ) × (region_op q ≡ of_op m) × Memᴰ w (in_region k q) × ((p : Owner) → Before p w (in_region k q) → Before p w (in_full k m))
  unfolding in_full
  in_full_lem k m w i =
      let j = mem_concat_map (in_region k) (regions_of s m) i in
      (j.0, ap of_op (regions_in_lem s m j.1).1, j.2, λ p h. before_within (in_region k) j.1 h)

  in_inside : (k r : ℕ) (w : Owner) → Memᴰ w (inside_part k r)
      → (m : ℕ) × Memᴰ (of_op m) (ops_part r) × Memᴰ w (in_full k m) × ((p : Owner) → Before p w (in_full k m) → Before p w (inside_part k r))
  unfolding inside_part ops_part
  in_inside k r w i =
      let j = mem_concat_map (λ (b : ℕ). flat_map (in_full k) (ops_of s b)) (blocks_of s r) i in
      let l = mem_concat_map (in_full k) (ops_of s j.0) j.2 in (
        l.0,
        in_concat_map (λ (b : ℕ). flat_map (λ (m : ℕ). of_op m ∷ []) (ops_of s b)) (blocks_of s r) j.1 (in_concat_map (λ (m : ℕ). of_op m ∷ []) (ops_of s j.0) l.1 (Memᴰ.head refl)),
        l.2,
        λ p h. before_within (λ (b : ℕ). flat_map (in_full k) (ops_of s b)) j.1 (before_within (in_full k) l.1 h),
      )

  -- what is next around it is the region's own operation, or comes before it
  abbrev AroundFirst : ℕ → ℕ → Owner → Type 0
  AroundFirst k r w = (up s w ≡ Some (region_op r)) ⊎ ((p : Owner) × (up s w ≡ Some p) × Before p w (in_region k r))

  around_first : (k r : ℕ) (w : Owner) → Memᴰ w (in_region k r) → AroundFirst k r w
  unfolding in_region region_steps
  around_first zero r w m = absurd (Memᴰ.not-nil m)
  around_first (suc k) r w m = whole (around_first k) (Memᴰ.append_cases (blocks_part r ++ ops_part r) (subst (Memᴰ w) (region_parts k r) m))
    where
      comes : (p : Owner) → up s w ≡ Some p → Before p w (blocks_part r ++ ops_part r ++ inside_part k r) → AroundFirst (suc k) r w
      comes p e h = inr (p, e, subst (Before p w) (sym (region_parts k r)) h)

      as_op : Memᴰ w (ops_part r) → AroundFirst (suc k) r w
      as_op i = let j = op_around_lem r w i in comes j.0 j.1 (before_left (inside_part k r) (before_across j.2 i))

      inside : ((q : ℕ) (x : Owner) → Memᴰ x (in_region k q) → AroundFirst k q x) → Memᴰ w (inside_part k r) → AroundFirst (suc k) r w
      inside inner i =
          let j = in_inside k r w i in
          let l = in_full_lem k j.0 w j.2 in
          ⊎_elim
          (λ e. comes (of_op j.0) (e ∙ ap Some l.1) (before_across (Memᴰ.append_right (blocks_part r) j.1) i))
          (λ h. comes h.0 h.1 (before_right (blocks_part r ++ ops_part r) (j.3 h.0 (l.3 h.0 h.2))))
          (inner l.0 w l.2)

      whole : ((q : ℕ) (x : Owner) → Memᴰ x (in_region k q) → AroundFirst k q x)
          → Memᴰ w (blocks_part r ++ ops_part r) ⊎ Memᴰ w (inside_part k r) → AroundFirst (suc k) r w
      whole inner (inl i) = ⊎_elim (λ j. inl (block_around r w j)) as_op (Memᴰ.append_cases (blocks_part r) i)
      whole inner (inr i) = inside inner i

  pub around_before : (n : ℕ) (w : Owner) → Memᴰ w (defines_owners s op n) → (w ≡ of_op n) ⊎ ((p : Owner) × (up s w ≡ Some p) × Before p w (defines_owners s op n))
  unfolding defines_owners steps step_defines
  around_before n w m = ⊎_elim inl (λ k. inr (later (subst (Memᴰ w) (full_owners levels n) k))) (Memᴰ.cases_cons m)
    where
      comes : (p : Owner) → up s w ≡ Some p → Before p w (of_op n ∷ in_full levels n) → (q : Owner) × (up s w ≡ Some q) × Before q w (defines_owners s op n)
      comes p e h = (p, e, subst (λ (l : List Owner). Before p w (of_op n ∷ l)) (sym (full_owners levels n)) h)

      later : Memᴰ w (in_full levels n) → (p : Owner) × (up s w ≡ Some p) × Before p w (defines_owners s op n)
      later i =
          let l = in_full_lem levels n w i in
          ⊎_elim (λ e. comes (of_op n) (e ∙ ap Some l.1) (here i)) (λ h. comes h.0 h.1 (there (l.3 h.0 h.2))) (around_first levels l.0 w l.2)
