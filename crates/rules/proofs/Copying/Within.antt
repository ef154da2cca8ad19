-- What is next inside a thing that a fragment defines is defined by it too: a block in a region of an operation, since a walk has regions
-- enough to enter, and an operation in a block. So is whatever is further inside. Assumes nothing.
use Prim.Native.Nat.{ℕ, zero, suc, ◌<◌}
use mathlib.Core.Bool.{true}
use mathlib.Core.List.Memᴰ
use mathlib.Core.List.{List, [], ◌∷◌, Memᴰ}
use mathlib.Core.Logic.{⊎_elim}
use Rattle.std.specs.Prelude.{Option, None, Some, option_map}
use Rattle.std.proofs.lemmas.Option.{same_Some, none-some}
use mathlib.Core.Path.{◌≡◌, refl, sym, ap, subst, ◌∙◌}
use borrow.Author.Tests.{ltb-true, eq-eqb}
use lib.Dec.{eqb}
use lib.ListN.{length, get_or}
use Rattle.rules.specs.Store.{Store, Op, Block, no_op, no_block, op_at, block_at, parent_of, op_around, op_exists, block_exists, region_exists, owner_exists, is_parent, ops_of, blocks_of, regions_of, sound}
use Rattle.rules.specs.declared.types.Owner.{Owner}
use Rattle.rules.specs.declared.types.Owner.TheVariants.{Op as of_op, Block as of_block}
use Rattle.rules.specs.Fragments.{Step, shell, levels, full_op, list_steps, region_steps, steps, defines_owners, defines_blocks}
use Rattle.rules.specs.declared.types.Sort.{Sort}
use Rattle.rules.specs.declared.types.Sort.TheVariants.{Op as op, Block as block, Region as region}
use Rattle.rules.proofs.Basics.Distinct.{mem_concat_map}
use Rattle.rules.proofs.Soundness.Sound.{facts}
use Rattle.rules.proofs.Walking.EnoughSteps.{region_steps_lem}
use Rattle.rules.proofs.Form.Ancestors.{up, Around, next, beyond, up_in_store}
use Rattle.rules.proofs.Form.Roots.{Root}
use Rattle.rules.proofs.Form.Owned.{op_owned, owned_block}
use Rattle.rules.proofs.Copying.Renumbered.{in_concat_map}
use Rattle.rules.proofs.Copying.Walked.{ops_of_blocks}
use Rattle.rules.proofs.Copying.Shelled.{block_listed, full_listed, listed_op, shell_defined, owner_shell}
use Rattle.rules.proofs.Copying.Inside.{number_in, region_listed}

-- ---- a thing is among the children of what it names as around it

op_child : (s : Store) (m b : ℕ) → m < length s.ops → parent_of s m ≡ Some b → Memᴰ m (ops_of s b)
unfolding ops_of parent_of op_at is_parent
op_child s m b l e = number_in (λ (o : Op). is_parent b o.parent) no_op s.ops m l (ap (is_parent b) e ∙ eq-eqb b b refl)

pub block_child : (s : Store) (b : ℕ) → b < length s.blocks → Memᴰ b (blocks_of s (block_at s b).region)
unfolding blocks_of block_at
block_child s b l = number_in (λ (o : Block). eqb o.region (get_or s.blocks b no_block).region) no_block s.blocks b l (eq-eqb _ _ refl)

module _ (s : Store) (h : sound s ≡ true) where
  -- ---- the steps of the regions of an operation that steps come to are among others

  abbrev Down : List Step → List Step → Type 0
  Down xs ys = (o q : ℕ) (x : Step) → Memᴰ (shell (of_op o)) xs → Memᴰ q (regions_of s o) → Memᴰ x (region_steps levels s q) → Memᴰ x ys

  below_op : (bs : List ℕ) {b o q : ℕ} {x : Step} → Memᴰ b bs → Memᴰ o (ops_of s b) → Memᴰ q (regions_of s o)
      → Memᴰ x (region_steps levels s q) → Memᴰ x (list_steps s (full_op s (region_steps levels s)) bs)
  unfolding full_op
  below_op bs {o = o} i j k m =
      full_listed s (full_op s (region_steps levels s)) bs i j (Memᴰ.tail (in_concat_map (region_steps levels s) (regions_of s o) k m))

  down_list : (k : ℕ) → ((r : ℕ) → Down (region_steps k s r) (region_steps levels s r))
      → (bs : List ℕ) → Down (list_steps s (full_op s (region_steps k s)) bs) (list_steps s (full_op s (region_steps levels s)) bs)
  unfolding full_op
  down_list k inner bs o q x m i j =
      ⊎_elim
      (λ b. below_op bs b.1 b.2 i j)
      (λ b. ⊎_elim (λ e. let z : ⊥ = cc in absurd z)
      (λ p. let w = mem_concat_map (region_steps k s) (regions_of s b.1) p in below_op bs b.2 b.3 w.1 (inner w.0 o q x w.2 i j))
      (Memᴰ.cases_cons b.4))
      (listed_op s (full_op s (region_steps k s)) bs m)

  down : (k r : ℕ) → Down (region_steps k s r) (region_steps levels s r)
  unfolding region_steps
  down zero r o q x m i j = absurd (Memᴰ.not-nil m)
  down (suc k) r o q x m i j = subst (Memᴰ x) (sym (region_steps_lem s h r)) (down_list k (down k) (blocks_of s r) o q x m i j)

  down_whole : (f : Sort) (n : ℕ) → Down (steps s f n) (steps s f n)
  unfolding steps full_op
  down_whole block n o q x m i j = down_list levels (down levels) (n ∷ []) o q x m i j
  down_whole region n o q x m i j = down levels n o q x m i j
  down_whole op n o q x m i j =
      ⊎_elim
      (λ e. let f : o ≡ n = cc in
      Memᴰ.tail (Memᴰ.tail (in_concat_map (region_steps levels s) (regions_of s n) (subst (λ (y : ℕ). Memᴰ q (regions_of s y)) f i) j)))
      (λ p. ⊎_elim (λ e. let z : ⊥ = cc in absurd z)
      (λ p'. let w = mem_concat_map (region_steps levels s) (regions_of s n) p' in
      Memᴰ.tail (Memᴰ.tail (in_concat_map (region_steps levels s) (regions_of s n) w.1 (down levels w.0 o q x w.2 i j))))
      (Memᴰ.cases_cons p))
      (Memᴰ.cases_cons m)

  -- ---- what is next inside

  region_block : (b : ℕ) → b < length s.blocks → Memᴰ (shell (of_block b)) (region_steps levels s (block_at s b).region)
  region_block b l =
      subst (Memᴰ (shell (of_block b))) (sym (region_steps_lem s h (block_at s b).region))
      (block_listed s (full_op s (region_steps levels s)) (blocks_of s (block_at s b).region) (block_child s b l))

  module _ (f : Sort) (n : ℕ) where
    pub block_inside : (b : ℕ) → b < length s.blocks → Memᴰ (of_op (op_around s b)) (defines_owners s f n) → Memᴰ (of_block b) (defines_owners s f n)
    unfolding op_around region_exists
    block_inside b l m =
        let r = (block_at s b).region in
        let i : r < length s.regions = ltb-true _ _ ((facts s h).block b l).region_in in
        shell_defined s f n (of_block b) (down_whole f n (get_or s.regions r 0) r (shell (of_block b)) (owner_shell s f n _ m) (region_listed s r i) (region_block b l))

    pub op_inside : (m b : ℕ) → m < length s.ops → parent_of s m ≡ Some b → Memᴰ (of_block b) (defines_owners s f n) → Memᴰ (of_op m) (defines_owners s f n)
    op_inside m b l e i =
        op_owned s f n (ops_of_blocks s f n (in_concat_map (ops_of s) (defines_blocks s f n) (owned_block s f n i) (op_child s m b l e)))

    -- ---- whatever is inside

    next_inside : (x p : Owner) → owner_exists s x ≡ true → up s x ≡ Some p → Memᴰ p (defines_owners s f n) → Memᴰ x (defines_owners s f n)
    unfolding up owner_exists op_exists block_exists
    next_inside (of_op m) p e u i = go (parent_of s m) refl u
      where
        go : (q : Option ℕ) → parent_of s m ≡ q → option_map of_block q ≡ Some p → Memᴰ (of_op m) (defines_owners s f n)
        go None g v = absurd (none-some p v)
        go (Some b) g v = op_inside m b (ltb-true _ _ e) g (Memᴰ.cast (same_Some (of_block b) p v) i)
    next_inside (of_block b) p e u i = block_inside b (ltb-true _ _ e) (Memᴰ.cast (same_Some (of_op (op_around s b)) p u) i)

    pub all_inside : {r x : Owner} → owner_exists s x ≡ true → Memᴰ r (defines_owners s f n) → Around s r x → Memᴰ x (defines_owners s f n)
    all_inside {r} {x} e i (next u) = next_inside x r e u i
    all_inside {r} {x} e i (beyond {p = p} u q) = next_inside x p e u (all_inside (up_in_store s (facts s h) x p e u) i q)

  -- ---- and what it begins with

  pub roots_defined : (f : Sort) (n : ℕ) (r : Owner) → Root s f n r → Memᴰ r (defines_owners s f n)
  unfolding Root steps
  roots_defined op n r e = Memᴰ.cast e (shell_defined s op n (of_op n) (Memᴰ.head refl))
  roots_defined block n r e =
      Memᴰ.cast e (shell_defined s block n (of_block n) (block_listed s (full_op s (region_steps levels s)) (n ∷ []) (Memᴰ.head refl)))
  roots_defined region n r w =
      Memᴰ.cast w.2
      (shell_defined s region n (of_block w.0)
      (subst (Memᴰ (shell (of_block w.0))) (sym (region_steps_lem s h n)) (block_listed s (full_op s (region_steps levels s)) (blocks_of s n) w.1)))
