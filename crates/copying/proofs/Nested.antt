-- How deep the copy of each operation of a sound buffer is nested: as deep as an operation where the copy is placed, and as much deeper as the
-- operation is than the original, by the column of depths. The operations left to test are those of the steps left. Assumes nothing.
use Prim.Native.Nat.{ℕ, ◌+◌, ◌-◌, ◌<◌, ◌≤◌}
use native.Mathlib.Omega.{arith}
use mathlib.Core.Bool.{Bool, true, false, ◌&&◌}
use mathlib.Core.List.{List, ◌++◌, Memᴰ}
use Rattle.std.specs.Prelude.{Option, None, Some, is_some}
use mathlib.Core.Path.{◌≡◌, refl, sym, ap, subst, ◌∙◌}
use borrow.Author.Tests.{lt-ltb, le-leb, lt-leb}
use lib.Dec.{leb}
use lib.ListN.{length, get_or}
use Rattle.std.specs.List.{list_all, flat_map}
use Rattle.rules.specs.Store.{Store, parent_of, op_around, op_exists, parent_exists, levels_left, max_nesting, nesting_holds}
use Rattle.rules.specs.declared.types.Owner.{Owner}
use Rattle.rules.specs.declared.types.Owner.TheVariants.{Op as of_op}
use Rattle.rules.specs.Fragments.{steps, step_defines, op_owner, defines_owners, fragment_ops}
use Rattle.rules.specs.declared.types.Sort.TheVariants.{Op as op}
use Rattle.rules.specs.Copying.{parent_copy, copied, copy_nests}
use Rattle.rules.proofs.Soundness.Sound.{Sound, facts}
use Rattle.rules.proofs.Copying.Inside.{owned_op}
use Rattle.rules.proofs.Copying.Depths.{depth_least, nesting_copied}
use Rattle.layout.specs.Columns.{columns, at, op_depth}
use Rattle.layout.specs.Reading.{op_count, around, store_in}
use Rattle.layout.specs.Soundness.{IsSound, placed}
use Rattle.layout.proofs.Laid.{Laid, laid_facts}
use Rattle.layout.proofs.Nesting.{Placed, placed_facts, outermost, levels_under, depth_most}
use Rattle.layout.proofs.Tabulate.{ops_length, op_exists_lem, block_in_lem, parent_read_lem, around_read}
use Rattle.mutation.specs.AddedWrites.{depth_under}
use Rattle.copying.specs.declared.steps.Step.{Step}
use Rattle.copying.specs.declared.steps.Step.TheVariants.{OpShell, BlockShell, Names}
use Rattle.copying.specs.Steps.{AreSteps, step_of, step_owners}
use Rattle.copying.proofs.Told.{owners_left, all_owners_left, no_owners_left, step_owners_left, are_steps_lem, op_inside}

-- ---- the test, of one operation and of those of some owners

unfoldable pub copy_nested : Store → ℕ → Option ℕ → ℕ → Bool
copy_nested s n p m = nesting_holds (copied s n p) (parent_copy s n p m)

unfoldable pub owners_nested : Store → ℕ → Option ℕ → List Owner → Bool
owners_nested s n p ws = list_all (copy_nested s n p) (flat_map op_owner ws)

-- what is left from step i on decides
abbrev pub NestsLeft : List ℕ → ℕ → Option ℕ → ℕ → Type 0
NestsLeft b n p i = owners_nested (store_in b) n p (owners_left (steps (store_in b) op n) i) ≡ copy_nests (store_in b) n p

module _ (b : List ℕ) (sd : IsSound b) where
  h : Laid (columns b)
  h = laid_facts (columns b) sd.laid

  so : Sound (store_in b)
  so = facts (store_in b) sd.ruled

  depth : ℕ → ℕ
  depth m = at (columns b) op_depth m

  deeper : (m c : ℕ) → m < length (store_in b).ops → parent_of (store_in b) m ≡ Some c → depth m ≡ depth (op_around (store_in b) c) + 1
  unfolding depth
  deeper m c l e =
      let l' : m < op_count (columns b) = subst (λ (k : ℕ). m < k) (ops_length (columns b)) l in
      let p : Placed (columns b) m c =
      placed_facts (columns b) m c
      (subst (λ (q : Option ℕ). placed (columns b) m q ≡ true) (sym (parent_read_lem (columns b) m l') ∙ e) (h.op m l').place) in
      p.depth ∙ ap (λ (o : ℕ). at (columns b) op_depth o + 1) (sym (around_read (columns b) c p.block_in p.region_in))

  -- an operation in that place
  placed_levels : (p : Option ℕ) → parent_exists (store_in b) p ≡ true → (k : ℕ)
      → is_some (levels_left k (store_in b) p) ≡ leb (depth_under (columns b) p) k
  unfolding depth_under parent_exists
  placed_levels None e k = outermost k (store_in b) ∙ sym (le-leb 0 k (omega arith))
  placed_levels (Some c) e k = levels_under (columns b) h k c (block_in_lem (columns b) c e)

  pub under_most : (p : Option ℕ) → parent_exists (store_in b) p ≡ true → depth_under (columns b) p ≤ 33
  unfolding depth_under parent_exists
  under_most None e = omega arith
  under_most (Some c) e =
      let r = (h.block c (block_in_lem (columns b) c e)).region_in in
      let d : at (columns b) op_depth (around (columns b) c) ≤ max_nesting =
      depth_most (columns b) h sd.ruled (around (columns b) c) (h.region _ r).op_in in
      omega arith

  pub depth_fits : (m : ℕ) → m < op_count (columns b) → at (columns b) op_depth m ≤ 32
  depth_fits m l = depth_most (columns b) h sd.ruled m l

  module _ (n : ℕ) (l : n < op_count (columns b)) (p : Option ℕ) (pe : parent_exists (store_in b) p ≡ true) where
    ex : op_exists (store_in b) n ≡ true
    ex = op_exists_lem (columns b) n ∙ lt-ltb n _ l

    pub own_least : (m : ℕ) → Memᴰ (of_op m) (defines_owners (store_in b) op n) → at (columns b) op_depth n ≤ at (columns b) op_depth m
    unfolding depth
    own_least m k = depth_least (store_in b) so n ex p pe depth deeper m (owned_op (store_in b) so n ex k)

    nested_by_depth : (m : ℕ) → Memᴰ (of_op m) (defines_owners (store_in b) op n)
        → copy_nested (store_in b) n p m ≡ leb (depth_under (columns b) p + (at (columns b) op_depth m - at (columns b) op_depth n)) max_nesting
    unfolding depth copy_nested
    nested_by_depth m k =
        nesting_copied (store_in b) so n ex p pe depth deeper (depth_under (columns b) p) (placed_levels p pe) m (owned_op (store_in b) so n ex k)

    -- ---- step by step

    pub left_first : NestsLeft b n p 0
    unfolding owners_nested copy_nested copy_nests fragment_ops
    left_first = ap (owners_nested (store_in b) n p) (all_owners_left (store_in b) n)

    module _ (ws : List Step) (a : AreSteps b n ws) (i : ℕ) (r : NestsLeft b n p i) where
      pub left_last : length ws ≤ i → true ≡ copy_nests (store_in b) n p
      unfolding owners_nested
      left_last d = sym (ap (owners_nested (store_in b) n p) (no_owners_left _ ws (are_steps_lem b n ws a) i d)) ∙ r

      module _ (d : i < length ws) where
        abbrev rest : Bool
        rest = owners_nested (store_in b) n p (owners_left (steps (store_in b) op n) (i + 1))

        left : (x : Step) → get_or ws i (OpShell 0) ≡ x
            → owners_nested (store_in b) n p (step_owners x ++ owners_left (steps (store_in b) op n) (i + 1)) ≡ copy_nests (store_in b) n p
        left x q = sym (ap (owners_nested (store_in b) n p) (step_owners_left _ ws (are_steps_lem b n ws a) i d x q)) ∙ r

        -- an operation's shell
        module _ (m : ℕ) (q : get_or ws i (OpShell 0) ≡ OpShell m) where
          after_op : (copy_nested (store_in b) n p m && rest) ≡ copy_nests (store_in b) n p
          unfolding owners_nested op_owner step_owners step_of step_defines
          after_op = left (OpShell m) q

          tested : copy_nested (store_in b) n p m
              ≡ leb (depth_under (columns b) p + (at (columns b) op_depth m - at (columns b) op_depth n)) max_nesting
          tested = nested_by_depth _ (op_inside b sd n l ws a i d m q)

          pub own_below : at (columns b) op_depth n ≤ at (columns b) op_depth m
          own_below = own_least _ (op_inside b sd n l ws a i d m q)

          pub too_deep_lem : max_nesting < depth_under (columns b) p + (at (columns b) op_depth m - at (columns b) op_depth n)
              → false ≡ copy_nests (store_in b) n p
          too_deep_lem t = sym (ap (λ (v : Bool). v && rest) (tested ∙ lt-leb _ max_nesting t)) ∙ after_op

          pub not_too_deep : depth_under (columns b) p + (at (columns b) op_depth m - at (columns b) op_depth n) ≤ max_nesting
              → NestsLeft b n p (i + 1)
          not_too_deep t = sym (ap (λ (v : Bool). v && rest) (tested ∙ le-leb _ max_nesting t)) ∙ after_op

        -- a block, and an operation's names, are passed
        pub passed_over : (x : Step) → get_or ws i (OpShell 0) ≡ x → ((m : ℕ) → x ≡ OpShell m → ⊥) → NestsLeft b n p (i + 1)
        unfolding owners_nested op_owner step_owners step_of step_defines
        passed_over (OpShell m) q other = absurd (other m refl)
        passed_over (BlockShell m) q other = left (BlockShell m) q
        passed_over (Names m) q other = left (Names m) q
