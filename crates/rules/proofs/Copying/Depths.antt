-- How deep the operations of a copy are nested: going out of the copy takes as many steps as going out of the original, and from there on one is where
-- the copy is placed. So with numbers that rise by one from each operation inside to the next, the copy's nesting is a sum. Assumes nothing.
use Prim.Native.Nat.{ℕ, zero, suc, ◌+◌, ◌-◌, ◌<◌, ◌≤◌}
use native.Mathlib.Decide.{ℕ_discrete}
use native.Mathlib.Omega.{arith}
use mathlib.Core.Bool.{true}
use mathlib.Core.List.{Memᴰ}
use Rattle.std.specs.Prelude.{Option, Some, is_some}
use mathlib.Core.Path.{◌≡◌, sym, ap, ◌∙◌}
use borrow.Author.Tests.{ltb-true, lt-leb}
use lib.Dec.{leb, leb-suc-suc}
use lib.ListN.{length}
use Rattle.rules.specs.Store.{Store, parent_of, op_around, op_after, op_exists, parent_exists, levels_left, max_nesting, nesting_holds}
use Rattle.rules.specs.Fragments.{fragment_ops}
use Rattle.rules.specs.declared.types.Sort.TheVariants.{Op as op}
use Rattle.rules.specs.Copying.{parent_copy, copied}
use Rattle.rules.proofs.Soundness.Sound.{Sound}
use Rattle.rules.proofs.Soundness.Grown.{levels_kept}
use Rattle.rules.proofs.Copying.Inside.{op_below, op_around_lem}
use Rattle.rules.proofs.Copying.Children.{parent_root, parent_copied}
use Rattle.rules.proofs.Copying.Kept.{with_grown, parent_with, around_with}

module _ (s : Store) (sd : Sound s) (n : ℕ) (ex : op_exists s n ≡ true) (place : Option ℕ) (pe : parent_exists s place ≡ true) where
  -- numbers of the operations, of which each is one more than that of the operation around
  module _ (D : ℕ → ℕ) (deeper : (m b : ℕ) → m < length s.ops → parent_of s m ≡ Some b → D m ≡ D (op_around s b) + 1) where
    least : (k m : ℕ) → m < k → Memᴰ m (fragment_ops s op n) → D n ≤ D m
    unfolding op_after
    least zero m l i = absurd (omega arith)
    least (suc k) m l i = go (ℕ_discrete m n) (λ o d j. least k o d j)
      where
        go : Dec (m ≡ n) → ((o : ℕ) → o < k → Memᴰ o (fragment_ops s op n) → D n ≤ D o) → D n ≤ D m
        go (yes e) below = let f : D m ≡ D n = ap D e in omega arith
        go (no ne) below =
            let a = parent_copied s sd n ex place pe m i ne in
            let h : m < length s.ops = op_below s sd n ex i in
            let d : op_around s a.0 < m = ltb-true _ _ (sym (ap (op_after s m) a.1) ∙ (sd.op m h).later) in
            let r : D n ≤ D (op_around s a.0) = below (op_around s a.0) (omega arith) (op_around_lem s sd n ex a.0 a.2) in
            omega (arith, deeper m a.0 h a.1)

    pub depth_least : (m : ℕ) → Memᴰ m (fragment_ops s op n) → D n ≤ D m
    depth_least m i = least (suc m) m (omega arith) i

    module _ (U : ℕ) (placed : (k : ℕ) → is_some (levels_left k s place) ≡ leb U k) where
      at_root : (k : ℕ) → is_some (levels_left k (copied s n place) place) ≡ leb U k
      at_root k = ap is_some (levels_kept s (copied s n place) (with_grown s sd n ex place pe) sd k place pe) ∙ placed k

      -- the operation is the original, or stands in an operation inside
      Copies : ℕ → ℕ → Type 0
      Copies k m = is_some (levels_left k (copied s n place) (parent_copy s n place m)) ≡ leb (U + (D m - D n)) k

      root_copied : (k m : ℕ) → m ≡ n → Copies k m
      unfolding Copies
      root_copied k m e =
          let f : D m ≡ D n = ap D e in
          let z : U ≡ U + (D m - D n) = omega arith in
          ap (λ (x : ℕ). is_some (levels_left k (copied s n place) (parent_copy s n place x))) e
          ∙ ap (λ (p : Option ℕ). is_some (levels_left k (copied s n place) p)) (parent_root s sd n ex place pe)
          ∙ at_root k ∙ ap (λ (x : ℕ). leb x k) z

      inner_zero : (m : ℕ) → Memᴰ m (fragment_ops s op n) → (m ≡ n → ⊥) → Copies 0 m
      unfolding Copies levels_left
      inner_zero m i ne =
          let a = parent_copied s sd n ex place pe m i ne in
          let r : D n ≤ D (op_around s a.0) = depth_least (op_around s a.0) (op_around_lem s sd n ex a.0 a.2) in
          ap (λ (p : Option ℕ). is_some (levels_left 0 (copied s n place) p)) a.3
          ∙ sym (lt-leb (U + (D m - D n)) 0 (omega (arith, deeper m a.0 (op_below s sd n ex i) a.1)))

      inner_suc : (k m : ℕ) → ((o : ℕ) → Memᴰ o (fragment_ops s op n) → Copies k o) → Memᴰ m (fragment_ops s op n) → (m ≡ n → ⊥) → Copies (suc k) m
      unfolding Copies levels_left
      inner_suc k m below i ne =
          let a = parent_copied s sd n ex place pe m i ne in
          let j : Memᴰ (op_around s a.0) (fragment_ops s op n) = op_around_lem s sd n ex a.0 a.2 in
          let r : D n ≤ D (op_around s a.0) = depth_least (op_around s a.0) j in
          let z : suc (U + (D (op_around s a.0) - D n)) ≡ U + (D m - D n) = omega (arith, deeper m a.0 (op_below s sd n ex i) a.1) in
          ap (λ (p : Option ℕ). is_some (levels_left (suc k) (copied s n place) p)) a.3
          ∙ ap (λ (o : ℕ). is_some (levels_left k (copied s n place) (parent_of (copied s n place) o))) (around_with s sd n ex place pe a.2)
          ∙ ap (λ (p : Option ℕ). is_some (levels_left k (copied s n place) p)) (parent_with s sd n ex place pe j)
          ∙ below (op_around s a.0) j
          ∙ sym (leb-suc-suc (U + (D (op_around s a.0) - D n)) k)
          ∙ ap (λ (x : ℕ). leb x (suc k)) z

      levels_copied : (k m : ℕ) → Memᴰ m (fragment_ops s op n) → Copies k m
      levels_copied zero m i = go (ℕ_discrete m n)
        where
          go : Dec (m ≡ n) → Copies 0 m
          go (yes e) = root_copied 0 m e
          go (no ne) = inner_zero m i ne
      levels_copied (suc k) m i = go (ℕ_discrete m n) (λ o j. levels_copied k o j)
        where
          go : Dec (m ≡ n) → ((o : ℕ) → Memᴰ o (fragment_ops s op n) → Copies k o) → Copies (suc k) m
          go (yes e) below = root_copied (suc k) m e
          go (no ne) below = inner_suc k m below i ne

      pub nesting_copied : (m : ℕ) → Memᴰ m (fragment_ops s op n)
          → nesting_holds (copied s n place) (parent_copy s n place m) ≡ leb (U + (D m - D n)) max_nesting
      unfolding Copies nesting_holds
      nesting_copied m i = levels_copied max_nesting m i
