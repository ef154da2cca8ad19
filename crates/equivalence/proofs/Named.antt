-- What a sound store's operations name exists: operands among its values, successors among its blocks. Assumes nothing.
use Prim.Native.Nat.{ℕ, ◌<◌, ◌≤◌}
use native.Mathlib.Omega.{arith}
use mathlib.Core.Bool.{true}
use mathlib.Core.List.{List, [], ◌∷◌}
use mathlib.Core.Path.{◌≡◌, refl, sym, subst}
use borrow.Author.Tests.{ltb-true, lt-ltb}
use lib.Dec.{ltb}
use lib.ListN.{length}
use Rattle.std.specs.List.{list_all}
use Rattle.rules.specs.Store.{op_at, value_exists, block_exists}
use Rattle.rules.proofs.Basics.Tests.{and_left, and_right, and_both}
use Rattle.rules.proofs.Soundness.Sound.{facts}
use Rattle.layout.specs.Columns.{columns}
use Rattle.layout.specs.Reading.{op_count, value_count, block_count, store_of}
use Rattle.layout.specs.Soundness.{IsSound}
use Rattle.layout.proofs.Laid.{laid_facts}
use Rattle.layout.proofs.Tabulate.{ops_length, values_length, blocks_length}

more : (n m : ℕ) → n ≤ m → (xs : List ℕ) → list_all (λ (x : ℕ). ltb x n) xs ≡ true → list_all (λ (x : ℕ). ltb x m) xs ≡ true
more n m le [] h = refl
more n m le (x ∷ xs) h =
    let l : x < n = ltb-true x n (and_left _ (list_all (λ (y : ℕ). ltb y n) xs) h) in
    and_both _ _ (lt-ltb x m (omega arith)) (more n m le xs (and_right (ltb x n) _ h))

module _ (b : List ℕ) (h : IsSound b) (n : ℕ) (l : n < op_count (columns b)) where
  row : n < length (store_of (columns b)).ops
  row = subst (λ (k : ℕ). n < k) (sym (ops_length (columns b))) l

  pub operands_below : list_all (λ (v : ℕ). ltb v (value_count (columns b))) (op_at (store_of (columns b)) n).operands ≡ true
  unfolding value_exists
  operands_below =
      subst (λ (k : ℕ). list_all (λ (v : ℕ). ltb v k) (op_at (store_of (columns b)) n).operands ≡ true) (values_length (columns b))
      ((facts (store_of (columns b)) h.ruled).op n row).operands_in

  pub successors_below : list_all (λ (v : ℕ). ltb v 256) (op_at (store_of (columns b)) n).successors ≡ true
  unfolding block_exists
  successors_below =
      more (block_count (columns b)) 256 (laid_facts (columns b) h.laid).counts.blocks (op_at (store_of (columns b)) n).successors
      (subst (λ (k : ℕ). list_all (λ (v : ℕ). ltb v k) (op_at (store_of (columns b)) n).successors ≡ true) (blocks_length (columns b))
      ((facts (store_of (columns b)) h.ruled).op n row).successors_in)
