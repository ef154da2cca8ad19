-- What an operation of a sound store names is in the store. Assumes nothing.
use Prim.Native.Nat.{ℕ, ◌<◌}
use mathlib.Core.Bool.{Bool, true}
use mathlib.Core.List.{List}
use mathlib.Core.Path.{◌≡◌, sym, subst}
use borrow.Author.Tests.{ltb-true}
use lib.ListN.{length, get_or}
use Rattle.std.specs.List.{list_all}
use Rattle.rules.specs.Store.{Store, op_at, value_exists, block_exists}
use Rattle.rules.proofs.Basics.Tests.{all_at}
use Rattle.rules.proofs.Basics.Appended.{mem_get_d}
use Rattle.rules.proofs.Soundness.Sound.{OpSound, facts}
use Rattle.layout.specs.Columns.{columns}
use Rattle.layout.specs.Reading.{op_count, block_count, value_count, store_in}
use Rattle.layout.specs.Soundness.{IsSound}
use Rattle.layout.proofs.Tabulate.{ops_length, blocks_length, values_length}

-- an entry of a list of which all pass
passes : (p : ℕ → Bool) (list xs : List ℕ) → list ≡ xs → list_all p xs ≡ true → (i d : ℕ) → i < length list → p (get_or list i d) ≡ true
passes p list xs e h i d l = all_at p list (subst (λ (ys : List ℕ). list_all p ys ≡ true) (sym e) h) (mem_get_d list i d l)

module _ (store : List ℕ) (sd : IsSound store) (m : ℕ) (b : m < op_count (columns store)) where
  abbrev S : Store
  S = store_in store

  own : OpSound S m
  own = (facts S sd.ruled).op m (subst (λ (k : ℕ). m < k) (sym (ops_length (columns store))) b)

  pub operand_there : {list : List ℕ} → list ≡ (op_at S m).operands → (i d : ℕ) → i < length list → get_or list i d < value_count (columns store)
  unfolding value_exists
  operand_there {list} e i d l =
      subst (λ (k : ℕ). get_or list i d < k) (values_length (columns store)) (ltb-true _ _ (passes (value_exists S) list (op_at S m).operands e own.operands_in i d l))

  pub successor_there : {list : List ℕ} → list ≡ (op_at S m).successors → (i d : ℕ) → i < length list → get_or list i d < block_count (columns store)
  unfolding block_exists
  successor_there {list} e i d l =
      subst (λ (k : ℕ). get_or list i d < k) (blocks_length (columns store)) (ltb-true _ _ (passes (block_exists S) list (op_at S m).successors e own.successors_in i d l))
