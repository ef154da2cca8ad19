-- `operation_names` meets its contract, test by test. Assumes nothing.
use Prim.Native.Nat.{ℕ}
use mathlib.Core.List.{List}
use mathlib.Core.Path.{◌≡◌, sym, ap, ◌∙◌}
use lib.Dec.{ltb}
use Rattle.std.specs.List.{list_all}
use Rattle.rules.specs.Store.{block_exists, value_exists}
use Rattle.rules.specs.Building.{operation_names}
use Rattle.rules.proofs.Basics.Tests.{clash}
use Rattle.layout.specs.Columns.{columns}
use Rattle.layout.specs.Reading.{block_count, value_count}
use Rattle.layout.proofs.Tabulate.{blocks_length, values_length}
use Rattle.layout.proofs.Scans.{fails, next, last}
use Rattle.mutation.proofs.tests.operation_names.Goals as goal
use Rattle.mutation.proofs.tests.operation_names.Goals.{then-parent_exists, else-parent_exists}

-- the bound that was read is the length of the store's list
module _ (xs : List ℕ) {n m k : ℕ} (e : n ≡ m) (q : k ≡ m) where
  bounded : list_all (λ (x : ℕ). ltb x n) xs ≡ list_all (λ (x : ℕ). ltb x k) xs
  bounded = ap (λ (j : ℕ). list_all (λ (x : ℕ). ltb x j) xs) (e ∙ sym q)

pub returns-then-all_below : goal.returns-then-all_below
unfolding operation_names value_exists value_count block_exists block_count
returns-then-all_below c =
    let a = c.args in
    let C = columns a.store.now in
    elim c.if-parent_exists.branch [
      | then-parent_exists w ↦ λ types.
          sym
          (next _ _ (sym c.parent_exists.ensures ∙ w.if-parent_exists.true)
          (next _ _ (sym (w.all_below.ensures ∙ bounded a.operands.now w.at.ensures (values_length C)) ∙ sym w.value-is ∙ c.if-all_below.true)
          (last _ (sym (c.all_below-then-all_below.ensures ∙ bounded a.successors.now c.at-then-all_below.ensures (blocks_length C))))))
      | else-parent_exists w ↦ clash c.if-all_below.true (w.value-is ∙ w.if-parent_exists.false)
    ]

pub returns-else-all_below : goal.returns-else-all_below
unfolding operation_names value_exists value_count
returns-else-all_below c =
    let a = c.args in
    elim c.if-parent_exists.branch [
      | then-parent_exists w ↦ λ types. c.if-all_below.false
          ∙ sym (fails _ 1 (sym (w.all_below.ensures ∙ bounded a.operands.now w.at.ensures (values_length (columns a.store.now))) ∙ sym w.value-is ∙ c.if-all_below.false))
      | else-parent_exists w ↦ λ types. w.value-is ∙ w.if-parent_exists.false ∙ sym (fails _ 0 (sym c.parent_exists.ensures ∙ w.if-parent_exists.false))
    ]
