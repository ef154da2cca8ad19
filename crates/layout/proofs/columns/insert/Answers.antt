-- `insert` meets its contract: a run of words behind a column's first is a run of that column alone. Assumes nothing.
use Prim.Native.Nat.{ℕ, ◌+◌, ◌-◌}
use native.Mathlib.Omega.{arith}
use mathlib.Core.List.{List, ◌∷◌}
use mathlib.Core.Path.{◌≡◌, sym, ap, ◌∙◌}
use lib.ListN.{length, take, drop}
use Rattle.layout.specs.Columns.{base, columns, pasted}
use Rattle.layout.specs.Reading.{slice}
use Rattle.layout.proofs.Scans.{slice_length}
use Rattle.layout.proofs.Buffer.{base_fits, columns_run, columns_shaped, slice_columns}
use Rattle.layout.proofs.columns.insert.Goals as goal

pub overflow_add-from : goal.overflow_add-from
overflow_add-from c = let f = base_fits c.args.column in omega arith

pub insert_at-requires : goal.insert_at-requires
insert_at-requires c = let f = base_fits c.args.column in omega arith

pub returns : goal.returns
returns c =
    let a = c.args in
    let xs : List ℕ = columns a.store.now a.column in
    let e : take (a.e - a.a) (drop (base a.column + a.a) a.store.now) ≡ slice xs a.a a.e =
    sym (slice_columns a.store.now a.column a.a a.e (omega arith)) in
    let n : length (slice xs a.a a.e) ≡ a.e - a.a =
    slice_length xs a.a a.e (omega (arith, columns_shaped a.store.now c.told-store a.column)) in
    ap columns
    (c.insert_at.ensures
    ∙ ap (λ (k : ℕ). pasted a.store.now (k + a.a) (a.v ∷ take (a.e - a.a) (drop (k + a.a) a.store.now))) c.base.ensures
    ∙ ap (λ (l : List ℕ). pasted a.store.now (base a.column + a.a) (a.v ∷ l)) e)
    ∙ columns_run a.store.now c.told-store a.column a.a (a.v ∷ slice xs a.a a.e) (omega arith)
