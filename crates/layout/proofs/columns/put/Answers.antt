-- `put` meets its contract: a word written behind a column's first is written in that column alone. Assumes nothing.
use Prim.Native.Nat.{ℕ, ◌+◌}
use native.Mathlib.Omega.{arith}
use mathlib.Core.Path.{ap, ◌∙◌}
use lib.ListN.{set}
use Rattle.layout.specs.Columns.{columns}
use Rattle.layout.proofs.Buffer.{base_fits, columns_set}
use Rattle.layout.proofs.columns.put.Goals as goal

pub overflow_add-i : goal.overflow_add-i
overflow_add-i c = let f = base_fits c.args.column in omega arith

pub offset_bounds-store-i : goal.offset_bounds-store-i
offset_bounds-store-i c = let f = base_fits c.args.column in omega arith

pub bounds-store-i : goal.bounds-store-i
bounds-store-i c = let f = base_fits c.args.column in omega arith

pub returns : goal.returns
returns c =
    let a = c.args in
    ap (λ (k : ℕ). columns (set a.store.now (k + a.n) a.v)) c.base.ensures ∙ columns_set a.store.now a.column a.n a.v c.requires.n_bound
