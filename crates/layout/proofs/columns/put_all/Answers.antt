-- `put_all` meets its contract: a run of words behind a column's first is a run of that column alone. Assumes nothing.
use Prim.Native.Nat.{ℕ, ◌+◌}
use native.Mathlib.Omega.{arith}
use mathlib.Core.Path.{ap, ◌∙◌}
use Rattle.layout.specs.Columns.{columns, pasted}
use Rattle.layout.proofs.Buffer.{base_fits, columns_run}
use Rattle.layout.proofs.columns.put_all.Goals as goal

pub overflow_add-from : goal.overflow_add-from
overflow_add-from c = let f = base_fits c.args.column in omega arith

pub copy_at-requires : goal.copy_at-requires
copy_at-requires c = let f = base_fits c.args.column in omega arith

pub returns : goal.returns
returns c =
    let a = c.args in
    ap columns
    (c.copy_at.ensures
    ∙ ap (λ (k : ℕ). pasted a.store.now (k + a.n) a.list.now) c.base.ensures)
    ∙ columns_run a.store.now c.told-store a.column a.n a.list.now c.requires.list_bound
