-- `put_same` meets its contract: a run of words behind a column's first is a run of that column alone. Assumes nothing.
use Prim.Native.Nat.{ℕ, ◌+◌, ◌≤◌}
use native.Mathlib.Omega.{arith}
use mathlib.Core.Path.{sym, ap, ◌∙◌, subst}
use lib.ListN.{replicate, length-replicate}
use Rattle.layout.specs.Columns.{column_size, columns, pasted}
use Rattle.layout.proofs.Buffer.{base_fits, columns_run}
use Rattle.layout.proofs.columns.put_same.Goals as goal

pub overflow_add-from : goal.overflow_add-from
overflow_add-from c = let f = base_fits c.args.column in omega arith

pub fill_at-requires : goal.fill_at-requires
fill_at-requires c = let f = base_fits c.args.column in omega arith

pub returns : goal.returns
returns c =
    let a = c.args in
    ap columns
    (c.fill_at.ensures
    ∙ ap (λ (k : ℕ). pasted a.store.now (k + a.n) (replicate a.count a.v)) c.base.ensures)
    ∙ columns_run a.store.now c.told-store a.column a.n (replicate a.count a.v)
    (subst (λ (k : ℕ). a.n + k ≤ column_size a.column) (sym (length-replicate a.count a.v)) c.requires.count_bound)
