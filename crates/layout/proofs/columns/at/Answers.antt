-- `at` meets its contract: a word of a column stands that far behind the column's first. Assumes nothing.
use Prim.Native.Nat.{ℕ, ◌+◌}
use native.Mathlib.Omega.{arith}
use mathlib.Core.Path.{sym, ap, ◌∙◌}
use lib.ListN.{get_or}
use Rattle.layout.proofs.Buffer.{base_fits, at_columns}
use Rattle.layout.proofs.columns.at.Goals as goal

pub overflow_add-i : goal.overflow_add-i
overflow_add-i c = let f = base_fits c.args.column in omega arith

pub offset_bounds-store-i : goal.offset_bounds-store-i
offset_bounds-store-i c = let f = base_fits c.args.column in omega arith

pub bounds-store-i : goal.bounds-store-i
bounds-store-i c = let f = base_fits c.args.column in omega arith

pub returns : goal.returns
returns c =
    let a = c.args in
    ap (λ (k : ℕ). get_or a.store.now (k + a.n) 0) c.base.ensures ∙ sym (at_columns a.store.now a.column a.n c.requires.n_bound)
