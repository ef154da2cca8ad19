-- `words` meets its contract: a slice of a column is a slice of the buffer, that far behind the column's first. Assumes nothing.
use Prim.Native.Nat.{ℕ, ◌+◌, ◌-◌}
use native.Mathlib.Omega.{arith}
use mathlib.Core.Path.{◌≡◌, sym, ap, ◌∙◌}
use lib.ListN.{take, drop}
use Rattle.layout.proofs.Buffer.{base_fits, slice_columns}
use Rattle.layout.proofs.columns.words.Goals as goal

pub overflow_add-result : goal.overflow_add-result
overflow_add-result c = let f = base_fits c.args.column in omega arith

pub overflow_add-result-2 : goal.overflow_add-result-2
overflow_add-result-2 c = let f = base_fits c.args.column in omega arith

pub offset_bounds-store-from : goal.offset_bounds-store-from
offset_bounds-store-from c = let f = base_fits c.args.column in omega arith

pub slice_bounds-result-count : goal.slice_bounds-result-count
slice_bounds-result-count c = let f = base_fits c.args.column in omega arith

pub slice_bounds-result-start : goal.slice_bounds-result-start
slice_bounds-result-start c = let f = base_fits c.args.column in omega arith

pub slice_bounds-result-end : goal.slice_bounds-result-end
slice_bounds-result-end c = let f = base_fits c.args.column in omega arith

pub returns : goal.returns
returns c =
    let a = c.args in
    let r = c.base-from.result in
    let n : (r + a.e) - (r + a.a) ≡ a.e - a.a = omega arith in
    ap (λ (k : ℕ). take k (drop (r + a.a) a.store.now)) n
    ∙ ap (λ (k : ℕ). take (a.e - a.a) (drop (k + a.a) a.store.now)) c.base-from.ensures
    ∙ sym (slice_columns a.store.now a.column a.a a.e c.requires.e_bound)
