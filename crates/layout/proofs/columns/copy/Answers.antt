-- `copy` meets its contract: a run of words behind a column's first is a run of that column alone. Assumes nothing.
use Prim.Native.Nat.{ℕ, ◌+◌, ◌-◌}
use native.Mathlib.Omega.{arith}
use mathlib.Core.List.{List, ◌++◌}
use mathlib.Core.Path.{◌≡◌, sym, ap, ap₂, ◌∙◌}
use lib.ListN.{length, take, drop}
use lib.Seq.{paste}
use Rattle.layout.specs.Columns.{columns, pasted}
use Rattle.layout.specs.Reading.{slice}
use Rattle.layout.proofs.Scans.{slice_length}
use Rattle.layout.proofs.Buffer.{base_fits, columns_run, columns_shaped, slice_columns}
use Rattle.layout.proofs.columns.copy.Goals as goal

pub overflow_add-from : goal.overflow_add-from
overflow_add-from c = let f = base_fits c.args.column in omega arith

pub overflow_add-from-2 : goal.overflow_add-from-2
overflow_add-from-2 c = let f = base_fits c.args.column in omega arith

pub overflow_add-behind : goal.overflow_add-behind
overflow_add-behind c = let f = base_fits c.args.into in omega arith

pub copy_within-requires-clause-in_bounds : goal.copy_within-requires-clause-in_bounds
copy_within-requires-clause-in_bounds c = let f = base_fits c.args.column in omega arith

pub copy_within-requires-clause-dest_in_bounds : goal.copy_within-requires-clause-dest_in_bounds
copy_within-requires-clause-dest_in_bounds c = let f = base_fits c.args.into in omega arith

pub returns : goal.returns
returns c =
    let a = c.args in
    let b : List ℕ = a.store.now in
    let xs : List ℕ = slice (columns b a.column) a.a a.e in
    let from : ℕ = c.base-from.result + a.a in
    let many : (c.base-from.result + a.e) - from ≡ a.e - a.a = omega arith in
    let read : take (a.e - a.a) (drop from b) ≡ xs =
    ap (λ (k : ℕ). take (a.e - a.a) (drop (k + a.a) b)) c.base-from.ensures ∙ sym (slice_columns b a.column a.a a.e c.requires.e_bound) in
    let n : length xs ≡ a.e - a.a = slice_length (columns b a.column) a.a a.e (omega (arith, columns_shaped b c.told-store a.column)) in
    ap columns
    (c.copy_within.ensures.after
    ∙ ap (λ (k : ℕ). paste b (c.base-behind.result + a.to) (drop from b) k) many
    ∙ ap₂ (λ (ys : List ℕ) (k : ℕ). take (c.base-behind.result + a.to) b ++ ys ++ drop (c.base-behind.result + a.to + k) b) read (sym n)
    ∙ ap (λ (k : ℕ). pasted b (k + a.to) xs) c.base-behind.ensures)
    ∙ columns_run b c.told-store a.into a.to xs (omega (arith, n))
