-- `extend` meets its contract: both ends of the range are read before either is written. Assumes nothing.
use Prim.Native.Nat.{ℕ, ◌+◌}
use mathlib.Core.Path.{ap, ap₂, ◌∙◌}
use Rattle.layout.specs.Columns.{Cols, columns, write}
use Rattle.mutation.specs.AddedWrites.{begun, extended}
use Rattle.mutation.proofs.writes.extend.Goals as goal

pub returns : goal.returns
unfolding extended
returns c =
    let a = c.args in
    c.put-2.ensures
    ∙ ap (λ (X : Cols). write X a.family.ends a.owner (a.n + 1))
    (c.put.ensures
    ∙ ap (write (columns a.store.now) a.family.firsts a.owner)
    (c.begin.ensures ∙ ap₂ (λ (f e : ℕ). begun f e a.n) c.at-first.ensures c.at-end.ensures))
