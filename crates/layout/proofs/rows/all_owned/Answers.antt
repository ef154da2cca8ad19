-- `all_owned` meets its contract: the words in the range are a slice of the column. Assumes nothing.
use Prim.Native.Nat.{ℕ, ◌≤◌}
use mathlib.Core.Path.{sym, ap, subst, ◌∙◌}
use lib.Dec.{eqb}
use Rattle.std.specs.List.{list_all}
use Rattle.layout.specs.Columns.{columns}
use Rattle.layout.proofs.Buffer.{columns_shaped}
use Rattle.layout.proofs.Scans.{owned_slice}
use Rattle.layout.proofs.rows.all_owned.Goals as goal

pub returns : goal.returns
returns c =
    let a = c.args in
    c.all_are.ensures
    ∙ ap (list_all (λ (x : ℕ). eqb x a.w)) c.words.ensures
    ∙ owned_slice (columns a.store.now) a.column a.a a.e a.w
    (subst (λ (n : ℕ). a.e ≤ n) (sym (columns_shaped a.store.now c.told-store a.column)) c.requires.e_bound)
