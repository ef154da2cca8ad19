-- `kinds_fit` meets its contract: the kinds are a slice of their column. Assumes nothing.
use Prim.Native.Nat.{ℕ}
use native.Mathlib.Omega.{arith}
use mathlib.Core.Path.{ap, ◌∙◌}
use lib.Dec.{ltb}
use Rattle.std.specs.List.{list_all}
use Rattle.layout.specs.Columns.{columns, slot_kind}
use Rattle.layout.proofs.Buffer.{columns_shaped}
use Rattle.layout.proofs.Slots.{kinds_slice}
use Rattle.layout.proofs.ruled.kinds_fit.Goals as goal

pub returns : goal.returns
returns c =
    let C = columns c.args.store.now in
    c.all_below.ensures
    ∙ ap (list_all (λ (x : ℕ). ltb x 128)) c.words.ensures
    ∙ kinds_slice C c.args.first c.args.count (omega (arith, columns_shaped c.args.store.now c.told-store slot_kind))
