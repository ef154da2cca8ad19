-- `nesting_holds` meets its contract: the depth of a parent is what nesting asks about. Assumes nothing.
use Prim.Native.Nat.{ℕ}
use mathlib.Core.Path.{ap, ◌∙◌}
use lib.Dec.{leb}
use Rattle.mutation.proofs.Operating.{nesting_by_depth}
use Rattle.mutation.proofs.tests.nesting_holds.Goals as goal

pub returns : goal.returns
returns c =
    let b = c.args.store.now in
    ap (λ (x : ℕ). leb x 32) c.depth_under.ensures ∙ nesting_by_depth b c.requires.sound c.args.parent c.requires.parent_value
