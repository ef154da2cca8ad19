-- `holds` meets its contract: it hands on what `within` says of the row's words. Assumes nothing.
use Prim.Native.Nat.{ℕ}
use mathlib.Core.Path.{ap₂, ◌∙◌}
use Rattle.layout.specs.Soundness.{within}
use Rattle.layout.proofs.rows.holds.Goals as goal

pub returns : goal.returns
returns c = let n = c.args.n in c.within.ensures ∙ ap₂ (λ (x y : ℕ). within x y n) c.number.ensures c.number-2.ensures
