-- `put_operand` meets its contract: one word is written. Assumes nothing.
use Prim.Native.Nat.{ℕ, ◌+◌}
use mathlib.Core.Path.{ap, ◌∙◌}
use Rattle.layout.specs.Columns.{columns, write, operand_words}
use Rattle.mutation.specs.SetWrites.{with_operand}
use Rattle.mutation.proofs.operands.put_operand.Goals as goal

pub returns : goal.returns
unfolding with_operand
returns c =
    let a = c.args in
    c.put.ensures ∙ ap (λ (k : ℕ). write (columns a.store.now) operand_words (k + a.i) a.v) c.number-first.ensures
