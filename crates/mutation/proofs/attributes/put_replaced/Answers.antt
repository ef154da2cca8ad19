-- `put_replaced` meets its contract: one word after the other. Assumes nothing.
use mathlib.Core.Path.{ap, ◌∙◌}
use Rattle.layout.specs.Columns.{Cols, columns, write}
use Rattle.mutation.specs.SetWrites.{replaced}
use Rattle.mutation.proofs.attributes.put_replaced.Goals as goal

pub returns : goal.returns
unfolding replaced
returns c =
    let a = c.args in
    c.put-2.ensures
    ∙ ap (λ (X : Cols). write X 30 a.slot a.attribute.content)
    (c.put.ensures ∙ ap (write (columns a.store.now) 29 a.slot) c.kind_code-word.ensures)
