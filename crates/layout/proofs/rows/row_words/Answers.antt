-- `row_words` meets its contract: it begins and ends where the row says. Assumes nothing.
use mathlib.Core.Path.{ap₂, ◌∙◌}
use Rattle.layout.specs.Columns.{columns}
use Rattle.layout.specs.Reading.{slice}
use Rattle.layout.proofs.rows.row_words.Goals as goal

pub returns : goal.returns
returns c =
    let a = c.args in
    c.words.ensures ∙ ap₂ (slice (columns a.store.now a.column)) c.number.ensures c.number-2.ensures
