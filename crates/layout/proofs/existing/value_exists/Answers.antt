-- `value_exists` meets its contract: the count is the length of the store's list. Assumes nothing.
use mathlib.Core.Path.{sym, ap, ◌∙◌}
use lib.Dec.{ltb}
use Rattle.layout.specs.Columns.{columns}
use Rattle.layout.specs.Reading.{value_count}
use Rattle.layout.proofs.Tabulate.{value_exists_lem}
use Rattle.layout.proofs.existing.value_exists.Goals as goal

pub returns : goal.returns
unfolding value_count
returns c =
    let a = c.args in
    ap (ltb a.n) c.at.ensures ∙ sym (value_exists_lem (columns a.store.now) a.n)
