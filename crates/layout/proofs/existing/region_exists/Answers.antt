-- `region_exists` meets its contract: the count is the length of the store's list. Assumes nothing.
use mathlib.Core.Path.{sym, ap, ◌∙◌}
use lib.Dec.{ltb}
use Rattle.layout.specs.Columns.{columns}
use Rattle.layout.specs.Reading.{region_count}
use Rattle.layout.proofs.Tabulate.{region_exists_lem}
use Rattle.layout.proofs.existing.region_exists.Goals as goal

pub returns : goal.returns
unfolding region_count
returns c =
    let a = c.args in
    ap (ltb a.n) c.at.ensures ∙ sym (region_exists_lem (columns a.store.now) a.n)
