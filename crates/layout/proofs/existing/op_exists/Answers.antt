-- `op_exists` meets its contract: the count is the length of the store's list. Assumes nothing.
use mathlib.Core.Path.{sym, ap, ◌∙◌}
use lib.Dec.{ltb}
use Rattle.layout.specs.Columns.{columns}
use Rattle.layout.specs.Reading.{op_count}
use Rattle.layout.proofs.Tabulate.{op_exists_lem}
use Rattle.layout.proofs.existing.op_exists.Goals as goal

pub returns : goal.returns
unfolding op_count
returns c =
    let a = c.args in
    ap (ltb a.n) c.at.ensures ∙ sym (op_exists_lem (columns a.store.now) a.n)
