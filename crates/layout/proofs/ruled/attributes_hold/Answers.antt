-- `attributes_hold` meets its contract: no more than eight slots are read. Assumes nothing.
use native.Mathlib.Omega.{arith}
use mathlib.Core.Path.{sym, ◌∙◌}
use Rattle.rules.specs.Store.{attributes_hold}
use Rattle.layout.specs.Columns.{columns}
use Rattle.layout.proofs.Scans.{stop, next, last}
use Rattle.layout.proofs.Slots.{keys_few}
use Rattle.layout.proofs.ruled.attributes_hold.Goals as goal

pub returns-then-keys_rise : goal.returns-then-keys_rise
unfolding attributes_hold
returns-then-keys_rise c =
    let a = c.args in
    sym (next _ _ (sym c.keys_rise.ensures ∙ c.if-keys_rise.true) (next _ _ (keys_few (columns a.store.now) a.first a.count (omega arith)) (last _ (sym c.kinds_fit.ensures))))

pub returns-else-keys_rise : goal.returns-else-keys_rise
unfolding attributes_hold
returns-else-keys_rise c = c.if-keys_rise.false ∙ sym (stop _ _ (sym c.keys_rise.ensures ∙ c.if-keys_rise.false))
