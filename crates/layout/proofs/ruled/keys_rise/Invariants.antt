-- `keys_rise` meets its contract: each turn leaves the keys behind the next slot to look at. Assumes nothing.
use Rattle.std.proofs.Common.{◌≡◌, ◌-◌}
use Rattle.rules.specs.Store.{keys_rise}
use Rattle.layout.specs.Columns.{columns}
use Rattle.layout.specs.Reading.{attributes_from}
use Rattle.layout.proofs.Slots.{keys_from}
use Rattle.layout.proofs.ruled.keys_rise.Given as goal

abbrev pub invariant-loop-i : goal.invariant-loop-i
invariant-loop-i l = keys_rise (attributes_from (columns l.store) l.first l.count) ≡ keys_from (columns l.store) l.first l.count (l.i - 1)
