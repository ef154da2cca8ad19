-- `copy_attributes` meets its contract: the first of the attributes are the other owner's so far, and the total has grown by as many. Assumes nothing.
use Rattle.std.proofs.Common.{◌≡◌, ◌+◌, take}
use Rattle.rules.specs.Building.{attributes_of}
use Rattle.layout.specs.Columns.{columns}
use Rattle.layout.specs.Reading.{store_in, attribute_count}
use Rattle.copying.specs.Written.{ReadsAs, attributed}
use Rattle.copying.proofs.writing.copy_attributes.Given as goal

abbrev pub invariant-loop-i : goal.invariant-loop-i
invariant-loop-i l =
    ReadsAs l.initial.store l.store (attributed (store_in l.initial.store) l.to (take l.i (attributes_of (store_in l.initial.store) l.from)))
    × (attribute_count (columns l.store) ≡ attribute_count (columns l.initial.store) + l.i)
