-- `children_linked` meets its contract: the children are gone through from the last to the first. Assumes nothing.
use Rattle.layout.specs.Columns.{columns, at, counts}
use Rattle.layout.specs.Families.{child_linked}
use Rattle.layout.proofs.Going.{Going}
use Rattle.layout.proofs.links.children_linked.Given as goal

abbrev pub invariant-loop-n : goal.invariant-loop-n
invariant-loop-n l =
    Going (columns l.store) l.family.owners (at (columns l.store) counts l.family.table) 512 257 (child_linked (columns l.store) l.family) l.firsts l.n
