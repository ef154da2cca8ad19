-- `attributes_eq` meets its contract: it goes through both runs from one kept slot to the next. Assumes nothing.
use Rattle.layout.specs.Columns.{columns}
use Rattle.fragments.specs.SlotsLeft.{slots_left}
use Rattle.equivalence.proofs.Kept.{Walking}
use Rattle.equivalence.proofs.attributes.attributes_eq.Given as goal

abbrev pub invariant-loop-i : goal.invariant-loop-i
invariant-loop-i l =
    (goal.iterator-loop-i).can_next l.ls
    × (goal.iterator-loop-i).is_finite l.ls
    × Walking (columns l.store) l.fn.ignore l.fn.l l.fn.lend l.fn.r l.fn.rend (slots_left l.ls) (slots_left l.rs)
