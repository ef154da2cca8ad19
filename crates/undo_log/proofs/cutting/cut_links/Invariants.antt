-- `cut_links` meets its contract: after each turn one link more is that of the children that stay. Assumes nothing.
use Prim.Native.Nat.{ℕ}
use Rattle.layout.specs.Columns.{columns, at}
use Rattle.undo_log.specs.CutWrites.{link_cut}
use Rattle.undo_log.proofs.Written.{Filled}
use Rattle.undo_log.proofs.cutting.cut_links.Given as goal

abbrev pub invariant-loop-i : goal.invariant-loop-i
invariant-loop-i l =
    Filled (columns l.initial.store) l.links (λ (j : ℕ). link_cut l.count (at (columns l.initial.store) l.links j)) l.count (columns l.store) l.i
