-- The operation that one has come to lies inside exactly where m does; each step up leads to a smaller number. Assumes nothing.
use Rattle.std.proofs.Common.{◌≡◌, ◌<◌}
use Rattle.rules.specs.Fragments.{fragment_ops}
use Rattle.rules.specs.Copying.{has_place}
use Rattle.layout.specs.Columns.{columns}
use Rattle.layout.specs.Reading.{op_count, store_in}
use Rattle.fragments.proofs.inside.Fragment.op_inside.Given as goal

abbrev pub invariant-loop-at : goal.invariant-loop-at
invariant-loop-at l =
    let holds = has_place (fragment_ops (store_in l.self.store.now) l.self.sort l.self.n) in
    record { bound : l.at < op_count (columns l.self.store.now); same : holds l.at ≡ holds l.m }

abbrev pub decreases-loop-at : goal.decreases-loop-at
decreases-loop-at l = l.at
