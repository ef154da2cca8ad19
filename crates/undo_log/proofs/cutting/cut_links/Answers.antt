-- `cut_links` meets its contract: after each turn one link more is that of the children that stay. Assumes nothing.
use mathlib.Core.Path.{ap, ◌∙◌}
use Rattle.layout.specs.Columns.{columns}
use Rattle.undo_log.specs.CutWrites.{link_cut, links_cut}
use Rattle.undo_log.proofs.Written.{fill_starts, fill_own, fill_turn, fill_done}
use Rattle.undo_log.proofs.cutting.cut_links.Goals as goal

pub loop-i-init : goal.loop-i-init
loop-i-init c = let a = c.args in fill_starts (columns a.store.now) a.links _ a.count

pub loop-i-preserved : goal.loop-i-preserved
loop-i-preserved c =
    let l = c.loop-i in
    let a = c.args in
    fill_turn l.invariant _ c.loop-i-test.true c.put.ensures
    (c.link_cut-link.ensures ∙ ap (link_cut a.count) (c.at.ensures ∙ fill_own l.invariant))

pub returns : goal.returns
unfolding links_cut
returns c = fill_done c.loop-i.invariant c.loop-i-test.false
