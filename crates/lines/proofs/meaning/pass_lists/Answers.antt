-- `pass_lists` meets its contract: it passes over one list after the other, and nothing more is left. Assumes nothing.
use Rattle.rules.specs.Lines.{wholly}
use Rattle.lines.proofs.Ended.{ended_unkept, lists_passed}
use Rattle.lines.proofs.meaning.pass_lists.Goals as goal

pub returns : goal.returns
unfolding wholly
returns c =
    rw (lists_passed, c.in_ok-pass_items.ensures, c.in_ok-pass_items-2.ensures, c.in_ok-pass_items-3.ensures)
    (ended_unkept _ _ _ c.is_empty.ensures c.then_some.ensures)
