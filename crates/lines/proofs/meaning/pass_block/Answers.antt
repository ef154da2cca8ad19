-- `pass_block` meets its contract: its line is a number, a label where the edition has one, a number, a list, and nothing more. Assumes nothing.
use Rattle.rules.specs.Lines.{wholly}
use Rattle.lines.proofs.Ended.{ended_unkept, block_passed}
use Rattle.lines.proofs.meaning.pass_block.Goals as goal

pub returns : goal.returns
unfolding wholly
returns c =
    rw (block_passed, c.in_ok-number.ensures.reads, c.in_ok-skip_label.ensures.reads, c.in_ok-number-2.ensures.reads, c.in_ok-pass_items.ensures)
    (ended_unkept _ _ _ c.is_empty.ensures c.then_some.ensures)
