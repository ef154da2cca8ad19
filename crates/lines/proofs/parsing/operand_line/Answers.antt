-- `operand_line` meets its contract: its line is three numbers and nothing more. Assumes nothing.
use Rattle.rules.specs.Lines.{operand_line, wholly}
use Rattle.lines.specs.Parsing.{operand_line_of}
use Rattle.lines.proofs.Ended.{ended}
use Rattle.lines.proofs.parsing.operand_line.Goals as goal

pub returns : goal.returns
unfolding operand_line wholly
returns c =
    rw (c.in_ok-operation.ensures.reads, c.in_ok-index.ensures.reads, c.in_ok-value.ensures.reads)
    (ended operand_line_of _ _ _ _ c.is_empty.ensures c.then_some.ensures)
