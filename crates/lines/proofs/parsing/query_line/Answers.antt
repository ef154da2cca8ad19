-- `query_line` meets its contract: its line is a sort, two numbers, 0 or 1, the bits, and nothing more. Assumes nothing.
use Rattle.rules.specs.Lines.{query_line, wholly}
use Rattle.lines.specs.Parsing.{query_of}
use Rattle.lines.proofs.Ended.{ended}
use Rattle.lines.proofs.parsing.query_line.Goals as goal

pub returns : goal.returns
unfolding query_line wholly
returns c =
    rw (c.in_ok-sort.ensures, c.in_ok-left.ensures.reads, c.in_ok-right.ensures.reads, c.in_ok-flag.ensures.reads, c.in_ok-locations.ensures, c.in_ok-bits.ensures.reads)
    (ended query_of _ _ _ _ c.is_empty.ensures c.then_some.ensures)
