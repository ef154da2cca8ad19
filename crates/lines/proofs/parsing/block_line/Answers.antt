-- `block_line` meets its contract: its line is a number, a label where the edition has one, a number, a list, and nothing more. Assumes nothing.
use Rattle.rules.specs.Lines.{block_line, wholly}
use Rattle.lines.specs.Parsing.{block_line_of, ArgumentsFit}
use Rattle.lines.proofs.Ended.{ended, kept_if}
use Rattle.lines.proofs.parsing.block_line.Goals as goal

pub returns : goal.returns
unfolding block_line wholly
returns c =
    record {
      same =
          rw (c.in_ok-region.ensures.reads, c.in_ok-skip_label.ensures.reads, c.in_ok-location.ensures.reads, c.in_ok-arguments.ensures.same)
          (ended (block_line_of c.items.new.list) _ _ _ _ c.is_empty.ensures c.then_some.ensures);
      fit = kept_if (ArgumentsFit c.items.new.list) tt _ c.in_ok-arguments.ensures.fit _ _ c.then_some.ensures;
    }
