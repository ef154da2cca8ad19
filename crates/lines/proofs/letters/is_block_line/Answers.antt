-- `is_block_line` meets its contract: 98 is the byte of `b`. Assumes nothing.
use Rattle.std.proofs.Common.{◌∙◌}
use Rattle.lines.proofs.FirstLetter.{begins_b}
use Rattle.lines.proofs.letters.is_block_line.Goals as goal

pub returns : goal.returns
returns c = c.begins.ensures ∙ begins_b _
