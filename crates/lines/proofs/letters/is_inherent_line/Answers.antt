-- `is_inherent_line` meets its contract: 105 is the byte of `i`. Assumes nothing.
use Rattle.std.proofs.Common.{◌∙◌}
use Rattle.lines.proofs.FirstLetter.{begins_i}
use Rattle.lines.proofs.letters.is_inherent_line.Goals as goal

pub returns : goal.returns
returns c = c.begins.ensures ∙ begins_i _
