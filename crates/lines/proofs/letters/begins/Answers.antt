-- `begins` meets its contract: the letter is read of the first field. Assumes nothing.
use Rattle.std.proofs.Common.{ap, ◌∙◌}
use Rattle.lines.specs.Reading.{begins_with}
use Rattle.lines.proofs.FirstLetter.{first_letter}
use Rattle.lines.proofs.letters.begins.Goals as goal

pub returns : goal.returns
returns c =
    c.eq.ensures ∙ first_letter c.args.letter _ _ c.letter.result c.letter.ensures.reads ∙ ap (begins_with c.args.letter) c.new.ensures.fields
