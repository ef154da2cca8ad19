-- `convert_printed` meets its contract: the room that is enough for the other programs is enough. Assumes nothing.
use Rattle.programs.proofs.Printing.{all_converted}
use Rattle.programs.proofs.answers.convert_printed.Goals as goal

pub returns : goal.returns
returns c = rw c.unwrap_or.ensures (all_converted c.args.listing.now c.args.out.now _ c.requires c.convert.result c.convert.ensures)
