-- `wz_convert` meets its contract: the answer's numbers stand for it. Assumes nothing.
use Rattle.warzhigo_c.proofs.Converting.{told}
use Rattle.warzhigo_c.proofs.listings.wz_convert.Goals as goal

pub returns : goal.returns
returns c = rw c.of_converted.ensures (told c.args.listing.now c.args.out.now c.convert.new.out c.convert.result c.convert.ensures)
