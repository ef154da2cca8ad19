-- All blocks of the list are left at first. Assumes nothing.
use Rattle.layout.proofs.Seeking.{from_zero}
use Rattle.fragments.proofs.order.BlocksIn.new.Goals as goal

pub returns : goal.returns
returns c = from_zero _
