-- A walk begins before the first operation. Assumes nothing.
use Rattle.layout.proofs.Seeking.{from_zero}
use Rattle.layout.proofs.ops_in.OpsIn.new.Goals as goal

pub returns : goal.returns
returns c = from_zero _
