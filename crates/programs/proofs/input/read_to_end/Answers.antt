-- `read_to_end` meets its contract: what was read so far stands at the start of the buffer, and each read leaves less of it. Assumes nothing.
use Rattle.std.proofs.Common.{subst}
use Rattle.std.specs.Io.KnownBytes.{Consumes}
use Rattle.std.proofs.KnownBytes.{Consumes-trans}
use Rattle.programs.proofs.Reading.{take_split}
use Rattle.programs.proofs.input.read_to_end.Goals as goal

pub loop-at-preserved : goal.loop-at-preserved
loop-at-preserved g c =
    let read = c.in_ok-next.ensures in
    (read.fits, subst (Consumes _ _) (take_split _ _ _ _ read.behind read.kept) (Consumes-trans _ _ _ _ _ c.loop-at.invariant.1 read.taken))
