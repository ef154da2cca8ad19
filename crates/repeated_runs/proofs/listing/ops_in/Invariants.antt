-- `ops_in` meets its contract: the operations that came are written, one behind the other. Assumes nothing.
use Rattle.std.proofs.Common.{◌≡◌, length, take}
use Rattle.repeated_runs.proofs.listing.ops_in.Given as goal

abbrev pub invariant-loop-n : goal.invariant-loop-n
invariant-loop-n l = (l.passed ≡ length l.yielded) × (take l.passed l.ops ≡ l.yielded) × (length l.ops ≡ 512)
