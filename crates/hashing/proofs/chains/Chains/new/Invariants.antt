-- `new` meets its contract: after each turn one start more is chained. Assumes nothing.
use Rattle.std.proofs.Common.{◌≡◌, length}
use Rattle.hashing.proofs.Linking.{Linked}
use Rattle.hashing.proofs.chains.Chains.new.Given as goal

abbrev pub invariant-loop-i : goal.invariant-loop-i
invariant-loop-i l = (length l.first ≡ 512) × (length l.next ≡ 512) × Linked l.sums l.first l.next l.i
