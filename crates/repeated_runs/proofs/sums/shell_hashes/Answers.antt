-- `shell_hashes` meets its contract: each operation of the list is in the store. Assumes nothing.
use Rattle.repeated_runs.proofs.Summed.{entry_below}
use Rattle.repeated_runs.proofs.sums.shell_hashes.Goals as goal

pub shell_hash-requires : goal.shell_hash-requires
shell_hash-requires c = record { n_bound = entry_below _ c.args.ops.now c.loop-k.k c.requires.ops_value c.loop-k-test.true }
