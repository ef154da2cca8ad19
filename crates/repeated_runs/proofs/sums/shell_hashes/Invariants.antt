-- `shell_hashes` meets its contract: after each turn one hash more is in its place. Assumes nothing.
use Rattle.std.proofs.Common.{ℕ}
use Rattle.rules.specs.Store.{Store}
use Rattle.rules.specs.Runs.{shell_hash}
use Rattle.layout.specs.Reading.{store_in}
use Rattle.fragments.specs.Options.{Options, renamed_under}
use Rattle.fragments.specs.View.{options_in}
use Rattle.repeated_runs.proofs.Summed.{Hashed}
use Rattle.repeated_runs.proofs.sums.shell_hashes.Given as goal

-- an operation's hash
abbrev pub hash_by : Store → Options → ℕ → ℕ
hash_by s o = shell_hash (renamed_under o s) o.ignore

abbrev pub invariant-loop-k : goal.invariant-loop-k
invariant-loop-k l = Hashed (hash_by (store_in l.view.store.now) (options_in l.view)) l.ops l.hashes l.k
