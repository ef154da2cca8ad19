-- Two runs of a block's operations, as they are walked through, and what is searched for.
use Rattle.std.specs.Prelude.{ℕ, suc, ◌+◌, ◌-◌, ◌<◌, ◌≤◌, List, ◌≡◌, length}
use Rattle.std.specs.Prelude as std
use Rattle.std.specs.List.{flat_map}
use Rattle.rules.specs.Store.{Store, ops_of, results_of}
use Rattle.rules.specs.declared.types.Sort.TheVariants.{Block as block}
use Rattle.rules.specs.Comparison.{State, Walk, ◌>>=◌, pairwise, each_pair, pair_of, pair_ops}
use Rattle.rules.specs.Runs.{run_of}
use Rattle.layout.specs.Columns.{columns}
use Rattle.layout.specs.Reading.{block_count, store_in}
use Rattle.fragments.specs.Options.{Options, renamed_under}
use Rattle.equivalence.specs.Walked.{op_walk}
use Rattle.hashing.specs.Chains.{Chained}
use Rattle.hashing.specs.declared.chains.Chains.{Chains}
use Rattle.repeated_runs.specs.declared.types.TwoRuns.{TwoRuns}

-- ops are all operations of the block
pub record OpsOf (store ops : List ℕ) (b : ℕ) : Type 0 where
  pub here : b < block_count (columns store)
  pub all : ops ≡ ops_of (store_in store) b

-- two runs that lie in them
pub record RunsIn (store ops : List ℕ) (w : TwoRuns) : Type 0 where
  pub listed : OpsOf store ops w.runs.block
  pub some : 1 ≤ w.runs.n
  pub left : w.left + w.runs.n ≤ length ops
  pub right : w.right + w.runs.n ≤ length ops

abbrev pub left_run : List ℕ → TwoRuns → List ℕ
left_run ops w = run_of ops w.runs.n w.left

abbrev pub right_run : List ℕ → TwoRuns → List ℕ
right_run ops w = run_of ops w.runs.n w.right

-- what the left run defines
abbrev pub left_results : Store → List ℕ → TwoRuns → List ℕ
left_results s ops w = flat_map (results_of s) (left_run ops w)

-- pass 2, pass 3, and one after the other
abbrev pub pair_walk : Store → Options → List ℕ → TwoRuns → State → Walk
pair_walk s o ops w st = pairwise (pair_ops (renamed_under o s) o.ignore) (pair_of block w.runs.block w.runs.block) (left_run ops w) (right_run ops w) st

abbrev pub check_walk : Store → Options → List ℕ → TwoRuns → State → Walk
check_walk s o ops w st = each_pair (op_walk s o) (left_run ops w) (right_run ops w) st

unfoldable pub runs_walk : Store → Options → List ℕ → TwoRuns → State → Walk
runs_walk s o ops w st = pair_walk s o ops w st >>= check_walk s o ops w

-- ---- starts

-- the sums are those of all starts of runs of n operations, which are chained by their buckets
pub record ChainedStarts (sums : List ℕ) (chains : Chains) (ops : List ℕ) (n : ℕ) : Type 0 where
  pub long : length sums ≡ suc (length ops) - n
  pub chained : Chained sums chains
