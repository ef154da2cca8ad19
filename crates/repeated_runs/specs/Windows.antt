-- A block's operations in lent words, and the sums of its windows.
use Rattle.std.specs.Prelude.{◌≡◌, ℕ, ◌+◌, ◌≤◌, List, map, length, take, slice_index}
use Rattle.rules.specs.Store.{Store}
use Rattle.rules.specs.Runs.{run_of, shell_hash, weighted, window_sum}
use Rattle.fragments.specs.Options.{Options, renamed_under}

-- the first r words are the list
pub record Lists (words list : List ℕ) (r : ℕ) : Type 0 where
  pub many : r ≡ length list
  pub first : take r words ≡ list

-- each window of n operations has its sum at its start
abbrev pub SumsOf : Store → Options → List ℕ → List ℕ → ℕ → Type 0
SumsOf s o ops sums n = (i : ℕ) → i + n ≤ length ops → slice_index sums i ≡ window_sum (renamed_under o s) o.ignore (run_of ops n i)

-- ---- how they are made

-- the first words are the shell hashes of these operations
abbrev pub HashesOf : Store → Options → List ℕ → List ℕ → Type 0
HashesOf s o ops hashes = take (length ops) hashes ≡ map (shell_hash (renamed_under o s) o.ignore) ops

-- each window of n of these hashes has its sum at its start
abbrev pub WeightsOf : List ℕ → List ℕ → ℕ → Type 0
WeightsOf hashes sums n = (i : ℕ) → i + n ≤ length hashes → slice_index sums i ≡ weighted (run_of hashes n i)
