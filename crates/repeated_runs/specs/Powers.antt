-- The powers of FNV's prime modulo 2^64, and the rule that a table of them keeps from entry to entry.
use Rattle.std.specs.Prelude.{◌≡◌, ℕ, ◌*◌, ◌%◌, ◌^◌, ◌<◌, Bool, true, ◌&&◌, List, [], ◌∷◌, length, ◌==◌, slice_index}
use Rattle.rules.specs.Hash.{fnv_prime}
use Rattle.rules.specs.Runs.{max_run}

-- the first entry is p, and each next is the last times FNV's prime
unfoldable pub chained : ℕ → List ℕ → Bool
chained p [] = true
chained p (x ∷ xs) = x == p && chained ((x * fnv_prime) % 2 ^ 64) xs

-- a power for each distance from the end of the longest window
pub record IsPowers (words : List ℕ) : Type 0 where
  pub many : length words ≡ max_run
  pub each : (i : ℕ) → i < max_run → slice_index words i ≡ fnv_prime ^ i % 2 ^ 64
