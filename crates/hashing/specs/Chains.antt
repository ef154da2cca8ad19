-- Starts whose sums fall into one bucket, one after the other: for each bucket its first, and for each start the next one of its bucket.
use Rattle.std.specs.Prelude.{◌≡◌, ℕ, suc, ◌/◌, ◌^◌, ◌<◌, ◌≤◌, List, ◌≢◌, length, slice_index, slice_index_or}
use Rattle.std.specs.Prelude as std
use Rattle.rules.specs.Store.{max_ops}
use Rattle.hashing.specs.declared.chains.Chains.{Chains}

-- the upper 9 bits of a sum
unfoldable pub bucket_of : ℕ → ℕ
bucket_of sum = sum / 2 ^ 55

-- no start from a up to e is of the bucket
abbrev pub Without : List ℕ → ℕ → ℕ → ℕ → Type 0
Without sums b a e = (i : ℕ) → a ≤ i → i < e → bucket_of (slice_index sums i) ≢ b

-- e is the first start of the bucket from a on
pub record FirstFrom (sums : List ℕ) (b a e : ℕ) : Type 0 where
  pub from : a ≤ e
  pub bound : e < length sums
  pub own : bucket_of (slice_index sums e) ≡ b
  pub none : Without sums b a e

-- so it is with the start that is answered; or none is, and there is none
unfoldable pub Follows : List ℕ → ℕ → ℕ → std.Option ℕ → Type 0
Follows sums b a (std.Some e) = FirstFrom sums b a e
Follows sums b a std.None = Without sums b a (length sums)

-- each bucket has its first start, and each start the next one of its bucket
pub record Chained (sums : List ℕ) (chains : Chains) : Type 0 where
  pub begins : (b : ℕ) → b < max_ops → Follows sums b 0 (slice_index_or chains.first b std.None)
  pub goes : (i : ℕ) → i < length sums → Follows sums (bucket_of (slice_index sums i)) (suc i) (slice_index_or chains.next i std.None)
