-- Order 4, "Repeated runs inside a block": when two runs of a block's operations are equal, which two are found, the window by which
-- candidates are found, and what the call answers.
use Rattle.rules.specs.declared.types.Cause.{Cause}
use Rattle.rules.specs.declared.types.Cause.TheVariants.{NotSound, NotThere, BadTypes, BadRunLength}
use Rattle.std.specs.Prelude.{ℕ, zero, suc, ◌+◌, ◌-◌, ◌*◌, ◌%◌, ◌^◌, Bool, cond, ◌&&◌, List, [], ◌∷◌, map, leb, length, take, drop, Option, None, Some}
use Rattle.rules.specs.Store.{Store, ops_of}
use Rattle.rules.specs.declared.types.Owner.TheVariants.{Op as of_op}
use Rattle.rules.specs.Fragments.{exists, levels, shell}
use Rattle.rules.specs.declared.types.Sort.TheVariants.{Block as block}
use Rattle.rules.specs.Building.{first_failed}
use Rattle.rules.specs.declared.types.Ignore.{Ignore}
use Rattle.rules.specs.Mapping.{empty_mapping}
use Rattle.rules.specs.Types.{types_hold, renamed}
use Rattle.rules.specs.Comparison.{Walk, pairwise, each_pair, pair_of, pair_ops, check_ops, compare_regions, ◌>>=◌, start}
use Rattle.rules.specs.Hash.{fnv, fnv_prime, uncounted, no_numbers, feeds}
use Rattle.rules.specs.Laws.{succeeds}

-- ---- "equal by passes 2 and 3 from an empty mapping under a given ignore rule, earlier run on the left"

-- pass 2 pairs the operations of the two, and pass 3 checks every pair, as in two blocks; runs of one length end together
unfoldable pub compare_runs : Store → Ignore → ℕ → List ℕ → List ℕ → Walk
compare_runs s ig b ls rs =
    pairwise (pair_ops s ig) (pair_of block b b) ls rs (start empty_mapping) >>= each_pair (check_ops s (compare_regions levels s ig)) ls rs

-- "Starts count from 0 in the block": so many of its operations, from a start on
unfoldable pub run_of : List ℕ → ℕ → ℕ → List ℕ
run_of ops n i = take n (drop i ops)

-- the runs of n operations from i and from j on are equal, the one from i on the left
unfoldable pub same_runs : Store → Ignore → ℕ → ℕ → ℕ → ℕ → Bool
same_runs s ig b n i j = succeeds (compare_runs s ig b (run_of (ops_of s b) n i) (run_of (ops_of s b) n j))

-- ---- "find two runs that don't overlap and are equal ... Of several, the smallest right start wins, then the smallest left."

-- two starts
pub record Run : Type 0 where
  pub left : ℕ
  pub right : ℕ

-- of k numbers, from i on, the first that passes the test
unfoldable pub first_of : ℕ → ℕ → (ℕ → Bool) → Option ℕ
first_of zero i p = None
first_of (suc k) i p = cond (p i) (Some i) (first_of k (suc i) p)

-- the smallest left start that is equal to this right one, and whose run ends before it: i + n ≤ j
unfoldable pub left_start : Store → Ignore → ℕ → ℕ → ℕ → Option ℕ
left_start s ig b n j = first_of (suc j - n) 0 (λ (i : ℕ). same_runs s ig b n i j)

-- with this right start if it has a left one, else what comes later
unfoldable pub or_later : Option ℕ → ℕ → Option Run → Option Run
or_later None j later = later
or_later (Some i) j later = Some (record { left = i; right = j })

-- of k right starts, from j on, the first that has a left one
unfoldable pub first_run : ℕ → ℕ → (ℕ → Option ℕ) → Option Run
first_run zero j lefts = None
first_run (suc k) j lefts = or_later (lefts j) j (first_run k (suc j) lefts)

-- right starts are those whose run ends in the block: j + n ≤ its number of operations
unfoldable pub repeated : Store → Ignore → ℕ → ℕ → Option Run
repeated s ig b n = first_run (suc (length (ops_of s b)) - n) 0 (left_start s ig b n)

-- ---- "a window: the sum of each operation's shell hash, begun with an empty numbering, times 1099511628211 to the power of its distance
-- from the window's end, modulo 2^64"

unfoldable pub shell_hash : Store → Ignore → ℕ → ℕ
shell_hash s ig n = fnv (feeds uncounted s ig (shell (of_op n)) no_numbers)

-- the last of the words has distance 0
unfoldable pub weighted : List ℕ → ℕ
weighted [] = 0
weighted (w ∷ ws) = (w * fnv_prime ^ length ws + weighted ws) % 2 ^ 64

unfoldable pub window_sum : Store → Ignore → List ℕ → ℕ
window_sum s ig ops = weighted (map (shell_hash s ig) ops)

-- ---- order 6: the sum of a window, kept from the window one start before

-- a subtraction that wraps at 2^64
unfoldable pub wrapping_sub : ℕ → ℕ → ℕ
wrapping_sub a b = (a + (2 ^ 64 - b % 2 ^ 64)) % 2 ^ 64

-- the term of the word that leaves is taken out, the k words that stay are one further from the end, and a word enters
unfoldable pub kept_sum : ℕ → ℕ → ℕ → ℕ → ℕ
kept_sum sum leaving k entering = (wrapping_sub sum (leaving * fnv_prime ^ k) * fnv_prime + entering) % 2 ^ 64

-- ---- answers: "15, after 2, for run length 0 or over 256"

abbrev pub max_run : ℕ
max_run = 256

pub data Repeated : Type 0 where
  run_found : Run → Repeated
  no_run : Repeated
  refused_run : Cause → Repeated

unfoldable pub run_tests : Bool → Store → List ℕ → ℕ → ℕ → List (Bool × Cause)
run_tests lent s types b n =
    (lent, NotSound)
    ∷ (types_hold types, BadTypes)
    ∷ (exists s block b, NotThere)
    ∷ (leb 1 n && leb n max_run, BadRunLength)
    ∷ []

unfoldable pub repeated_of : Option Run → Repeated
repeated_of None = no_run
repeated_of (Some r) = run_found r

unfoldable pub repeated_by : Option Cause → Option Run → Repeated
repeated_by None found = repeated_of found
repeated_by (Some cause) found = refused_run cause

-- `repeated_run` with a lent list of types
unfoldable pub repeated_run : Bool → Store → List ℕ → Ignore → ℕ → ℕ → Repeated
repeated_run lent s types ig b n = repeated_by (first_failed (run_tests lent s types b n)) (repeated (renamed types s) ig b n)
