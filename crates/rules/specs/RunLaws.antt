-- What is proved of repeated runs: the first two that are equal are found, and what the search rests on.
use Rattle.std.specs.Prelude.{ℕ, ◌+◌, ◌<◌, ◌≤◌, true, ◌↔◌, ◌⊎◌, ◌≡◌, length, get_or, None, Some}
use mathlib.Core.List.{List, [], ◌∷◌, ◌++◌, Memᴰ}
use Rattle.std.specs.List.{flat_map}
use Rattle.rules.specs.Store.{Store, op_at, ops_of, results_of, sound}
use Rattle.rules.specs.declared.types.Sort.TheVariants.{Block as block}
use Rattle.rules.specs.declared.types.Ignore.{Ignore}
use Rattle.rules.specs.Types.{types_hold, renamed}
use Rattle.rules.specs.Laws.{In, succeeds}
use Rattle.rules.specs.Runs.{Run, compare_runs, same_runs, repeated, window_sum, weighted, kept_sum, max_run, repeated_of, repeated_run}

-- two starts of runs in a block that don't overlap, the left one first
unfoldable pub Apart : Store → ℕ → ℕ → Run → Type 0
Apart s b n r = (r.left + n ≤ r.right) × (r.right + n ≤ length (ops_of s b))

unfoldable pub Same : Store → Ignore → ℕ → ℕ → Run → Type 0
Same s ig b n r = same_runs s ig b n r.left r.right ≡ true

-- a smaller right start, or the same and no larger left one
unfoldable pub Before : Run → Run → Type 0
Before r q = (r.right < q.right) ⊎ ((r.right ≡ q.right) × (r.left ≤ q.left))

-- what is found lies in the block, doesn't overlap and is equal, and of several "the smallest right start wins, then the smallest left":
-- `repeated_found`
unfoldable pub RepeatedFound : Type 0
RepeatedFound =
    (s : Store) (ig : Ignore) (b n : ℕ) (r : Run) → repeated s ig b n ≡ Some r
    → Apart s b n r × Same s ig b n r × ((q : Run) → Apart s b n q → Same s ig b n q → Before r q)

-- "None is reported exactly when no such two runs exist": `repeated_none`
unfoldable pub RepeatedNone : Type 0
RepeatedNone =
    (s : Store) (ig : Ignore) (b n : ℕ)
    → (repeated s ig b n ≡ None) ↔ ((r : Run) → Apart s b n r → Same s ig b n r → ⊥)

-- equal runs have equal window sums, whatever they name: candidates by sums miss none: `same_window`
unfoldable pub SameWindow : Type 0
SameWindow =
    (s : Store) (ig : Ignore) (b : ℕ) (ls rs : List ℕ) → succeeds (compare_runs s ig b ls rs) ≡ true
    → window_sum s ig ls ≡ window_sum s ig rs

-- order 6: the sum kept from a window to the next is the next window's sum: `kept_sum_lem`
unfoldable pub KeptSum : Type 0
KeptSum = (w : ℕ) (ws : List ℕ) (v : ℕ) → kept_sum (weighted (w ∷ ws)) w (length ws) v ≡ weighted (ws ++ (v ∷ []))

-- the first operations of equal runs have the same operands, but for results of the left run's own operations, which alone are mapped as
-- the first operands are checked: `first_uses`
unfoldable pub FirstUses : Type 0
FirstUses =
    (s : Store) (ig : Ignore) (b l r : ℕ) (ls rs : List ℕ) → succeeds (compare_runs s ig b (l ∷ ls) (r ∷ rs)) ≡ true
    → (i : ℕ) → i < length (op_at s l).operands
    → (get_or (op_at s l).operands i 0 ≡ get_or (op_at s r).operands i 0)
    ⊎ Memᴰ (get_or (op_at s l).operands i 0) (flat_map (results_of s) (l ∷ ls))

-- a block of a sound store has fewer than 512 operations, since the one around it is none of them: so runs of 256 are never found:
-- `longest_run`
unfoldable pub LongestRun : Type 0
LongestRun = (s : Store) → sound s ≡ true → (ig : Ignore) (b : ℕ) → In s block b → repeated s ig b max_run ≡ None

-- a call for a block that exists and a length from 1 to 256 answers, in a sound store: `repeated_is`
unfoldable pub RepeatedIs : Type 0
RepeatedIs =
    (s : Store) → sound s ≡ true → (types : List ℕ) → types_hold types ≡ true → (ig : Ignore) (b n : ℕ) → In s block b → 1 ≤ n → n ≤ max_run
    → repeated_run true s types ig b n ≡ repeated_of (repeated (renamed types s) ig b n)
