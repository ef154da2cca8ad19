-- What is proved of a merge plan. All hold under every list of renamed types and after every list of calls, since those stores are sound
-- too.
use Rattle.std.specs.Prelude.{ℕ, map, ◌<◌, true, length, ◌↔◌, ◌≡◌, ◌≢◌}
use mathlib.Core.List.{Memᴰ}
use Rattle.rules.specs.Store.{Store, sound}
use Rattle.rules.specs.Fragments.{fragment_ops, Disjoint}
use Rattle.rules.specs.declared.types.Sort.TheVariants.{Op as op}
use Rattle.rules.specs.declared.types.Ignore.{Ignore}
use Rattle.rules.specs.GroupingLaws.{Twins}
use Rattle.planning.specs.Plan.{Fate, kept, merged, inside, merge_plan, fate_of, gone_ops, fragment_size, saved, fate_word, read_fate}

-- another one stands for r
abbrev pub Merged : Store → Ignore → ℕ → Type 0
Merged s ig r = (m : ℕ) × (fate_of s ig r ≡ merged m)

-- n is a merged operation or inside one
abbrev pub Gone : Store → Ignore → ℕ → Type 0
Gone s ig n = (r : ℕ) × Merged s ig r × Memᴰ n (fragment_ops s op r)

-- the plan has a fate for each operation: `plan_whole`
unfoldable pub PlanWhole : Type 0
PlanWhole = (s : Store) (ig : Ignore) → length (merge_plan s ig) ≡ length s.ops

-- what stands for another comes before it, and is its twin: independent of it, and equal to it with the smaller on the left: `planned_twin`
unfoldable pub PlannedTwin : Type 0
PlannedTwin = (s : Store) (ig : Ignore) (n m : ℕ) → fate_of s ig n ≡ merged m → (m < n) × Twins s ig m n

-- it is the smallest of those before it that are twins of it and not inside a merged one: a smaller twin is inside one: `smallest_stands`
unfoldable pub SmallestStands : Type 0
SmallestStands =
    (s : Store) → sound s ≡ true → (ig : Ignore) (n m : ℕ) → fate_of s ig n ≡ merged m
    → (k : ℕ) → k < m → Twins s ig k n → (r : ℕ) × (fate_of s ig k ≡ inside r)

-- what stands for another is kept, and is at the end of the plan neither merged nor inside a merged one: `stands_kept`
unfoldable pub StandsKept : Type 0
StandsKept =
    (s : Store) → sound s ≡ true → (ig : Ignore) (n m : ℕ) → fate_of s ig n ≡ merged m
    → (fate_of s ig m ≡ kept) × (Gone s ig m → ⊥)

-- one that is kept has no twin before it that is kept: `kept_twinless`
unfoldable pub KeptTwinless : Type 0
KeptTwinless =
    (s : Store) (ig : Ignore) (n : ℕ) → n < length s.ops → fate_of s ig n ≡ kept
    → (m : ℕ) → m < n → fate_of s ig m ≡ kept → Twins s ig m n → ⊥

-- nor one that is merged: each twin before it is inside a merged one: `kept_first`
unfoldable pub KeptFirst : Type 0
KeptFirst =
    (s : Store) → sound s ≡ true → (ig : Ignore) (n : ℕ) → n < length s.ops → fate_of s ig n ≡ kept
    → (m : ℕ) → m < n → Twins s ig m n → (r : ℕ) × (fate_of s ig m ≡ inside r)

-- merged fragments share no operation: `merged_apart`
unfoldable pub MergedApart : Type 0
MergedApart =
    (s : Store) → sound s ≡ true → (ig : Ignore) (n k : ℕ) → Merged s ig n → Merged s ig k → n ≢ k
    → Disjoint (fragment_ops s op n) (fragment_ops s op k)

-- one that is inside a merged one by the plan is: `inside_is`
unfoldable pub InsideIs : Type 0
InsideIs =
    (s : Store) (ig : Ignore) (n r : ℕ) → fate_of s ig n ≡ inside r → (r < n) × Merged s ig r × Memᴰ n (fragment_ops s op r)

-- those that are not kept are those of the merged fragments: `gone_exactly`
unfoldable pub GoneExactly : Type 0
GoneExactly = (s : Store) → sound s ≡ true → (ig : Ignore) (n : ℕ) → (fate_of s ig n ≢ kept) ↔ Gone s ig n

-- and are as many as those have operations: `saved_counts`
unfoldable pub SavedCounts : Type 0
SavedCounts = (s : Store) → sound s ≡ true → (ig : Ignore) → length (gone_ops s ig) ≡ saved s ig

-- the size of a fragment is the number of its operations: `size_counts`
unfoldable pub SizeCounts : Type 0
SizeCounts = (s : Store) (n : ℕ) → fragment_size s n ≡ length (fragment_ops s op n)

-- the words of a plan are read as the plan: `words_read`
unfoldable pub WordsRead : Type 0
WordsRead = (s : Store) → sound s ≡ true → (ig : Ignore) (n : ℕ) → read_fate (map fate_word (merge_plan s ig)) n ≡ fate_of s ig n

-- ---- the rule by which a plan is made, apart from any search: of fates, whatever list or table they stand in

-- n is inside r, which comes before it and is merged
abbrev pub InMerged : Store → (ℕ → Fate) → ℕ → ℕ → Type 0
InMerged s F n r = (r < n) × ((m : ℕ) × (F r ≡ merged m)) × Memᴰ n (fragment_ops s op r)

-- m is a twin before n that is not inside a merged one
abbrev pub Candidate : Store → Ignore → (ℕ → Fate) → ℕ → ℕ → Type 0
Candidate s ig F n m = (m < n) × Twins s ig m n × ((r : ℕ) → F m ≡ inside r → ⊥)

-- what becomes of n: inside a merged one; else the smallest candidate stands for it; else it is kept
unfoldable pub Ruled : Store → Ignore → (ℕ → Fate) → ℕ → Fate → Type 0
Ruled s ig F n kept = ((r : ℕ) → InMerged s F n r → ⊥) × ((m : ℕ) → Candidate s ig F n m → ⊥)
Ruled s ig F n (merged m) =
    ((r : ℕ) → InMerged s F n r → ⊥) × Candidate s ig F n m × ((k : ℕ) → k < m → Candidate s ig F n k → ⊥)
Ruled s ig F n (inside r) = InMerged s F n r

-- the plan is made by the rule: `plan_ruled`
unfoldable pub PlanRuled : Type 0
PlanRuled = (s : Store) → sound s ≡ true → (ig : Ignore) (n : ℕ) → n < length s.ops → Ruled s ig (fate_of s ig) n (fate_of s ig n)

-- and no other is: `plan_only`
unfoldable pub PlanOnly : Type 0
PlanOnly =
    (s : Store) → sound s ≡ true → (ig : Ignore) (F : ℕ → Fate) → ((n : ℕ) → n < length s.ops → Ruled s ig F n (F n))
    → (n : ℕ) → n < length s.ops → F n ≡ fate_of s ig n
