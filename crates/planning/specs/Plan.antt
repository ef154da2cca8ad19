-- A merge plan: of each operation of a store, by rising number, whether it is kept, merged into another, or inside a merged one.
use Rattle.rules.specs.declared.types.Cause.{Cause}
use Rattle.std.specs.Prelude.{ℕ, zero, suc, Bool, true, false, cond, not, ◌&&◌, List, [], ◌∷◌, ◌++◌, map, eqb, length, get_or, Option, None, Some}
use Rattle.std.specs.List.{list_any}
use Rattle.rules.specs.Lists.{sum, numbers_where}
use Rattle.rules.specs.Store.{Store}
use Rattle.rules.specs.Fragments.{levels, fragment_ops}
use Rattle.rules.specs.declared.types.Sort.TheVariants.{Op as op}
use Rattle.rules.specs.Building.{first_failed}
use Rattle.rules.specs.declared.types.Ignore.{Ignore}
use Rattle.rules.specs.Runs.{first_of}
use Rattle.rules.specs.Types.{renamed}
use Rattle.rules.specs.Keys.{written}
use Rattle.rules.specs.Grouping.{is_twin, no_twin, twin_tests}
use Rattle.fragments.specs.Sizes.{op_size}

pub data Fate : Type 0 where
  kept : Fate
  -- this one stands for it
  merged : ℕ → Fate
  -- it goes with this one, which is merged and which it is inside
  inside : ℕ → Fate

unfoldable pub is_kept : Fate → Bool
is_kept kept = true
is_kept (merged m) = false
is_kept (inside r) = false

unfoldable pub is_merged : Fate → Bool
is_merged kept = false
is_merged (merged m) = true
is_merged (inside r) = false

-- what becomes of an operation by a list of fates; one past its end is kept
unfoldable pub fate_in : List Fate → ℕ → Fate
fate_in fates n = get_or fates n kept

-- ---- the next operation, by the fates of those before it

-- r is merged, and n is inside it
unfoldable pub goes_with : Store → List Fate → ℕ → ℕ → Bool
goes_with s fates n r = is_merged (fate_in fates r) && list_any (eqb n) (fragment_ops s op r)

-- m is kept, and is a twin of n
unfoldable pub stands_for : Store → Ignore → List Fate → ℕ → ℕ → Bool
stands_for s ig fates n m = is_kept (fate_in fates m) && is_twin s ig n m

unfoldable pub merged_or_kept : Option ℕ → Fate
merged_or_kept None = kept
merged_or_kept (Some m) = merged m

unfoldable pub inside_or : Option ℕ → Fate → Fate
inside_or None f = f
inside_or (Some r) f = inside r

-- inside a merged one before it; else merged into the first that is kept before it and is its twin; else kept
unfoldable pub next_fate : Store → Ignore → List Fate → ℕ → Fate
next_fate s ig fates n = inside_or (first_of n 0 (goes_with s fates n)) (merged_or_kept (first_of n 0 (stands_for s ig fates n)))

unfoldable pub with_next : Store → Ignore → ℕ → List Fate → List Fate
with_next s ig n fates = fates ++ (next_fate s ig fates n ∷ [])

-- the fates of the operations below n
unfoldable pub plan_below : ℕ → Store → Ignore → List Fate
plan_below zero s ig = []
plan_below (suc n) s ig = with_next s ig n (plan_below n s ig)

-- ---- the plan

unfoldable pub merge_plan : Store → Ignore → List Fate
merge_plan s ig = plan_below (length s.ops) s ig

unfoldable pub fate_of : Store → Ignore → ℕ → Fate
fate_of s ig n = fate_in (merge_plan s ig) n

-- those that another one stands for
unfoldable pub merged_ops : Store → Ignore → List ℕ
merged_ops s ig = numbers_where is_merged (merge_plan s ig)

-- those that are not kept
unfoldable pub gone_ops : Store → Ignore → List ℕ
gone_ops s ig = numbers_where (λ (f : Fate). not (is_kept f)) (merge_plan s ig)

-- how many operations there are in an operation, itself included
unfoldable pub fragment_size : Store → ℕ → ℕ
fragment_size s n = op_size levels s n

-- the operations saved
unfoldable pub saved : Store → Ignore → ℕ
saved s ig = sum (map (fragment_size s) (merged_ops s ig))

-- ---- the call: a word for each operation, from the begin of the lent ones on

-- the number of no operation where it is kept; else the one that stands for it, or that it is inside
unfoldable pub fate_word : Fate → ℕ
fate_word kept = no_twin
fate_word (merged m) = m
fate_word (inside r) = r

-- how words are read: what stands for another has no number itself, and what another is inside has one
unfoldable pub word_fate : List ℕ → ℕ → Fate
word_fate words w = cond (eqb w no_twin) kept (cond (eqb (get_or words w no_twin) no_twin) (merged w) (inside w))

unfoldable pub read_fate : List ℕ → ℕ → Fate
read_fate words n = word_fate words (get_or words n no_twin)

-- how many operations are saved
pub data Planned : Type 0 where
  planned : ℕ → Planned
  refused_plan : Cause → Planned

-- the answer, and the lent words afterwards
pub record Planning : Type 0 where
  pub answer : Planned
  pub words : List ℕ

unfoldable pub planning_by : Option Cause → Store → Ignore → List ℕ → Planning
planning_by None s ig words = record { answer = planned (saved s ig); words = written (map fate_word (merge_plan s ig)) words }
planning_by (Some cause) s ig words = record { answer = refused_plan cause; words = words }

-- `merge_plan` with a lent list of types: 1, 14, 13
unfoldable pub planning : Bool → Store → List ℕ → Ignore → List ℕ → Planning
planning lent s types ig words = planning_by (first_failed (twin_tests lent s types (length words))) (renamed types s) ig words
