-- Equal runs of a block: some of its operations, and others that passes 2 and 3 find equal to them. Where neither names what the other
-- defines they do the same work, each as a list of operations by itself. Without that they may not (`WorkCases`, `crossed_runs`). All of it
-- holds under every list of renamed types, since that store is sound too.
use Rattle.std.specs.Prelude.{ℕ, true, List, ◌≡◌}
use Rattle.std.specs.List.{flat_map}
use Rattle.rules.specs.Store.{Store, ops_of, sound}
use Rattle.rules.specs.Fragments.{defines_values, defines_blocks, names_values, names_blocks, Disjoint}
use Rattle.rules.specs.declared.types.Sort.TheVariants.{Op as op, Block as block}
use Rattle.rules.specs.declared.types.Ignore.{Ignore}
use Rattle.rules.specs.Mapping.{Mapping}
use Rattle.rules.specs.Comparison.{standing}
use Rattle.rules.specs.Laws.{In}
use Rattle.rules.specs.Runs.{compare_runs, run_of, same_runs}
use Rattle.semantics.specs.Meaning.{Meaning}
use Rattle.semantics.specs.Machine.{Registers, run_ops}
use Rattle.semantics.specs.SameWork.{HoldAlike, RunsAlike}

-- what these operations define and name, with all inside them
abbrev pub all_values : Store → List ℕ → List ℕ
all_values s ns = flat_map (defines_values s op) ns

abbrev pub all_blocks : Store → List ℕ → List ℕ
all_blocks s ns = flat_map (defines_blocks s op) ns

-- the first name no value and no block that the second define
pub record NameNothingOf (s : Store) (ls rs : List ℕ) : Type 0 where
  pub values : Disjoint (flat_map (names_values s op) ls) (all_values s rs)
  pub blocks : Disjoint (flat_map (names_blocks s op) ls) (all_blocks s rs)

-- what the comparison of two runs leaves
abbrev pub runs_mapping : Store → Ignore → ℕ → List ℕ → List ℕ → Mapping
runs_mapping s ig b ls rs = (standing (compare_runs s ig b ls rs)).mapping

module _ (Data World Mind : Type 0) where
  -- two lists of operations do the same work, by a mapping: as `WorkAlike`, each by itself
  unfoldable pub OpsWorkAlike : Store → Ignore → List ℕ → List ℕ → Mapping → Type 0
  OpsWorkAlike s ig ls rs m =
      (M : Meaning Data World Mind) (R : Registers Data) → HoldAlike m R (all_values s ls) → (w : World) (k : ℕ)
      → RunsAlike m (all_values s ls) (all_values s rs) R R (run_ops M s ig ls R w k) (run_ops M s ig rs R w k)

  unfoldable pub RunWork : Type 0
  RunWork =
      (s : Store) → sound s ≡ true → (ig : Ignore) (b n i j : ℕ) → In s block b
      → let ls = run_of (ops_of s b) n i in
      let rs = run_of (ops_of s b) n j in
      NameNothingOf s ls rs → NameNothingOf s rs ls → same_runs s ig b n i j ≡ true
      → OpsWorkAlike s ig ls rs (runs_mapping s ig b ls rs)
