-- Two runs of a block's operations: the walk through them is the rules' comparison, it enters no more than fits, what it answers is whether
-- they are equal, and what it has entered can be taken out again. Assumes nothing.
use Prim.Native.Nat.{ℕ, ◌<◌}
use Rattle.std.specs.Prelude.{Result, is_ok}
use mathlib.Core.Bool.{true}
use mathlib.Core.List.{List, Memᴰ}
use mathlib.Core.Path.{◌≡◌, sym, ap, subst, ◌∙◌}
use lib.ListN.{length}
use Rattle.rules.specs.Store.{Store, ops_of}
use Rattle.rules.specs.Fragments.{exists}
use Rattle.rules.specs.declared.types.Sort.TheVariants.{Block as block}
use Rattle.rules.specs.Mapping.{Mapping}
use Rattle.rules.specs.Types.{renamed}
use Rattle.rules.specs.Comparison.{Walk, start}
use Rattle.rules.specs.Entered.{EnteredBy, paired_in}
use Rattle.rules.specs.Runs.{compare_runs, run_of, same_runs}
use Rattle.rules.proofs.Soundness.Children.{ops_in_lem}
use Rattle.rules.proofs.RenamedTypes.Renamed.{exists_renamed, entered_renamed, renamed_sound}
use Rattle.rules.proofs.Walking.Entered.{runs_entered}
use Rattle.rules.proofs.Walking.Paired.{runs_paired}
use Rattle.layout.specs.Columns.{columns}
use Rattle.layout.specs.Reading.{store_in}
use Rattle.layout.specs.Soundness.{IsSound}
use Rattle.fragments.specs.Options.{Options, renamed_under}
use Rattle.fragments.proofs.Reading.{block_there}
use Rattle.equivalence.specs.MappingWords.{mapping_of, empty_words}
use Rattle.equivalence.specs.Compares.{answer_of, state_of, PairedFits}
use Rattle.equivalence.specs.Compares.{Compares}
use Rattle.equivalence.specs.Walked.{op_walk}
use Rattle.equivalence.specs.declared.verdicts.Unequal.{Unequal}
use Rattle.equivalence.proofs.AfterEmpty.{told_succeeds, told_entered}
use Rattle.equivalence.proofs.Unmapped.{empty_words_lem}
use Rattle.repeated_runs.specs.Walked.{RunsIn, runs_walk}
use Rattle.repeated_runs.specs.declared.types.TwoRuns.{TwoRuns}
use Rattle.repeated_runs.proofs.Listed.{run_in}

-- ---- what is in a run is in the store

op_in_run : (s : Store) (b n i x : ℕ) → Memᴰ x (run_of (ops_of s b) n i) → x < length s.ops
op_in_run s b n i x m = (ops_in_lem s b (run_in (ops_of s b) n i m)).0

-- ---- the walk through two runs

module _ {store ops : List ℕ} {x : TwoRuns} (o : Options) (sd : IsSound store) (h : RunsIn store ops x) where
  abbrev s : Store
  s = renamed_under o (store_in store)

  sound_too : Rattle.rules.specs.Store.sound s ≡ true
  sound_too = renamed_sound o.types (store_in store) sd.ruled

  -- the rules' comparison
  abbrev runs : Walk
  runs = compare_runs s o.ignore x.runs.block (run_of (ops_of s x.runs.block) x.runs.n x.left) (run_of (ops_of s x.runs.block) x.runs.n x.right)

  block_here : exists s block x.runs.block ≡ true
  unfolding exists
  block_here = exists_renamed o.types (store_in store) block x.runs.block ∙ block_there (columns store) x.runs.block h.listed.here

  pub walk_fits : (m : List ℕ) → PairedFits (runs_walk (store_in store) o ops x (state_of m 0))
  unfolding runs_walk run_of state_of op_walk renamed ops_of
  walk_fits m =
      subst (λ (l : List ℕ). PairedFits (runs_walk (store_in store) o l x (state_of m 0))) (sym h.listed.all)
      (runs_paired s sound_too o.ignore _ x.runs.block x.runs.n x.left _ block_here (state_of m 0))

  walk_is : runs_walk (store_in store) o ops x (state_of empty_words 0) ≡ runs
  unfolding runs_walk compare_runs state_of op_walk renamed ops_of start
  walk_is =
      ap (λ (l : List ℕ). runs_walk (store_in store) o l x (state_of empty_words 0)) h.listed.all
      ∙ ap (λ (m : Mapping). runs_walk (store_in store) o (ops_of (store_in store) x.runs.block) x (record { mapping = m; paired = 0 })) empty_words_lem

  module _ {m : List ℕ} (e : m ≡ empty_words) (q : Result ℕ Unequal) (b : List ℕ) (told : Compares (runs_walk (store_in store) o ops x (state_of m 0)) q b) where
    told_runs : Compares runs q b
    told_runs = subst (λ (w : Walk). Compares w q b) (ap (λ (l : List ℕ). runs_walk (store_in store) o ops x (state_of l 0)) e ∙ walk_is) told

    -- whether it is an answer is whether the runs are equal
    pub runs_told : is_ok q ≡ same_runs s o.ignore x.runs.block x.runs.n x.left x.right
    unfolding same_runs
    runs_told = told_succeeds runs q b told_runs

    pub runs_unmap : EnteredBy (store_in store) (mapping_of b) (paired_in (answer_of q))
    runs_unmap =
        entered_renamed o.types (store_in store)
        (told_entered s runs q b
        (runs_entered s sound_too o.ignore x.runs.block _ _ (op_in_run s x.runs.block x.runs.n x.left) (op_in_run s x.runs.block x.runs.n x.right))
        told_runs)
