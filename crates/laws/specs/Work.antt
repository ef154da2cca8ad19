-- The same work, of what the offered calls build, answer and leave: from every empty store, after every list of building calls, copies,
-- marks set and goings back made through the offered functions, whatever operations mean (`semantics`). An answer, and what is left, is any
-- that meets the offered call's contract, as in `Answers` and `Mapped`.
use Rattle.std.specs.Prelude.{ℕ, ◌<◌, true, List, ◌≡◌, ◌≢◌, get_or, Some, Ok, Option}
use Rattle.rules.specs.Store.{ops_of}
use Rattle.rules.specs.Fragments.{Premise}
use Rattle.rules.specs.declared.types.Sort.{Sort}
use Rattle.rules.specs.declared.types.Sort.TheVariants.{Op as op}
use Rattle.rules.specs.Building.{made}
use Rattle.rules.specs.declared.types.Ignore.{Ignore}
use Rattle.rules.specs.Mapping.{Mapping}
use Rattle.rules.specs.Types.{types_hold, renamed}
use Rattle.rules.specs.Marks.{MarkedCall}
use Rattle.rules.specs.Laws.{In}
use Rattle.rules.specs.MappingLaws.{filed}
use Rattle.rules.specs.Grouping.{no_twin}
use Rattle.rules.specs.Runs.{run_of}
use Rattle.semantics.specs.SameWork.{WorkAlike}
use Rattle.semantics.specs.BlockRuns.{NameNothingOf, runs_mapping, OpsWorkAlike}
use Rattle.layout.specs.Reading.{store_in}
use Rattle.layout.specs.MarkedReading.{sound_lent}
use Rattle.api.specs.Calls.{Made, IsEmpty}
use Rattle.api.specs.Copies as copies
use Rattle.grouping.specs.Calls as twins
use Rattle.repeated_runs.specs.Calls as runs
use Rattle.repeated_runs.specs.declared.types.Starts.{Starts}
use Rattle.equivalence.specs.MappingWords.{mapping_of}
use Rattle.laws.specs.Answers.{EqAnswer, SaysEqual}
use Rattle.laws.specs.Mapped.{Leaves}

module _ (Data World Mind : Type 0) where
  -- a and b do the same work on a buffer, under a list of renamed types, by a mapping
  abbrev pub WorkOn : List ℕ → List ℕ → Ignore → Sort → ℕ → ℕ → Mapping → Type 0
  WorkOn buffer types ig f a b m = WorkAlike Data World Mind (renamed types (store_in buffer)) ig f a b m

  -- where a comparison, lent this list and an empty mapping, says that two fragments are equal which satisfy the premise of the laws, they
  -- do the same work by the mapping that it leaves
  unfoldable pub SameWorkOfCode : Type 0
  SameWorkOfCode =
      (entry : List ℕ) → IsEmpty entry → (calls : List MarkedCall) (buffer : List ℕ) → Made entry calls buffer
      → (types : List ℕ) → types_hold types ≡ true → (ig : Ignore) (f : Sort)
      → (a b : ℕ) → In (store_in buffer) f a → In (store_in buffer) f b → Premise (store_in buffer) f a b
      → (q : EqAnswer) (words : List ℕ) → Leaves buffer types ig f a b q words → SaysEqual q
      → WorkOn buffer types ig f a b (mapping_of words)

  -- where the call for all twins, lent this list, answers how many operations there are, and leaves for operation n the word m other than
  -- the number of no operation, m does the same work as n, by the mapping that the comparison of m with n leaves (`twins_of_operations`)
  unfoldable pub TwinWorkOfCode : Type 0
  TwinWorkOfCode =
      (entry : List ℕ) → IsEmpty entry → (calls : List MarkedCall) (buffer : List ℕ) → Made entry calls buffer
      → (types : List ℕ) (ig : Ignore) (before after : List ℕ) (count : ℕ)
      → twins.TwinsAnswers (sound_lent buffer) buffer types ig before after (Ok count)
      → (n m : ℕ) → n < count → get_or after n no_twin ≡ m → m ≢ no_twin
      → WorkOn buffer types ig op m n (filed (renamed types (store_in buffer)) ig op m n)

  -- where the call that copies answers the number c, c does the same work as its original in the store with the copy, by the mapping that
  -- is left, under every list and ignore rule (`clone_operation`)
  unfoldable pub CopyWorkOfCode : Type 0
  CopyWorkOfCode =
      (entry : List ℕ) → IsEmpty entry → (calls : List MarkedCall) (buffer : List ℕ) → Made entry calls buffer
      → (exit before after : List ℕ) (n : ℕ) (place : Option ℕ) (c : ℕ) → copies.CopyAnswers buffer exit before after n place (made c)
      → (types : List ℕ) (ig : Ignore) → WorkOn exit types ig op n c (mapping_of after)

  -- where the call for repeated runs finds two, they do the same work, if neither names what the other defines, by the mapping that their
  -- comparison leaves (`repeated_run`)
  unfoldable pub RunWorkOfCode : Type 0
  RunWorkOfCode =
      (entry : List ℕ) → IsEmpty entry → (calls : List MarkedCall) (buffer : List ℕ) → Made entry calls buffer
      → (types : List ℕ) (ig : Ignore) (b n : ℕ) (two : Starts) → runs.RunAnswers (sound_lent buffer) buffer types ig b n (Ok (Some two))
      → let s = renamed types (store_in buffer) in
      let ls = run_of (ops_of s b) n two.left in
      let rs = run_of (ops_of s b) n two.right in
      NameNothingOf s ls rs → NameNothingOf s rs ls → OpsWorkAlike Data World Mind s ig ls rs (runs_mapping s ig b ls rs)
