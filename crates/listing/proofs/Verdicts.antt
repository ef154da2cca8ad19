-- A comparison that is begun with no entries answers what the rules answer for the empty mapping, and what is printed and counted of it
-- is what `twins` does for a `q`. Assumes nothing.
use Rattle.rules.specs.declared.types.Cause.TheVariants.{NotThere}
use Prim.Native.Nat.{ℕ}
use mathlib.Core.Bool.{Bool, true, false, ◌&&◌}
use Rattle.std.specs.Prelude as std
use Rattle.std.specs.Result.{is_ok}
use mathlib.Core.List.{List, []}
use Rattle.std.specs.Prelude.{Some}
use mathlib.Core.Path.{◌≡◌, refl, sym, ap, subst, ◌∙◌}
use lib.ListN.{length}
use Rattle.rules.specs.Store.{Store}
use Rattle.rules.specs.Fragments.{exists, fragment_ops}
use Rattle.rules.specs.declared.types.Sort.{Sort}
use Rattle.rules.specs.Building.{first_failed}
use Rattle.rules.specs.declared.types.Ignore.{Ignore}
use Rattle.rules.specs.Mapping.{Mapping, empty_mapping, allowed}
use Rattle.rules.specs.Lists.{every}
use Rattle.rules.specs.Types.{whole_rows, old_types, present_types, each_once, types_hold}
use Rattle.rules.specs.Answers.{Compared, Comparison, refused, compare_tests, comparison_by, comparison}
use Rattle.rules.specs.Listings as rules
use Rattle.rules.specs.Listings.{prints, tallied, line_does, twins_answer, twins_program}
use Rattle.rules.proofs.Basics.Tests.{and_right}
use Rattle.rules.proofs.Walking.Answered.{empty_allowed}
use Rattle.layout.specs.Reading.{store_in}
use Rattle.equivalence.specs.MappingWords.{mapping_length, mapping_of, empty_words}
use Rattle.equivalence.specs.Compares.{answer_of, compared_of}
use Rattle.equivalence.specs.Calls.{ComparisonAnswers}
use Rattle.equivalence.specs.declared.verdicts.Unequal.{Unequal}
use Rattle.equivalence.specs.declared.verdicts.Unequal.TheVariants.{FirstNEQOps, FirstNEQRegions, FirstNEQBlocks}
use Rattle.rules.specs.declared.types.Cause.{Cause}
use Rattle.equivalence.proofs.Unmapped.{empty_words_lem}
use Rattle.listing.specs.Tally.{tally_of, Tallied}
use Rattle.listing.specs.declared.places.Place.{Place}
use Rattle.lines.specs.Parsing.{query_of}
use Rattle.lines.specs.Writing.{Writes}
use Rattle.lines.specs.declared.parsing.Query.{Query}
use Rattle.lines.specs.declared.writing.LineWriter.{LineWriter}
use Rattle.listing.specs.Progress.{progress_of}
use Rattle.listing.specs.Asking.{verdict_line, answer_to, QueryCompared, step_room, outcome_of, Goes, Stepped}
use Rattle.listing.proofs.Emptied.{empty_length}

-- ---- the empty mapping

words_are : (m : List ℕ) → m ≡ empty_words → mapping_of m ≡ empty_mapping
words_are m e = ap mapping_of e ∙ empty_words_lem

pub entries_allowed_lem : (s : Store) (m : List ℕ) → m ≡ empty_words → allowed s (mapping_of m) ≡ true
entries_allowed_lem s m e = subst (λ (x : Mapping). allowed s x ≡ true) (sym (words_are m e)) (empty_allowed s)

-- there are as many words still, where their number has not changed
pub as_many : (m after : List ℕ) → m ≡ empty_words → length after ≡ length m → length after ≡ mapping_length
as_many m after e long = long ∙ ap length e ∙ empty_length

-- ---- the comparison

module _ (b m after : List ℕ) (q : Query) (r : std.Result (std.Result ℕ Unequal) Cause) (e : m ≡ empty_words)
    (h : ComparisonAnswers true b [] m after q.ignore q.sort q.left q.right (compared_of r)) where
  answered : compared_of r ≡ answer_to b q
  unfolding answer_to
  answered =
      let ig = q.ignore in
      let f = q.sort in
      sym
      (subst (λ (x : Mapping). (comparison true (store_in b) [] x ig f q.left q.right).answer ≡ compared_of r) (words_are m e)
      (ap (λ (c : Comparison). c.answer) h.told))

  pub compares : (left : List ℕ) → left ≡ empty_words → QueryCompared b left q r
  compares left w = record { same = answered; empty = w }

-- a refused one has entered nothing
pub refuses : (b m after : List ℕ) (q : Query) (cause : Cause) → m ≡ empty_words
    → ComparisonAnswers true b [] m after q.ignore q.sort q.left q.right (compared_of (std.Err cause)) → QueryCompared b after q (std.Err cause)
unfolding compared_of
refuses b m after q cause e h = compares b m after q (std.Err cause) e h after (h.unchanged cause refl ∙ e)

-- ---- an answer that is not refused: both fragments exist

not_refused : (res : std.Result ℕ Unequal) (cause : Cause) → answer_of res ≡ refused cause → ⊥
unfolding answer_of
not_refused (std.Ok n) cause h = cc
not_refused (std.Err (FirstNEQOps l r n)) cause h = cc
not_refused (std.Err (FirstNEQRegions l r n)) cause h = cc
not_refused (std.Err (FirstNEQBlocks l r n)) cause h = cc

-- with a sound store and an allowed mapping, a missing fragment is refused
missing : (s : Store) (m : Mapping) (ig : Ignore) (f : Sort) (l r : ℕ) → allowed s m ≡ true → (exists s f l && exists s f r) ≡ false
    → (comparison true s [] m ig f l r).answer ≡ refused NotThere
unfolding comparison comparison_by compare_tests first_failed types_hold whole_rows old_types present_types each_once every
missing s m ig f l r a e = rw (a, e) refl

pub right_exists : (b left : List ℕ) (q : Query) (res : std.Result ℕ Unequal) → QueryCompared b left q (std.Ok res) → exists (store_in b) q.sort q.right ≡ true
unfolding answer_to compared_of
right_exists b left q res h = go (exists S f q.left && exists S f q.right) refl
  where
    S : Store
    S = store_in b

    f : Sort
    f = q.sort

    go : (t : Bool) → (exists S f q.left && exists S f q.right) ≡ t → exists S f q.right ≡ true
    go true e = and_right (exists S f q.left) (exists S f q.right) e
    go false e = absurd (not_refused res NotThere (h.same ∙ missing S empty_mapping q.ignore f q.left q.right (empty_allowed S) e))

-- ---- what `twins` does for a `q`

module _ (b : List ℕ) (tally : List Place) (q : Query) where
  abbrev pub asked : rules.LineOutcome
  asked = line_does twins_program (progress_of b tally) (Some (query_of q))

  twins_asks : asked ≡ twins_answer (answer_to b q) q.sort q.right (progress_of b tally)
  unfolding line_does twins_program progress_of answer_to
  twins_asks = refl

  pub twins_stops : (left : List ℕ) (out : LineWriter) (cause : Cause) → QueryCompared b left q (std.Err cause) → Stepped asked b tally out out (std.Err cause)
  unfolding twins_answer compared_of outcome_of Goes
  twins_stops left out cause h = record { bytes = []; does = twins_asks ∙ ap (λ (x : Compared). twins_answer x q.sort q.right (progress_of b tally)) (sym h.same); goes = refl }

  -- the line is printed, and the right fragment goes into the tally
  counted_as : (res : std.Result ℕ Unequal)
      → twins_answer (answer_of res) q.sort q.right (progress_of b tally)
      ≡ prints (verdict_line (answer_of res))
      (record { store = store_in b; tally = tallied (is_ok res) (fragment_ops (store_in b) q.sort q.right) (tally_of tally) })
  unfolding twins_answer verdict_line answer_of progress_of
  counted_as (std.Ok n) = refl
  counted_as (std.Err (FirstNEQOps x y n)) = refl
  counted_as (std.Err (FirstNEQRegions x y n)) = refl
  counted_as (std.Err (FirstNEQBlocks x y n)) = refl

  module _ (after : List Place) (left : List ℕ) (res : std.Result ℕ Unequal) (h : QueryCompared b left q (std.Ok res)) (m : Tallied (store_in b) q.sort q.right (is_ok res) tally after) where
    prints_on : twins_answer (answer_of res) q.sort q.right (progress_of b tally) ≡ prints (verdict_line (answer_of res)) (progress_of b after)
    unfolding progress_of
    prints_on = counted_as res ∙ ap (λ (t : rules.Tally). prints (verdict_line (answer_of res)) (record { store = store_in b; tally = t })) (sym m.reads)

    pub twins_goes : {out out' : LineWriter} → Writes step_room (verdict_line (answer_of res)) out out' → Stepped asked b after out out' (std.Ok tt)
    unfolding outcome_of Goes compared_of
    twins_goes w =
        record {
          bytes = verdict_line (answer_of res);
          does = twins_asks ∙ ap (λ (x : Compared). twins_answer x q.sort q.right (progress_of b tally)) (sym h.same) ∙ prints_on;
          goes = w;
        }
