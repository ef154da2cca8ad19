-- A whole listing: its first line, and then the lines behind it; and what is refused of the lent buffers. Assumes nothing.
use Prim.Native.Nat.{ℕ, ◌<◌, ◌≤◌}
use native.Mathlib.Omega.{arith}
use mathlib.Core.Bool.{Bool, true, false}
use Rattle.std.specs.Prelude.{Option, None, Some}
use Rattle.std.proofs.lemmas.Option.{none-some}
use mathlib.Core.List.{List, [], ◌∷◌}
use mathlib.Core.Path.{◌≡◌, refl, sym, ap, ap₂, subst, ◌∙◌, subst₂}
use borrow.Author.Tests.{eq-eqb, ne_eqb}
use lib.Dec.{eqb}
use lib.ListN.{length}
use Rattle.rules.specs.Bytes.{line_feed, cut_at}
use Rattle.rules.specs.Building.{first_failed}
use Rattle.rules.specs.Marks.{unmarked}
use Rattle.rules.specs.Listings as rules
use Rattle.rules.specs.declared.types.Edition.{Edition}
use Rattle.rules.specs.Listings.{edition, refusal, run, at_start, leaves, listing_cause, behind_first, unless, store_after, max_output}
use Rattle.std.specs.Prelude as std
use Rattle.rules.specs.Causes.{cause_of}
use Rattle.layout.specs.Columns.{buffer_length}
use Rattle.rules.specs.declared.types.Cause.{Cause}
use Rattle.rules.specs.declared.types.Cause.TheVariants.{NotSound, BadMapping}
use Rattle.lines.specs.Header.{second_line, StartsWithHeader, Headed}
use Rattle.lines.specs.Pieces.{pieces_from}
use Rattle.lines.specs.Writing.{Writes}
use Rattle.lines.specs.declared.writing.LineWriter.{LineWriter}
use Rattle.lines.specs.Room.{refusal_room}
use Rattle.lines.proofs.Joined.{said, within, from_start}
use Rattle.equivalence.specs.MappingWords.{mapping_length, empty_words}
use Rattle.listing.specs.declared.types.Program.{Program}
use Rattle.listing.specs.declared.types.Unprinted.TheVariants.{Refused, NoRoom}
use Rattle.listing.specs.Progress.{program_of}
use Rattle.listing.specs.declared.types.Reading.{Reading}
use Rattle.listing.specs.Stepping.{Ran}
use Rattle.listing.specs.Calls.{Buffers, buffer_tests, PrintsListing, listing_answer_of, ListingAnswers, buffers, ListingAnswer}

-- ---- the first line

-- a refused first line leaves the buffers as they were
module _ (p : Program) (listing store mapping out after : List ℕ) (n : ℕ) (k : Cause) (h : Headed listing (std.Err k)) where
  refused_for : listing_cause listing ≡ Some k
  unfolding cause_of
  refused_for = sym h.same

  pub first_refused : {a b : LineWriter} → a.lent.now ≡ out → a.at ≡ 0 → b.lent.now ≡ after → n ≡ b.at → Writes refusal_room (refusal 1 k) a b
      → PrintsListing (program_of p) listing (buffers store mapping out) (buffers store mapping after) n
  unfolding buffers rules.listed unless
  first_refused e f g i w =
      let clash : listing_cause listing ≡ None → ⊥ = λ q. none-some k (sym q ∙ refused_for) in
      record {
        wrote = from_start e f g i (within (said w (sym (ap (λ (c : Option Cause). unless c (run (program_of p) (edition listing) 2 at_start (behind_first (cut_at line_feed listing).whole) (cut_at line_feed listing).rest)) refused_for))) (omega arith));
        leaves =
            record {
              refused = λ cause q. (refl, refl);
              reads = λ q. absurd (clash q);
              sound = λ q. absurd (clash q);
              empty = λ q. absurd (clash q);
            };
      }

-- behind an accepted one the lines run
module _ (how : Reading) (listing store mapping out store' mapping' out' : List ℕ) (n : ℕ) (h : Headed listing (std.Ok how.edition)) {a b : LineWriter} (ran : Ran how listing second_line store' mapping' a b) where
  accepted : listing_cause listing ≡ None
  unfolding cause_of
  accepted = sym h.same

  begun : StartsWithHeader how.edition listing
  begun = h.begun

  printed : rules.listed (program_of how.program) listing ≡ run (program_of how.program) how.edition 2 at_start (pieces_from line_feed listing second_line).whole (pieces_from line_feed listing second_line).rest
  unfolding rules.listed unless
  printed =
      ap (λ (c : Option Cause). unless c (run (program_of how.program) (edition listing) 2 at_start (behind_first (cut_at line_feed listing).whole) (cut_at line_feed listing).rest)) accepted
      ∙ ap (λ (e : Edition). run (program_of how.program) e 2 at_start (behind_first (cut_at line_feed listing).whole) (cut_at line_feed listing).rest) begun.says
      ∙ ap₂ (λ (ls : List (List ℕ)) (rest : List ℕ). run (program_of how.program) how.edition 2 at_start ls rest) begun.lines begun.rest

  left_by : unmarked (leaves (program_of how.program) how.edition at_start (pieces_from line_feed listing second_line).whole).store ≡ unmarked (store_after (program_of how.program) listing)
  unfolding store_after
  left_by =
      sym
      (ap (λ (e : Edition). unmarked (leaves (program_of how.program) e at_start (behind_first (cut_at line_feed listing).whole)).store) begun.says
      ∙ ap (λ (ls : List (List ℕ)). unmarked (leaves (program_of how.program) how.edition at_start ls).store) begun.lines)

  pub all_ran : a.lent.now ≡ out → a.at ≡ 0 → b.lent.now ≡ out' → n ≡ b.at → PrintsListing (program_of how.program) listing (buffers store mapping out) (buffers store' mapping' out') n
  unfolding buffers
  all_ran e f g i =
      record {
        wrote = from_start e f g i (said ran.writes (sym printed));
        leaves =
            record {
              refused = λ cause q. absurd (none-some cause (sym accepted ∙ q));
              reads = λ q. ran.left ∙ left_by;
              sound = λ q. ran.sound;
              empty = λ q. ran.empty;
            };
      }

-- ---- the lent buffers

module _ (p : rules.Program) (listing store mapping out : List ℕ) where
  tested : (a b : Bool) → eqb (length store) buffer_length ≡ a → eqb (length mapping) mapping_length ≡ b → first_failed (buffer_tests (buffers store mapping out)) ≡ first_failed ((a, NotSound) ∷ (b, BadMapping) ∷ [])
  unfolding buffers buffer_tests
  tested a b e f = ap₂ (λ (x y : Bool). first_failed ((x, NotSound) ∷ (y, BadMapping) ∷ [])) e f

  pub wrong_store : (length store ≡ buffer_length → ⊥) → ListingAnswers p listing (buffers store mapping out) (buffers store mapping out) (listing_answer_of (std.Err (Refused NotSound)))
  unfolding listing_answer_of ListingAnswers first_failed
  wrong_store h = (tested false (eqb (length mapping) mapping_length) (ne_eqb _ _ h) refl, refl)

  module _ (s : length store ≡ buffer_length) where
    pub wrong_mapping : (length mapping ≡ mapping_length → ⊥) → ListingAnswers p listing (buffers store mapping out) (buffers store mapping out) (listing_answer_of (std.Err (Refused BadMapping)))
    unfolding listing_answer_of ListingAnswers first_failed
    wrong_mapping h = (tested true false (eq-eqb _ _ s) (ne_eqb _ _ h), refl)

    module _ (m : length mapping ≡ mapping_length) where
      right_lengths : first_failed (buffer_tests (buffers store mapping out)) ≡ None
      unfolding first_failed
      right_lengths = tested true true (eq-eqb _ _ s) (eq-eqb _ _ m)

      pub no_room_lem : length out < max_output → ListingAnswers p listing (buffers store mapping out) (buffers store mapping out) (listing_answer_of (std.Err NoRoom))
      unfolding listing_answer_of ListingAnswers buffers
      no_room_lem h = (right_lengths, h, refl)

      pub answered : (after : Buffers) (n : ℕ) → max_output ≤ length out → PrintsListing p listing (buffers store mapping out) after n → ListingAnswers p listing (buffers store mapping out) after (listing_answer_of (std.Ok n))
      unfolding listing_answer_of ListingAnswers buffers
      answered after n h pr = (right_lengths, h, pr)

-- a mapping with no entry stays one
-- words of the right lengths are the buffers'
pub taken : (p : rules.Program) (listing : List ℕ) {w b e m : List ℕ} (out : List ℕ) (after : Buffers) (q : ListingAnswer) → w ≡ b → e ≡ m
    → ListingAnswers p listing (buffers w e out) after q → ListingAnswers p listing (buffers b m out) after q
taken p listing out after q s t h = subst₂ (λ (x y : List ℕ). ListingAnswers p listing (buffers x y out) after q) s t h

module _ (p : rules.Program) (listing store out store' mapping' out' : List ℕ) (n : ℕ) (pr : PrintsListing p listing (buffers store empty_words out) (buffers store' mapping' out') n) where
  still_none : (c : Option Cause) → listing_cause listing ≡ c → mapping' ≡ empty_words
  unfolding buffers
  still_none None e = pr.leaves.empty e
  still_none (Some k) e = (pr.leaves.refused k e).1

  pub unmapped : PrintsListing p listing (buffers store empty_words out) (buffers store' empty_words out') n
  unmapped = subst (λ (m : List ℕ). PrintsListing p listing (buffers store empty_words out) (buffers store' m out') n) (still_none (listing_cause listing) refl) pr
