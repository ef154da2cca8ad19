-- The laws of converted listings: what is written is a listing of the other edition, from which both programs print and build the same, and
-- which converts back; and it fits where a listing does. Assumes nothing.
use Prim.Native.Nat.{ℕ, suc, ◌≤◌}
use native.Mathlib.Omega.{arith}
use mathlib.Core.Bool.{true}
use Rattle.std.specs.Prelude.{None, Some}
use mathlib.Core.List.{List, [], ◌∷◌, ◌++◌, map}
use mathlib.Core.Path.{◌≡◌, refl, sym, ap, ap₂, subst, fun_ext, ◌∙◌}
use borrow.Author.Tests.{le-leb}
use lib.ListN.{length}
use Rattle.rules.specs.Bytes.{line_feed}
use Rattle.rules.specs.declared.types.Edition.{Edition}
use Rattle.rules.specs.declared.types.Edition.TheVariants.{First as edition_1, Second as edition_2}
use Rattle.rules.specs.Listings.{Progress, LineOutcome, Program, does, at_start, proceed, run, keeps, leaves, max_listing, listing_cause, edition, listed, store_after}
use Rattle.rules.specs.Converting.{other, header, lines_behind, converted, Refusal, convert_refusal, unless_refused, convert}
use Rattle.rules.specs.ConvertLaws.{Converts, ConvertedEdition, SameOutput, zeroed_line, labels_zeroed, ThereAndBack, BackAndThere, ConvertFits}
use Rattle.rules.proofs.Listings.Cut.{other_than, each}
use Rattle.rules.proofs.Listings.Written.{refusal_short}
use Rattle.rules.proofs.Converting.Fields.{restored}
use Rattle.rules.proofs.Converting.Lines.{changed, recast, lines_ended, zeroed_ended, unchanged, Accepted, turned}
use Rattle.rules.proofs.Converting.Refused.{EachLine, first_none}
use Rattle.rules.proofs.Converting.Whole.{listing_of, listing_edition, listing_accepted, listing_printed, listing_leaves}
use Rattle.rules.proofs.Converting.Ready.{Ready, lines_whole, whole_fits, ready_converts, ready_of, ready_convert, lines_back, ready_back}

-- ---- line by line

module _ (p : Program) (e : Edition) where
  line_same : (now : Progress) (line : List ℕ) → Accepted e line → does p (other e) now (recast e line) ≡ does p e now line
  unfolding does
  line_same now line a = rw (le-leb _ _ a.short, le-leb _ _ a.still_short, (turned e line a).same)

  run_same : (n : ℕ) (now : Progress) (lines : List (List ℕ)) → EachLine (Accepted e) lines
      → run p (other e) n now (map (recast e) lines) [] ≡ run p e n now lines []
  unfolding run
  run_same n now [] h = refl
  run_same n now (line ∷ lines) h =
      ap₂ (λ (o : LineOutcome) (more : Progress → List ℕ). proceed o n more) (line_same now line h.0)
      (fun_ext (λ next. run_same (suc n) next lines h.1))

  leaves_same : (now : Progress) (lines : List (List ℕ)) → EachLine (Accepted e) lines
      → leaves p (other e) now (map (recast e) lines) ≡ leaves p e now lines
  unfolding leaves
  leaves_same now [] h = refl
  leaves_same now (line ∷ lines) h =
      ap₂ (λ (o : LineOutcome) (more : Progress → Progress). keeps o now more) (line_same now line h.0)
      (fun_ext (λ next. leaves_same next lines h.1))

-- ---- the laws

module _ (bytes : List ℕ) (h : Converts bytes) where
  abbrev e : Edition
  e = edition bytes

  abbrev lines : List (List ℕ)
  lines = lines_behind bytes

  abbrev lines' : List (List ℕ)
  lines' = map (recast e) lines

  is_listing : bytes ≡ listing_of e lines
  is_listing = (ready_of bytes h).0

  r : Ready e lines
  r = (ready_of bytes h).1

  r' : Ready (other e) lines'
  r' = ready_back e lines r

  written : convert bytes ≡ listing_of (other e) lines'
  written = ap convert is_listing ∙ ready_convert e lines r

  w : each (other_than line_feed) lines ≡ true
  w = lines_whole e lines r.accepted

  w' : each (other_than line_feed) lines' ≡ true
  w' = lines_whole (other e) lines' r'.accepted

  same_printed : (p : Program) → listed p (convert bytes) ≡ listed p bytes
  same_printed p =
      ap (listed p) written
      ∙ listing_printed (other e) lines' w' p r'.fits
      ∙ run_same p e 2 at_start lines r.accepted
      ∙ sym (listing_printed e lines w p r.fits)
      ∙ sym (ap (listed p) is_listing)

  same_left : (p : Program) → store_after p (convert bytes) ≡ store_after p bytes
  same_left p =
      ap (store_after p) written
      ∙ listing_leaves (other e) lines' w' p
      ∙ ap (λ (now : Progress). now.store) (leaves_same p e at_start lines r.accepted)
      ∙ sym (listing_leaves e lines w p)
      ∙ sym (ap (store_after p) is_listing)

  written_edition : (listing_cause (convert bytes) ≡ None) × (edition (convert bytes) ≡ other e)
  written_edition = (
    ap listing_cause written ∙ listing_accepted (other e) lines' w' r'.fits,
    ap edition written ∙ listing_edition (other e) lines' w',
  )

  converts_again : Converts (convert bytes)
  converts_again = subst Converts (sym written) (ready_converts (other e) lines' r')

  -- each `b` line with its label 0, or as it was
  twice : convert (convert bytes) ≡ listing_of (other (other e)) (map (changed (restored e)) lines)
  twice =
      ap convert written
      ∙ ready_convert (other e) lines' r'
      ∙ ap (listing_of (other (other e))) (lines_back e lines r.accepted)

pub converted_edition : ConvertedEdition
unfolding ConvertedEdition
converted_edition bytes h = written_edition bytes h

pub same_output : SameOutput
unfolding SameOutput
same_output p bytes h = (same_printed bytes h p, same_left bytes h p)

unchanged_lines : (lines : List (List ℕ)) → map (changed (restored edition_2)) lines ≡ lines
unchanged_lines [] = refl
unchanged_lines (line ∷ lines) = ap₂ ◌∷◌ (unchanged line) (unchanged_lines lines)

pub there_and_back : ThereAndBack
unfolding ThereAndBack labels_zeroed other
there_and_back bytes h q = (
  converts_again bytes h,
  twice bytes h
      ∙ ap (λ (e : Edition). listing_of (other (other e)) (map (changed (restored e)) (lines_behind bytes))) q
      ∙ ap (λ (l : List ℕ). header edition_1 ++ line_feed ∷ l) (sym (lines_ended zeroed_line _ zeroed_ended (lines_behind bytes))),
)

pub back_and_there : BackAndThere
unfolding BackAndThere other
back_and_there bytes h q = (
  converts_again bytes h,
  twice bytes h
      ∙ ap (λ (e : Edition). listing_of (other (other e)) (map (changed (restored e)) (lines_behind bytes))) q
      ∙ ap (listing_of edition_2) (unchanged_lines (lines_behind bytes))
      ∙ ap (λ (e : Edition). listing_of e (lines_behind bytes)) (sym q)
      ∙ sym (is_listing bytes h),
)

pub convert_fits : ConvertFits
unfolding ConvertFits convert unless_refused convert_refusal
convert_fits bytes = go (convert_refusal bytes) refl
  where
    go : (o : Refusal) → convert_refusal bytes ≡ o → length (unless_refused o (converted bytes)) ≤ max_listing
    go None e = whole_fits _ (first_none _ e).1.1.1.0
    go (Some f) e = omega (arith, refusal_short f.0 f.1)
