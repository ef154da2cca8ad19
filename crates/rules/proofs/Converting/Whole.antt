-- A listing is its header and its lines, and no more is read of it: so what is written is the other edition's header and each line in that
-- edition. Assumes nothing.
use Prim.Native.Nat.{ℕ, ◌≤◌}
use native.Mathlib.Omega.{arith}
use mathlib.Core.Bool.{Bool, true, false, cond, false≢true}
use Rattle.rules.specs.declared.types.Cause.TheVariants.{BadLength}
use Rattle.std.specs.Prelude.{Option, None, Some, is_some}
use Rattle.std.proofs.lemmas.Option.{none-some}
use mathlib.Core.List.{List, [], ◌∷◌, ◌++◌, map}
use mathlib.Core.Path.{◌≡◌, refl, ap, ◌∙◌, sym}
use borrow.Author.Tests.{leb-true, le-leb}
use lib.Dec.{leb}
use lib.ListN.{length}
use Rattle.rules.specs.Bytes.{line_feed, cut_at}
use Rattle.rules.specs.declared.types.Edition.{Edition}
use Rattle.rules.specs.declared.types.Edition.TheVariants.{First as edition_1, Second as edition_2}
use Rattle.rules.specs.Listings.{Program, at_start, run, leaves, edition_of, header_tests, header_cause, listing_cause, behind_first, or_first, edition_in, edition, unless, max_listing, listed, store_after}
use Rattle.rules.specs.Converting.{other, header, converted_line, lines_behind, converted}
use Rattle.rules.proofs.Soundness.Accepted.{first_failed_none, all_passed}
use Rattle.rules.proofs.Listings.Cut.{in_front, other_than, Without, each, ended, cut_first, cut_ended}
use Rattle.rules.proofs.Listings.Headers.{header_edition, header_length, edition_header}
use Rattle.rules.proofs.Converting.Lines.{recast, lines_ended, recast_ended}

-- the bytes of a listing
abbrev pub listing_of : Edition → List (List ℕ) → List ℕ
listing_of e lines = header e ++ line_feed ∷ ended line_feed lines

-- ---- what is read of them

header_one_line : (e : Edition) → Without line_feed (header e)
unfolding header
header_one_line edition_1 = refl
header_one_line edition_2 = refl

module _ (e : Edition) (lines : List (List ℕ)) (w : each (other_than line_feed) lines ≡ true) where
  pub cut_listing : cut_at line_feed (listing_of e lines) ≡ record { whole = header e ∷ lines; rest = [] }
  cut_listing =
      cut_first line_feed (header e) (ended line_feed lines) (header_one_line e) ∙ ap (in_front (header e)) (cut_ended line_feed lines w)

  pub listing_edition : edition (listing_of e lines) ≡ e
  unfolding edition edition_in or_first
  listing_edition = rw (cut_listing, header_edition e)

  pub listing_lines : lines_behind (listing_of e lines) ≡ lines
  unfolding lines_behind behind_first
  listing_lines = rw cut_listing

  pub listing_accepted : length (listing_of e lines) ≤ max_listing → listing_cause (listing_of e lines) ≡ None
  unfolding listing_cause header_cause header_tests
  listing_accepted h =
      rw (le-leb _ _ h, cut_listing)
      (all_passed _ (le-leb _ _ (omega (arith, header_length e)), (ap is_some (header_edition e), tt)))

  pub listing_printed : (p : Program) → length (listing_of e lines) ≤ max_listing → listed p (listing_of e lines) ≡ run p e 2 at_start lines []
  unfolding listed unless behind_first
  listing_printed p h = rw (listing_accepted h, listing_edition, cut_listing)

  pub listing_leaves : (p : Program) → store_after p (listing_of e lines) ≡ (leaves p e at_start lines).store
  unfolding store_after behind_first
  listing_leaves p = rw (store_after, listing_edition, cut_listing)

-- ---- what is written

pub converted_listing : (e : Edition) (lines : List (List ℕ)) → each (other_than line_feed) lines ≡ true
    → converted (listing_of e lines) ≡ listing_of (other e) (map (recast e) lines)
unfolding converted
converted_listing e lines w =
    rw (listing_edition e lines w, listing_lines e lines w, lines_ended (converted_line e) (recast e) (recast_ended e) lines)

-- ---- what has a header

header_first : (ls : List (List ℕ)) (rest : List ℕ) → header_cause ls rest ≡ None → ls ≡ header (edition_in ls) ∷ behind_first ls
unfolding header_cause header_tests edition_in behind_first or_first
header_first [] [] h = absurd (none-some _ (sym h))
header_first [] (x ∷ rest) h = absurd (none-some _ (sym h))
header_first (l ∷ ls) rest h = go (edition_of l) refl (first_failed_none _ h).1.0
  where
    go : (o : Option Edition) → edition_of l ≡ o → is_some o ≡ true → l ∷ ls ≡ header (or_first o) ∷ ls
    go None e k = absurd (false≢true k)
    go (Some d) e k = ap (λ (x : List ℕ). x ∷ ls) (edition_header l d e)

pub not_refused : (bytes : List ℕ) → listing_cause bytes ≡ None
    → (length bytes ≤ max_listing) × ((cut_at line_feed bytes).whole ≡ header (edition bytes) ∷ lines_behind bytes)
unfolding listing_cause edition lines_behind
not_refused bytes h = go (leb (length bytes) max_listing) refl h
  where
    go : (t : Bool) → leb (length bytes) max_listing ≡ t
        → cond t (header_cause (cut_at line_feed bytes).whole (cut_at line_feed bytes).rest) (Some BadLength) ≡ None
        → (length bytes ≤ max_listing) × ((cut_at line_feed bytes).whole ≡ header (edition bytes) ∷ lines_behind bytes)
    go true e k = (leb-true _ _ e, header_first _ _ k)
    go false e k = absurd (none-some _ (sym k))
