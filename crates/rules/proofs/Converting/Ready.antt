-- A listing of which the converter refuses nothing is its header and lines that are accepted, and is short enough, before and after; and then
-- what is written is such a listing of the other edition. Assumes nothing.
use Rattle.rules.specs.declared.types.Cause.{Cause}
use Rattle.rules.specs.declared.types.Cause.TheVariants.{BadLength}
use Prim.Native.Nat.{ℕ, ◌+◌, ◌≤◌}
use native.Mathlib.Omega.{arith}
use mathlib.Core.Bool.{Bool, true, false, cond}
use Rattle.std.specs.Prelude.{Option, None, Some, option_map}
use Rattle.std.proofs.lemmas.Option.{none-some}
use mathlib.Core.List.{List, [], ◌∷◌, ◌++◌, map, append-nil}
use mathlib.Core.Path.{◌≡◌, refl, sym, ap, ap₂, subst, ◌∙◌}
use borrow.Author.Tests.{leb-true, le-leb}
use lib.Dec.{leb}
use lib.ListN.{length, length-append}
use Rattle.std.specs.List.{list_all}
use Rattle.rules.specs.Bytes.{line_feed}
use Rattle.rules.specs.declared.types.Edition.{Edition}
use Rattle.rules.specs.Listings.{max_listing, edition}
use Rattle.rules.specs.Converting.{other, header, lines_behind, converted, unended, whole_refused, convert_refusal, unless_refused, convert}
use Rattle.rules.specs.ConvertLaws.{Converts}
use Rattle.rules.proofs.Basics.Tests.{and_right, and_both}
use Rattle.rules.proofs.Listings.Cut.{other_than, each, ended, ended_cut, ended_length, weight}
use Rattle.rules.proofs.Listings.Headers.{header_length}
use Rattle.rules.proofs.Converting.Joined.{cut_without}
use Rattle.rules.proofs.Converting.Fields.{restored}
use Rattle.rules.proofs.Converting.Lines.{changed, recast, Accepted, turned, accepted_back}
use Rattle.rules.proofs.Converting.Refused.{EachLine, first_none, none_first, map_none, lines_accepted, none_of_lines}
use Rattle.rules.proofs.Converting.Whole.{listing_of, cut_listing, listing_edition, listing_lines, listing_accepted, converted_listing, not_refused}

pub record Ready (e : Edition) (lines : List (List ℕ)) : Type 0 where
  pub accepted : EachLine (Accepted e) lines
  pub fits : length (listing_of e lines) ≤ max_listing
  pub converted_fits : length (listing_of (other e) (map (recast e) lines)) ≤ max_listing

pub lines_whole : (e : Edition) (lines : List (List ℕ)) → EachLine (Accepted e) lines → each (other_than line_feed) lines ≡ true
lines_whole e [] h = refl
lines_whole e (line ∷ lines) h = and_both _ _ h.0.one_line (lines_whole e lines h.1)

-- ---- what is refused

pub rest_none : (n : ℕ) (rest : List ℕ) → unended n rest ≡ None → rest ≡ []
unfolding unended
rest_none n [] h = refl
rest_none n (x ∷ rest) h = absurd (none-some _ (sym h))

pub whole_fits : (out : List ℕ) → whole_refused out ≡ None → length out ≤ max_listing
unfolding whole_refused
whole_fits out h = go (leb (length out) max_listing) refl h
  where
    go : (t : Bool) → leb (length out) max_listing ≡ t → ◌≡◌ {A = Option (ℕ × Cause)} (cond t None (Some (1, BadLength))) None → length out ≤ max_listing
    go true e k = leb-true _ _ e
    go false e k = absurd (none-some _ (sym k))

fits_whole : (out : List ℕ) → length out ≤ max_listing → whole_refused out ≡ None
unfolding whole_refused
fits_whole out h = rw (le-leb _ _ h)

pub ready_converts : (e : Edition) (lines : List (List ℕ)) → Ready e lines → Converts (listing_of e lines)
unfolding convert_refusal unended
ready_converts e lines r =
    let w = lines_whole e lines r.accepted in
    let n = none_of_lines e 2 lines r.accepted in
    none_first _ (
      ap (option_map (λ cause. (1, cause))) (listing_accepted e lines w r.fits),
      (
        rw (listing_edition e lines w, listing_lines e lines w) n.0,
        (
          rw (cut_listing e lines w),
          (
            fits_whole _ (rw (converted_listing e lines w) r.converted_fits),
            (
              rw (listing_edition e lines w, listing_lines e lines w) n.1,
              tt,
            ),
          ),
        ),
      ),
    )

pub ready_of : (bytes : List ℕ) → Converts bytes
    → (bytes ≡ listing_of (edition bytes) (lines_behind bytes)) × Ready (edition bytes) (lines_behind bytes)
unfolding convert_refusal
ready_of bytes h =
    let a = first_none _ h in
    let t = not_refused bytes (map_none _ _ a.0) in
    let z = rest_none _ _ a.1.1.0 in
    let q : bytes ≡ listing_of (edition bytes) (lines_behind bytes)
    = sym (ended_cut line_feed bytes) ∙ ap₂ (λ (ls : List (List ℕ)) (rest : List ℕ). ended line_feed ls ++ rest) t.1 z ∙ append-nil _ in
    let w : each (other_than line_feed) (lines_behind bytes) ≡ true
    = and_right (list_all (other_than line_feed) (header (edition bytes))) _
    (ap (each (other_than line_feed)) (sym t.1) ∙ (cut_without line_feed bytes).0) in
    let c : converted bytes ≡ listing_of (other (edition bytes)) (map (recast (edition bytes)) (lines_behind bytes))
    = ap converted q ∙ converted_listing (edition bytes) (lines_behind bytes) w in (
      q,
      record {
        accepted = lines_accepted (edition bytes) 2 (lines_behind bytes) w a.1.0 a.1.1.1.1.0;
        fits = subst (λ (l : List ℕ). length l ≤ max_listing) q t.0;
        converted_fits = subst (λ (l : List ℕ). length l ≤ max_listing) c (whole_fits _ a.1.1.1.0);
      },
    )

-- ---- what is written

pub ready_convert : (e : Edition) (lines : List (List ℕ)) → Ready e lines
    → convert (listing_of e lines) ≡ listing_of (other e) (map (recast e) lines)
unfolding convert unless_refused
ready_convert e lines r = rw (ready_converts e lines r) (converted_listing e lines (lines_whole e lines r.accepted))

accepted_lines : (e : Edition) (lines : List (List ℕ)) → EachLine (Accepted e) lines → EachLine (Accepted (other e)) (map (recast e) lines)
accepted_lines e [] h = tt
accepted_lines e (line ∷ lines) h = (accepted_back e line h.0, accepted_lines e lines h.1)

pub lines_back : (e : Edition) (lines : List (List ℕ)) → EachLine (Accepted e) lines
    → map (recast (other e)) (map (recast e) lines) ≡ map (changed (restored e)) lines
lines_back e [] h = refl
lines_back e (line ∷ lines) h = ap₂ ◌∷◌ (turned e line h.0).back (lines_back e lines h.1)

lines_shorter : (e : Edition) (lines : List (List ℕ)) → EachLine (Accepted e) lines → weight (map (changed (restored e)) lines) ≤ weight lines
lines_shorter e [] h = omega arith
lines_shorter e (line ∷ lines) h = omega (arith, (turned e line h.0).shorter, lines_shorter e lines h.1)

listing_length : (e : Edition) (lines : List (List ℕ)) → length (listing_of e lines) ≡ 10 + weight lines
listing_length e lines =
    omega (arith, length-append (header e) (line_feed ∷ ended line_feed lines), header_length e, ended_length line_feed lines)

pub ready_back : (e : Edition) (lines : List (List ℕ)) → Ready e lines → Ready (other e) (map (recast e) lines)
ready_back e lines r =
    record {
      accepted = accepted_lines e lines r.accepted;
      fits = r.converted_fits;
      converted_fits =
          rw (lines_back e lines r.accepted)
          (omega (
            arith,
            r.fits,
            listing_length e lines,
            listing_length (other (other e)) (map (changed (restored e)) lines),
            lines_shorter e lines r.accepted,
          ));
    }
