-- The first line: each test of the code is one of the rules', and a first line that passes them all has ten bytes with its line feed.
-- Assumes nothing.
use Prim.Native.Nat.{ℕ, ◌+◌, ◌-◌, ◌<◌, ◌≤◌}
use native.Mathlib.Omega.{arith}
use mathlib.Core.Bool.{Bool, true, cond}
use Rattle.std.specs.Prelude.{Option, None, Some, is_some}
use Rattle.std.specs.Prelude as std
use mathlib.Core.List.{List, [], ◌∷◌}
use mathlib.Core.Path.{◌≡◌, refl, sym, ap, ap₂, subst, ◌∙◌}
use borrow.Author.Tests.{le-leb, lt-leb}
use lib.ListN.{length, take, drop}
use Rattle.rules.specs.Bytes.{line_feed, Pieces, cut_at}
use Rattle.rules.specs.Building.{first_failed}
use Rattle.rules.specs.Listings.{edition_of, header_tests, header_cause, listing_cause, behind_first, or_first, edition_in, edition, max_line, max_listing}
use Rattle.rules.proofs.Listings.Headers.{edition_header, header_length}
use Rattle.rules.specs.Causes.{cause_of}
use Rattle.layout.specs.Reading.{slice}
use Rattle.rules.specs.declared.types.Cause.{Cause}
use Rattle.rules.specs.declared.types.Cause.TheVariants.{BadHeader, BadLength}
use Rattle.layout.proofs.Scans.{slice_length}
use Rattle.lines.specs.Pieces.{pieces_from, PieceEnd}
use Rattle.lines.specs.Header.{Headed}
use Rattle.rules.specs.declared.types.Edition.{Edition}

-- a refused first line
refused : (listing : List ℕ) (k : Cause) → listing_cause listing ≡ Some k → Headed listing (std.Err k)
unfolding cause_of
refused listing k h = record { same = sym h; begun = tt }

pub too_long_lem : (listing : List ℕ) → max_listing < length listing → Headed listing (std.Err BadLength)
unfolding listing_cause
too_long_lem listing h = refused listing BadLength (ap (λ (t : Bool). cond t (header_cause (cut_at line_feed listing).whole (cut_at line_feed listing).rest) (Some BadLength)) (lt-leb (length listing) max_listing h))

module _ (listing : List ℕ) (short : length listing ≤ max_listing) where
  by_header : listing_cause listing ≡ header_cause (cut_at line_feed listing).whole (cut_at line_feed listing).rest
  unfolding listing_cause
  by_header = ap (λ (t : Bool). cond t (header_cause (cut_at line_feed listing).whole (cut_at line_feed listing).rest) (Some BadLength)) (le-leb (length listing) max_listing short)

  by_pieces : (p : Pieces) → pieces_from line_feed listing 0 ≡ p → listing_cause listing ≡ header_cause p.whole p.rest
  unfolding pieces_from
  by_pieces p e = by_header ∙ ap (λ (q : Pieces). header_cause q.whole q.rest) e

  no_bytes : (xs : List ℕ) → length xs ≡ 0 → header_cause (cut_at line_feed xs).whole (cut_at line_feed xs).rest ≡ Some BadHeader
  unfolding header_cause cut_at
  no_bytes [] e = refl
  no_bytes (x ∷ xs) e = absurd (let z : ⊥ = omega arith in z)

  pub nothing : length listing ≡ 0 → Headed listing (std.Err BadHeader)
  nothing e = refused listing BadHeader (by_header ∙ no_bytes listing e)

  module _ (e : ℕ) (end : PieceEnd listing 0 line_feed e) where
    some_bytes : (xs : List ℕ) → (length xs ≡ 0 → ⊥) → header_cause [] xs ≡ Some BadLength
    unfolding header_cause
    some_bytes [] h = absurd (h refl)
    some_bytes (x ∷ xs) h = refl

    pub unended : (length listing ≡ 0 → ⊥) → e ≡ length listing → Headed listing (std.Err BadLength)
    unended h q = refused listing BadLength (by_pieces _ (end.unended (omega arith)) ∙ some_bytes listing h)

    module _ (l : (e ≡ length listing → ⊥)) where
      ended : e < length listing
      ended = let w : e ≤ length listing = end.within in omega arith

      tested : listing_cause listing ≡ first_failed (header_tests (slice listing 0 e))
      unfolding header_cause
      tested = by_pieces _ (end.ended ended)

      line_length : length (slice listing 0 e) ≡ e
      line_length = slice_length listing 0 e end.within ∙ (let z : e - 0 ≡ e = omega arith in z)

      pub line_too_long : max_line < e → Headed listing (std.Err BadLength)
      unfolding header_tests first_failed
      line_too_long h =
          let long = lt-leb _ max_line (subst (λ (n : ℕ). max_line < n) (sym line_length) h) in
          refused listing BadLength (tested ∙ ap (λ (t : Bool). first_failed ((t, BadLength) ∷ (is_some (edition_of (slice listing 0 e)), BadHeader) ∷ [])) long)

      module _ (fits : e ≤ max_line) where
        whole_line : slice listing 0 e ≡ take e listing
        unfolding slice
        whole_line = ap (λ (n : ℕ). take n listing) (let z : e - 0 ≡ e = omega arith in z)

        compared : (o : Option Edition) → edition_of (take e listing) ≡ o → listing_cause listing ≡ first_failed ((true, BadLength) ∷ (is_some o, BadHeader) ∷ [])
        unfolding header_tests
        compared o q =
            let short = le-leb _ max_line (subst (λ (n : ℕ). n ≤ max_line) (sym line_length) fits) in
            let says = ap (λ (xs : List ℕ). is_some (edition_of xs)) whole_line ∙ ap is_some q in
            tested ∙ ap₂ (λ (a b : Bool). first_failed ((a, BadLength) ∷ (b, BadHeader) ∷ [])) short says

        pub other_line : edition_of (take e listing) ≡ None → Headed listing (std.Err BadHeader)
        unfolding first_failed
        other_line q = refused listing BadHeader (compared None q)

        module _ (f : Edition) (q : edition_of (take e listing) ≡ Some f) where
          nine : e ≡ 9
          nine = sym line_length ∙ ap length (whole_line ∙ edition_header (take e listing) f q) ∙ header_length f

          says_lem : edition listing ≡ f
          unfolding edition edition_in or_first pieces_from
          says_lem =
              ap (λ (p : Pieces). edition_in p.whole) (end.ended ended)
              ∙ ap (λ (xs : List ℕ). or_first (edition_of xs)) whole_line
              ∙ ap or_first q

          pub header_lem : Headed listing (std.Ok f)
          unfolding first_failed cause_of behind_first pieces_from
          header_lem =
              let l' : e < length listing = ended in
              let pieces = end.ended ended in
              record {
                same = sym (compared (Some f) q);
                begun =
                    record {
                      says = says_lem;
                      long = omega (arith, nine);
                      short = short;
                      lines = ap (λ (p : Pieces). behind_first p.whole) pieces ∙ ap (λ (n : ℕ). (cut_at line_feed (drop (n + 1) listing)).whole) nine;
                      rest = ap (λ (p : Pieces). p.rest) pieces ∙ ap (λ (n : ℕ). (cut_at line_feed (drop (n + 1) listing)).rest) nine;
                    };
              }
