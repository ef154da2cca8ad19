-- A line prints at most 40 bytes, only where it means something, and then it has 8 bytes at least, its line feed included. So a program
-- prints at most five bytes for each byte of its listing, and what it prints at the end takes no more than the header leaves. Assumes
-- nothing.
use Rattle.rules.specs.declared.types.Cause.TheVariants.{BadHeader, BadLength}
use Prim.Native.Nat.{ℕ, suc, ◌+◌, ◌*◌, ◌≤◌}
use native.Mathlib.Omega.{arith}
use mathlib.Core.Bool.{Bool, true, false, cond}
use Rattle.std.specs.Prelude.{Option, None, Some, is_some}
use mathlib.Core.List.{List, [], ◌∷◌}
use mathlib.Core.Path.{◌≡◌, refl, ap, ◌∙◌}
use borrow.Author.Tests.{leb-true}
use lib.Dec.{leb}
use lib.ListN.{length, length-append}
use Rattle.rules.specs.Store.{Store}
use Rattle.rules.specs.declared.types.Sort.{Sort}
use Rattle.rules.specs.Building.{Built, made, accepted, refused, answer, built, first_failed}
use Rattle.rules.specs.declared.types.Ignore.{Ignore}
use Rattle.rules.specs.Answers.{Compared, eq, neq, refused as refused_compared, Hashed, hash_is, refused_hash}
use Rattle.rules.specs.Bytes.{line_feed, cut_at}
use Rattle.rules.specs.Lines.{Line, building, query, parse}
use Rattle.rules.specs.declared.types.Edition.{Edition}
use Rattle.rules.specs.Listings.{share, Progress, LineOutcome, prints, stops, Program, building_does, line_does, max_line, does, proceed, at_end, run, at_start, edition_of, header_tests, header_cause, listing_cause, behind_first, edition, unless, max_listing, max_output, listed, twins_answer, twins_program, twins, sums_answer, sums_program, sums}
use Rattle.rules.proofs.Listings.Cut.{weight, cut_weight}
use Rattle.rules.proofs.Listings.Headers.{edition_header, header_length}
use Rattle.rules.proofs.Listings.Written.{last_most, line_most, refusal_short, share_short, equal_short, unequal_short, hashes_short}
use Rattle.rules.proofs.Listings.Taken.{parse_long}

-- at most k bytes are printed
abbrev pub Within : ℕ → LineOutcome → Type 0
Within k (prints out next) = length out ≤ k
Within k (stops cause) = Unit {0}

pub record Terse (p : Program) : Type 0 where
  pub ask : (now : Progress) (f : Sort) (l r : ℕ) (ig : Ignore) → Within line_most (p.ask now f l r ig)
  pub close : (now : Progress) → length (p.close now) ≤ last_most

building_within : (k : ℕ) (b : Built) (s : Store) (now : Progress) → Within k (building_does b s now)
unfolding building_does
building_within k (made n) s now = omega arith
building_within k accepted s now = omega arith
building_within k (refused cause) s now = tt

more : (j k : ℕ) (o : LineOutcome) → j ≤ k → Within j o → Within k o
more j k (prints out next) h w = omega arith
more j k (stops cause) h w = tt

proceed_short : (j k n : ℕ) (o : LineOutcome) (g : Progress → List ℕ) → Within j o → ((next : Progress) → length (g next) ≤ k) → last_most ≤ k
    → length (proceed o n g) ≤ j + k
unfolding proceed
proceed_short j k n (prints out next) g w f h = omega (arith, length-append out (g next), f next)
proceed_short j k n (stops cause) g w f h = omega (arith, refusal_short n cause)

module _ (p : Program) (t : Terse p) (e : Edition) where
  line_within : (now : Progress) (line : List ℕ) (o : Option Line) → parse e line ≡ o → Within (5 * suc (length line)) (line_does p now o)
  unfolding line_does
  line_within now line None h = tt
  line_within now line (Some (building c)) h = building_within _ (answer now.store c) (built now.store c) now
  line_within now line (Some (query f l r ig)) h = more line_most _ (p.ask now f l r ig) (omega (arith, parse_long e line (query f l r ig) h)) (t.ask now f l r ig)

  pub does_within : (now : Progress) (line : List ℕ) → Within (5 * suc (length line)) (does p e now line)
  unfolding does
  does_within now line = go (leb (length line) max_line)
    where
      go : (b : Bool) → Within (5 * suc (length line)) (cond b (line_does p now (parse e line)) (stops BadLength))
      go true = line_within now line (parse e line) refl
      go false = tt

  end_short : (n : ℕ) (now : Progress) (rest : List ℕ) → length (at_end p n now rest) ≤ last_most
  unfolding at_end
  end_short n now [] = t.close now
  end_short n now (x ∷ rest) = refusal_short n BadLength

  run_short : (n : ℕ) (now : Progress) (lines : List (List ℕ)) (rest : List ℕ) → length (run p e n now lines rest) ≤ 5 * weight lines + last_most
  unfolding run
  run_short n now [] rest = omega (arith, end_short n now rest)
  run_short n now (line ∷ lines) rest =
      omega (
        arith,
        proceed_short (5 * suc (length line)) (5 * weight lines + last_most) n (does p e now line) (λ next. run p e (suc n) next lines rest)
            (does_within now line) (λ next. run_short (suc n) next lines rest) (omega arith),
      )

-- what follows a header, which has 9 bytes, or a refusal
header_short : (line : List ℕ) (a : Bool) (o : Option Edition) (k : ℕ) (out : List ℕ) → edition_of line ≡ o → suc (length line) + k ≤ max_listing
    → length out ≤ 5 * k + last_most
    → length (unless (first_failed ((a, BadLength) ∷ (is_some o, BadHeader) ∷ [])) out) ≤ max_output
unfolding unless first_failed
header_short line false o k out e h m = omega (arith, refusal_short 1 BadLength)
header_short line true None k out e h m = omega (arith, refusal_short 1 BadHeader)
header_short line true (Some d) k out e h m =
    let q : length line ≡ 9 = ap length (edition_header line d e) ∙ header_length d in
    omega arith

module _ (p : Program) (t : Terse p) where
  from_header_short : (e : Edition) (lines : List (List ℕ)) (rest : List ℕ) → weight lines ≤ max_listing
      → length (unless (header_cause lines rest) (run p e 2 at_start (behind_first lines) rest)) ≤ max_output
  unfolding header_cause header_tests behind_first unless
  from_header_short e [] [] h = omega (arith, refusal_short 1 BadHeader)
  from_header_short e [] (x ∷ rest) h = omega (arith, refusal_short 1 BadLength)
  from_header_short e (line ∷ lines) rest h =
      header_short line _ (edition_of line) (weight lines) _ refl (omega arith) (run_short p t e _ at_start lines rest)

  listed_short : (bytes : List ℕ) → length (listed p bytes) ≤ max_output
  unfolding listed listing_cause unless
  listed_short bytes = go (leb (length bytes) max_listing) refl
    where
      go : (b : Bool) → leb (length bytes) max_listing ≡ b
          → length (unless (cond b (header_cause (cut_at line_feed bytes).whole (cut_at line_feed bytes).rest) (Some BadLength)) (run p (edition bytes) 2 at_start (behind_first (cut_at line_feed bytes).whole) (cut_at line_feed bytes).rest)) ≤ max_output
      go true e = from_header_short (edition bytes) _ _ (omega (arith, cut_weight line_feed bytes, leb-true (length bytes) max_listing e))
      go false e = omega (arith, refusal_short 1 BadLength)

-- ---- the two programs

twins_within : (c : Compared) (f : Sort) (r : ℕ) (now : Progress) → Within line_most (twins_answer c f r now)
unfolding twins_answer
twins_within (eq paired) f r now = equal_short paired
twins_within (neq p paired) f r now = unequal_short p paired
twins_within (refused_compared cause) f r now = tt

pub twins_terse : Terse twins_program
unfolding twins_program
twins_terse = record { ask = λ now f l r ig. twins_within _ _ _ now; close = λ now. share_short (share now.tally) }

pub twins_short : (bytes : List ℕ) → length (twins bytes) ≤ max_output
unfolding twins
twins_short bytes = listed_short twins_program twins_terse bytes

sums_within : (a b : Hashed) (now : Progress) → Within line_most (sums_answer a b now)
unfolding sums_answer
sums_within (hash_is left) (hash_is right) now = hashes_short left right
sums_within (hash_is left) (refused_hash cause) now = tt
sums_within (refused_hash cause) right now = tt

pub sums_terse : Terse sums_program
unfolding sums_program
sums_terse = record { ask = λ now f l r ig. sums_within _ _ now; close = λ now. omega arith }

pub sums_short : (bytes : List ℕ) → length (sums bytes) ≤ max_output
unfolding sums
sums_short bytes = listed_short sums_program sums_terse bytes
