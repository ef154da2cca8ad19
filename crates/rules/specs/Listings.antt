-- 01, "Listings": the two programs, from the bytes of a listing to the bytes that are printed. "A program tests 11 (listing's length,
-- line 1), then per line 11, 9, 10, then the call."
use Rattle.rules.specs.declared.types.Cause.{Cause}
use Rattle.rules.specs.declared.types.Cause.TheVariants.{BadHeader, BadLength, BadLine}
use Rattle.std.specs.Prelude.{ℕ, suc, ◌+◌, ◌*◌, ◌/◌, ◌%◌, Bool, true, false, cond, ◌&&◌, ◌||◌, List, [], ◌∷◌, ◌++◌, eqb, leb, ltb, length, Option, None, Some, is_some}
use Rattle.rules.specs.Causes.{number_of}
use Rattle.std.specs.List.{list_any}
use Rattle.rules.specs.Lists.{count_below}
use Rattle.rules.specs.Store.{Store, empty_store, max_ops}
use Rattle.rules.specs.Fragments.{fragment_ops}
use Rattle.rules.specs.declared.types.Sort.{Sort}
use Rattle.rules.specs.declared.types.Sort.TheVariants.{Op as op, Block as block, Region as region}
use Rattle.rules.specs.Building.{Built, made, accepted, refused, answer, built, first_failed}
use Rattle.rules.specs.declared.types.Ignore.{Ignore}
use Rattle.rules.specs.Mapping.{empty_mapping}
use Rattle.rules.specs.Comparison.{Pair}
use Rattle.rules.specs.Answers.{Compared, eq, neq, refused as refused_compared, comparison, Hashed, hash_is, refused_hash, hashed}
use Rattle.rules.specs.Bytes.{text, comma, line_feed, cut_at, decimal, hexadecimal}
use Rattle.rules.specs.Lines.{Line, building, query, one_of, parse}
use Rattle.rules.specs.declared.types.Edition.{Edition}
use Rattle.rules.specs.declared.types.Edition.TheVariants.{First as edition_1, Second as edition_2}

-- ---- what is printed

-- a line: its fields, parted by commas, and the line feed that ends it
unfoldable pub printed : List (List ℕ) → List ℕ
printed [] = line_feed ∷ []
printed (f ∷ []) = f ++ (line_feed ∷ [])
printed (f ∷ g ∷ fs) = f ++ comma ∷ printed (g ∷ fs)

-- "A refused line prints `refused,LINE,NUMBER`"
unfoldable pub refusal : ℕ → Cause → List ℕ
refusal line cause = printed (text "refused" ∷ decimal line ∷ decimal (number_of cause) ∷ [])

-- "Output: eq, op, block or region, the named pair, paired."
unfoldable pub equal_line : ℕ → List ℕ
equal_line paired = printed (text "eq" ∷ text "-" ∷ text "-" ∷ decimal paired ∷ [])

unfoldable pub sort_text : Sort → List ℕ
sort_text op = text "op"
sort_text block = text "block"
sort_text region = text "region"

unfoldable pub unequal_line : Pair → ℕ → List ℕ
unequal_line p paired = printed (sort_text p.sort ∷ decimal p.left ∷ decimal p.right ∷ decimal paired ∷ [])

-- "both hashes as 16 lower-case hexadecimal digits parted by a comma"
unfoldable pub hashes_line : ℕ → ℕ → List ℕ
hashes_line left right = printed (hexadecimal left ∷ hexadecimal right ∷ [])

-- ---- the share: "Count each operation once: over all operations inside any right fragment, those inside at least one right fragment found
-- equal, each fragment as it stood at its `q`", "a fragment's own operation included", "in whole per cent": to "the nearest per cent and an
-- exact half to the even number". "The half is decided on whole numbers. 0 over nothing is still 0."

-- two sets of operation numbers: those inside right fragments found equal, and those inside any
pub record Tally : Type 0 where
  pub equal : ℕ → Bool
  pub all : ℕ → Bool

unfoldable pub no_tally : Tally
no_tally = record { equal = λ (m : ℕ). false; all = λ (m : ℕ). false }

-- with the operations inside a right fragment more, found equal or not
unfoldable pub tallied : Bool → List ℕ → Tally → Tally
tallied found ops t =
    record {
      equal = λ (m : ℕ). t.equal m || (found && list_any (eqb m) ops);
      all = λ (m : ℕ). t.all m || list_any (eqb m) ops;
    }

-- whether a quotient is rounded up, 1 or 0: by twice the rest, beside the divisor
unfoldable pub rounded_up : ℕ → ℕ → ℕ → ℕ
rounded_up quotient twice divisor = cond (ltb divisor twice) 1 (cond (eqb twice divisor) (quotient % 2) 0)

-- n over a divisor above 0, to the nearest whole number, an exact half to the even one
unfoldable pub nearest : ℕ → ℕ → ℕ
nearest n divisor = n / divisor + rounded_up (n / divisor) (2 * (n % divisor)) divisor

unfoldable pub per_cent : ℕ → ℕ → ℕ
per_cent part whole = cond (eqb whole 0) 0 (nearest (part * 100) whole)

-- operations have numbers below 512
unfoldable pub share : Tally → ℕ
share t = per_cent (count_below max_ops t.equal) (count_below max_ops t.all)

unfoldable pub share_line : ℕ → List ℕ
share_line cent = printed (text "share" ∷ decimal cent ∷ [])

-- ---- lines one after another

-- what the lines so far have left
pub record Progress : Type 0 where
  pub store : Store
  pub tally : Tally

unfoldable pub at_start : Progress
at_start = record { store = empty_store; tally = no_tally }

pub data LineOutcome : Type 0 where
  -- what a line prints, and what it leaves
  prints : List ℕ → Progress → LineOutcome
  -- the cause for which it is refused
  stops : Cause → LineOutcome

pub record Program : Type 0 where
  -- what a `q` does
  pub ask : Progress → Sort → ℕ → ℕ → Ignore → LineOutcome
  -- what is printed behind the last line
  pub close : Progress → List ℕ

-- a building call prints nothing
unfoldable pub building_does : Built → Store → Progress → LineOutcome
building_does (made n) s now = prints [] (record { store = s; tally = now.tally })
building_does accepted s now = prints [] (record { store = s; tally = now.tally })
building_does (refused cause) s now = stops cause

unfoldable pub line_does : Program → Progress → Option Line → LineOutcome
line_does p now None = stops BadLine
line_does p now (Some (building c)) = building_does (answer now.store c) (built now.store c) now
line_does p now (Some (query f l r ig)) = p.ask now f l r ig

-- "lines of at most 512 bytes before the one line feed that ends each"
abbrev pub max_line : ℕ
max_line = 512

unfoldable pub does : Program → Edition → Progress → List ℕ → LineOutcome
does p e now line = cond (leb (length line) max_line) (line_does p now (parse e line)) (stops BadLength)

-- a refused line "ends either program; what was printed before stands, and no share follows"
unfoldable pub proceed : LineOutcome → ℕ → (Progress → List ℕ) → List ℕ
proceed (prints out next) n more = out ++ more next
proceed (stops cause) n more = refusal n cause

-- the bytes behind the last line feed: "no last line feed" is refused
unfoldable pub at_end : Program → ℕ → Progress → List ℕ → List ℕ
at_end p n now [] = p.close now
at_end p n now (x ∷ rest) = refusal n BadLength

-- the lines from number n on, and the bytes behind the last line feed
unfoldable pub run : Program → Edition → ℕ → Progress → List (List ℕ) → List ℕ → List ℕ
run p e n now [] rest = at_end p n now rest
run p e n now (line ∷ lines) rest = proceed (does p e now line) n (λ next. run p e (suc n) next lines rest)

-- "The first is the fixed bytes `opstore,1`"; and (order 14) "Edition 2 starts `opstore,2`"
unfoldable pub edition_of : List ℕ → Option Edition
edition_of line = one_of (("opstore,1", edition_1) ∷ ("opstore,2", edition_2) ∷ []) line

unfoldable pub header_tests : List ℕ → List (Bool × Cause)
header_tests line = (leb (length line) max_line, BadLength) ∷ (is_some (edition_of line), BadHeader) ∷ []

-- why the first line is refused. "An empty listing gives 9, line 1."
unfoldable pub header_cause : List (List ℕ) → List ℕ → Option Cause
header_cause [] [] = Some BadHeader
header_cause [] (x ∷ rest) = Some BadLength
header_cause (line ∷ lines) rest = first_failed (header_tests line)

-- "At most 65,536 bytes"
abbrev pub max_listing : ℕ
max_listing = 65536

-- why no line behind the first is read
unfoldable pub listing_cause : List ℕ → Option Cause
listing_cause bytes =
    cond (leb (length bytes) max_listing) (header_cause (cut_at line_feed bytes).whole (cut_at line_feed bytes).rest) (Some BadLength)

-- the lines behind the first
unfoldable pub behind_first : List (List ℕ) → List (List ℕ)
behind_first [] = []
behind_first (line ∷ lines) = lines

-- the edition that the first line says; where it says none, `listing_cause` is 9 and this may be either
unfoldable pub or_first : Option Edition → Edition
or_first None = edition_1
or_first (Some e) = e

unfoldable pub edition_in : List (List ℕ) → Edition
edition_in [] = edition_1
edition_in (line ∷ lines) = or_first (edition_of line)

unfoldable pub edition : List ℕ → Edition
edition bytes = edition_in (cut_at line_feed bytes).whole

unfoldable pub unless : Option Cause → List ℕ → List ℕ
unless None out = out
unless (Some cause) out = refusal 1 cause

-- the first line has number 1
unfoldable pub listed : Program → List ℕ → List ℕ
listed p bytes =
    unless (listing_cause bytes) (run p (edition bytes) 2 at_start (behind_first (cut_at line_feed bytes).whole) (cut_at line_feed bytes).rest)

-- no listing makes either program print more
abbrev pub max_output : ℕ
max_output = 327680

-- ---- afterwards: what the lines have built and counted, up to a refused one

unfoldable pub keeps : LineOutcome → Progress → (Progress → Progress) → Progress
keeps (prints out next) now more = more next
keeps (stops cause) now more = now

unfoldable pub leaves : Program → Edition → Progress → List (List ℕ) → Progress
leaves p e now [] = now
leaves p e now (line ∷ lines) = keeps (does p e now line) now (λ next. leaves p e next lines)

-- the store, of a listing whose first line is not refused
unfoldable pub store_after : Program → List ℕ → Store
store_after p bytes = (leaves p (edition bytes) at_start (behind_first (cut_at line_feed bytes).whole)).store

-- ---- "`twins` prints a line for each `q`, then the share"

unfoldable pub twins_answer : Compared → Sort → ℕ → Progress → LineOutcome
twins_answer (eq paired) f r now =
    prints (equal_line paired) (record { store = now.store; tally = tallied true (fragment_ops now.store f r) now.tally })
twins_answer (neq p paired) f r now =
    prints (unequal_line p paired) (record { store = now.store; tally = tallied false (fragment_ops now.store f r) now.tally })
twins_answer (refused_compared cause) f r now = stops cause

-- "Each `q` starts with an empty mapping." No type is renamed: order 3's list is, "in the programs", empty.
unfoldable pub twins_program : Program
twins_program =
    record {
      ask = λ now f l r ig. twins_answer (comparison true now.store [] empty_mapping ig f l r).answer f r now;
      close = λ now. share_line (share now.tally);
    }

unfoldable pub twins : List ℕ → List ℕ
twins bytes = listed twins_program bytes

-- ---- "`sums` prints for each `q` both hashes ..., and no share": both are there before any is printed

unfoldable pub sums_answer : Hashed → Hashed → Progress → LineOutcome
sums_answer (hash_is left) (hash_is right) now = prints (hashes_line left right) now
sums_answer (hash_is left) (refused_hash cause) now = stops cause
sums_answer (refused_hash cause) right now = stops cause

unfoldable pub sums_program : Program
sums_program =
    record {
      ask = λ now f l r ig. sums_answer (hashed true now.store [] ig f l) (hashed true now.store [] ig f r) now;
      close = λ now. [];
    }

unfoldable pub sums : List ℕ → List ℕ
sums bytes = listed sums_program bytes
