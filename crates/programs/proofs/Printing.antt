-- In buffers of their lengths, with room enough, a listing is printed: none of the tests by which an offered call refuses fails. Assumes nothing.
use Rattle.rules.specs.declared.types.Cause.{Cause}
use Prim.Native.Nat.{ℕ, ◌<◌, ◌≤◌}
use mathlib.Core.List.{List}
use Rattle.std.specs.Prelude.{Option, None, Some}
use mathlib.Core.Path.{◌≡◌, refl, sym, ◌∙◌}
use native.Mathlib.Omega.{arith}
use lib.ListN.{length}
use borrow.Author.Tests.{eq-eqb}
use Rattle.rules.specs.Building.{first_failed}
use Rattle.rules.specs.Listings.{Program, listed, max_listing, max_output}
use Rattle.layout.specs.Columns.{buffer_length}
use Rattle.equivalence.specs.MappingWords.{mapping_length}
use Rattle.lines.specs.Writing.{WritesAt}
use Rattle.rules.specs.Converting.{convert}
use Rattle.converting.specs.Calls as Converting
use Rattle.converting.specs.declared.types.NoRoom as converting
use Rattle.std.specs.Prelude as std
use Rattle.std.specs.Result.{result_unwrap_or}
use Rattle.listing.specs.declared.types.Unprinted.{Unprinted}
use Rattle.listing.specs.declared.types.Unprinted.TheVariants.{Refused, NoRoom}
use Rattle.listing.specs.Calls.{Buffers, buffer_tests, listing_answer_of, ListingAnswers}

module _ (p : Program) (listing : List ℕ) (before after : Buffers)
    (store : length before.store ≡ buffer_length) (mapping : length before.mapping ≡ mapping_length) (room : max_output ≤ length before.out) where
  -- no lent buffer is refused
  passes : first_failed (buffer_tests before) ≡ None
  unfolding first_failed buffer_tests
  passes = rw (eq-eqb _ buffer_length store, eq-eqb _ mapping_length mapping) refl

  pub all_printed : (r : std.Result ℕ Unprinted) → ListingAnswers p listing before after (listing_answer_of r) → WritesAt max_output before.out after.out 0 (listed p listing) (result_unwrap_or r 0)
  unfolding ListingAnswers listing_answer_of
  all_printed (std.Ok n) answer = answer.2.wrote
  all_printed (std.Err (Refused cause)) answer = absurd (let clash : ◌≡◌ {A = Option Cause} None (Some cause) = sym passes ∙ answer.0 in cc)
  all_printed (std.Err NoRoom) answer = absurd (let short : length before.out < max_output = answer.1 in omega arith)

-- the converter's room is less
pub all_converted : (listing before after : List ℕ) → max_output ≤ length before → (r : std.Result ℕ converting.NoRoom) → Converting.ConverterAnswers listing before after r
    → WritesAt max_output before after 0 (convert listing) (result_unwrap_or r 0)
unfolding Converting.ConverterAnswers
all_converted listing before after room (std.Ok n) answer =
    let w = answer.1 in
    record { written = w.written; behind = w.behind; short = omega (arith, w.short) }
all_converted listing before after room (std.Err e) answer = absurd (let short : length before < max_listing = answer.0 in omega arith)
