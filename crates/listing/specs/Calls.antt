-- What the two offered functions give for every listing and all lent buffers.
use Rattle.rules.specs.declared.types.Cause.{Cause}
use Rattle.rules.specs.declared.types.Cause.TheVariants.{NotSound, BadMapping}
use Rattle.std.specs.Prelude as std
use Rattle.std.specs.Prelude.{ℕ, ◌<◌, ◌≤◌, Bool, true, List, [], ◌∷◌, ◌≡◌, eqb, length, None, Some}
use Rattle.rules.specs.Building.{first_failed}
use Rattle.rules.specs.Marks.{unmarked}
use Rattle.rules.specs.Listings.{Program, listing_cause, listed, store_after, max_output}
use Rattle.layout.specs.Columns.{buffer_length}
use Rattle.layout.specs.MarkedReading.{marked_in, sound_lent}
use Rattle.lines.specs.Writing.{WritesAt}
use Rattle.equivalence.specs.MappingWords.{mapping_length, empty_words}
use Rattle.listing.specs.declared.types.Unprinted.{Unprinted}
use Rattle.listing.specs.declared.types.Unprinted.TheVariants.{Refused, NoRoom}

-- the lent buffers and what they are afterwards
pub record Buffers : Type 0 where
  pub store : List ℕ
  pub mapping : List ℕ
  pub out : List ℕ

-- "store of wrong length", "mapping of wrong length"
unfoldable pub buffer_tests : Buffers → List (Bool × Cause)
buffer_tests b = (eqb (length b.store) buffer_length, NotSound) ∷ (eqb (length b.mapping) mapping_length, BadMapping) ∷ []

-- the store and the mapping afterwards: as they were where the first line is refused; else the store is what the lines have built, up
-- to a refused one, without marks, and the mapping is empty
pub record LeavesBuffers (p : Program) (listing : List ℕ) (before after : Buffers) : Type 0 where
  pub refused : (cause : Cause) → listing_cause listing ≡ Some cause → (after.store ≡ before.store) × (after.mapping ≡ before.mapping)
  pub reads : listing_cause listing ≡ None → marked_in after.store ≡ unmarked (store_after p listing)
  pub sound : listing_cause listing ≡ None → sound_lent after.store ≡ true
  pub empty : listing_cause listing ≡ None → after.mapping ≡ empty_words

-- exactly what the rules print is written, from the start of the lent bytes on, and n is how many bytes that are
pub record PrintsListing (p : Program) (listing : List ℕ) (before after : Buffers) (n : ℕ) : Type 0 where
  pub wrote : WritesAt max_output before.out after.out 0 (listed p listing) n
  pub leaves : LeavesBuffers p listing before after

-- what is told of a listing: how many bytes are printed, why a lent buffer is refused, or that there is too little room
pub data ListingAnswer : Type 0 where
  printed : ℕ → ListingAnswer
  refused : Cause → ListingAnswer
  no_room : ListingAnswer

unfoldable pub listing_answer_of : std.Result ℕ Unprinted → ListingAnswer
listing_answer_of (std.Ok n) = printed n
listing_answer_of (std.Err (Refused cause)) = refused cause
listing_answer_of (std.Err NoRoom) = no_room

-- buffers of their lengths and room enough: the listing is printed; else every word and byte is as it was
unfoldable pub ListingAnswers : Program → List ℕ → Buffers → Buffers → ListingAnswer → Type 0
ListingAnswers p listing before after (printed n) =
    (first_failed (buffer_tests before) ≡ None) × (max_output ≤ length before.out) × PrintsListing p listing before after n
ListingAnswers p listing before after (refused cause) = (first_failed (buffer_tests before) ≡ Some cause) × (after ≡ before)
ListingAnswers p listing before after no_room = (first_failed (buffer_tests before) ≡ None) × (length before.out < max_output) × (after ≡ before)

-- buffers by name
unfoldable pub buffers : List ℕ → List ℕ → List ℕ → Buffers
buffers store mapping out = record { store = store; mapping = mapping; out = out }
