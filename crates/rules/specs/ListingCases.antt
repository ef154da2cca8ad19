-- Listings and what the programs print for them: 01's example first, then each way in which a line is refused.
use Rattle.std.specs.Prelude.{ℕ, true, List, [], ◌∷◌, ◌++◌, ◌≡◌, eqb, replicate}
use Prim.Native.String.{String}
use Rattle.rules.specs.Lists.{every}
use Rattle.std.specs.List.{flat_map}
use Rattle.rules.specs.Bytes.{text, line_feed}
use Rattle.rules.specs.Listings.{per_cent, twins, sums}

-- these lines, each ended by its line feed
unfoldable pub lines : List String → List ℕ
lines ls = flat_map (λ (l : String). text l ++ (line_feed ∷ [])) ls

pub data ListingCase : Type 0 where
  -- for this listing `twins` prints these lines
  twins_prints : List ℕ → List String → ListingCase
  -- for this listing `sums` prints these lines
  sums_prints : List ℕ → List String → ListingCase

unfoldable pub Prints : ListingCase → Type 0
Prints (twins_prints listing out) = twins listing ≡ lines out
Prints (sums_prints listing out) = sums listing ≡ lines out

unfoldable pub AllPrint : List ListingCase → Type 0
AllPrint [] = Unit {0}
AllPrint (c ∷ cs) = Prints c × AllPrint cs

-- the listing of "Listings"
unfoldable pub example_listing : List ℕ
example_listing =
    lines
    ("opstore,1"
    ∷ "o,7,-,5,1,0,0,0"
    ∷ "b,0,0,5,1,3"
    ∷ "o,8,0,5,0,1,3,1,0,0"
    ∷ "o,7,-,6,1,0,0,0"
    ∷ "b,1,0,6,1,3"
    ∷ "o,8,1,6,0,1,3,1,2,0"
    ∷ "q,o,0,2,1,0"
    ∷ "q,o,0,2,0,0"
    ∷ [])

-- the same in edition 2, without labels
unfoldable pub example_2 : List ℕ
example_2 =
    lines
    ("opstore,2"
    ∷ "o,7,-,5,1,0,0,0"
    ∷ "b,0,5,1,3"
    ∷ "o,8,0,5,0,1,3,1,0,0"
    ∷ "o,7,-,6,1,0,0,0"
    ∷ "b,1,6,1,3"
    ∷ "o,8,1,6,0,1,3,1,2,0"
    ∷ "q,o,0,2,1,0"
    ∷ "q,o,0,2,0,0"
    ∷ [])

-- one operation, then these lines
unfoldable pub with_one : List String → List ℕ
with_one ls = lines ("opstore,1" ∷ "o,1,-,0,0,0,0,0" ∷ ls)

-- one operation, and one of another kind with four or six in a block; then these lines
unfoldable pub in_block : List String
in_block = "o,3,0,0,0,0,0,0" ∷ "o,3,0,0,0,0,0,0" ∷ "o,3,0,0,0,0,0,0" ∷ "o,3,0,0,0,0,0,0" ∷ []

unfoldable pub with_five : List String → List ℕ
with_five rest = with_one ("o,2,-,0,1,0,0,0" ∷ "b,0,0,0,0" ∷ (in_block ++ rest))

unfoldable pub with_seven : List String → List ℕ
with_seven rest = with_five ("o,3,0,0,0,0,0,0" ∷ "o,3,0,0,0,0,0,0" ∷ rest)

unfoldable pub listing_cases : List ListingCase
listing_cases =
    twins_prints example_listing ("eq,-,-,3" ∷ "op,0,2,0" ∷ "share,100" ∷ [])
    ∷ sums_prints example_listing ("86d049952fe90c01,86d049952fe90c01" ∷ "c0db2bff72f7e56a,bf175687a8e326a7" ∷ [])
    -- no bytes at all; the header alone
    ∷ twins_prints [] ("refused,1,9" ∷ [])
    ∷ sums_prints [] ("refused,1,9" ∷ [])
    ∷ twins_prints (lines ("opstore,1" ∷ [])) ("share,0" ∷ [])
    ∷ sums_prints (lines ("opstore,1" ∷ [])) []
    -- another first line, a header without its line feed, a header again
    ∷ twins_prints (lines ("opstore,3" ∷ [])) ("refused,1,9" ∷ [])
    ∷ twins_prints (lines ("opstore,2," ∷ [])) ("refused,1,9" ∷ [])
    ∷ twins_prints (text "opstore,1") ("refused,1,11" ∷ [])
    ∷ twins_prints (lines ("opstore,1" ∷ "opstore,1" ∷ [])) ("refused,2,10" ∷ [])
    -- no last line feed, after the lines before it ran
    ∷ twins_prints (with_one ("q,o,0,0,0,0" ∷ []) ++ text "q,o,0,0,0,0") ("eq,-,-,1" ∷ "refused,4,11" ∷ [])
    -- a line of 513 bytes, one of 512, and a listing of 65,537
    ∷ twins_prints (with_one [] ++ replicate 513 48 ++ (line_feed ∷ [])) ("refused,3,11" ∷ [])
    ∷ twins_prints (with_one [] ++ replicate 512 48 ++ (line_feed ∷ [])) ("refused,3,10" ∷ [])
    ∷ twins_prints (example_listing ++ replicate 65537 48) ("refused,1,11" ∷ [])
    -- a leading zero, a sign, an empty line, a number over 32 bits, a field missing or extra
    ∷ twins_prints (with_one ("q,o,0,00,0,0" ∷ [])) ("refused,3,10" ∷ [])
    ∷ twins_prints (with_one ("q,o,0,+0,0,0" ∷ [])) ("refused,3,10" ∷ [])
    ∷ twins_prints (with_one ("" ∷ [])) ("refused,3,10" ∷ [])
    ∷ twins_prints (with_one ("q,o,0,4294967296,0,0" ∷ [])) ("refused,3,10" ∷ [])
    ∷ twins_prints (with_one ("q,o,0,0,0" ∷ [])) ("refused,3,10" ∷ [])
    ∷ twins_prints (with_one ("q,o,0,0,0,0," ∷ [])) ("refused,3,10" ∷ [])
    -- the ignore bits are within 64 bits; a flag is 0 or 1
    ∷ twins_prints (with_one ("q,o,0,0,0,18446744073709551615" ∷ "q,o,0,0,0,18446744073709551616" ∷ [])) ("eq,-,-,1" ∷ "refused,4,10" ∷ [])
    ∷ twins_prints (with_one ("q,o,0,0,2,0" ∷ [])) ("refused,3,10" ∷ [])
    -- a count that is too large, and one that is too small
    ∷ twins_prints (with_one ("o,1,-,0,0,2,3,0,0" ∷ [])) ("refused,3,10" ∷ [])
    ∷ twins_prints (with_one ("o,1,-,0,0,0,3,0,0" ∷ [])) ("refused,3,10" ∷ [])
    -- a fragment that does not exist: nothing of its line is printed
    ∷ twins_prints (with_one ("q,o,0,1,0,0" ∷ [])) ("refused,3,2" ∷ [])
    ∷ sums_prints (with_one ("q,o,0,1,0,0" ∷ [])) ("refused,3,2" ∷ [])
    -- attributes and operands; a parent that does not exist; 17 results
    ∷ twins_prints
    (with_one ("o,1,-,0,0,0,0,0" ∷ "a,o,0,1,5,10" ∷ "q,o,0,1,0,0" ∷ "q,o,0,1,0,32" ∷ "a,o,0,1,64,10" ∷ []))
    ("op,0,1,0" ∷ "eq,-,-,1" ∷ "refused,7,6" ∷ [])
    ∷ twins_prints
    (with_one ("o,2,-,0,0,1,3,0,0" ∷ "o,2,-,0,0,1,3,1,0,0" ∷ "s,2,0,1" ∷ "s,2,1,1" ∷ []))
    ("refused,6,7" ∷ [])
    ∷ twins_prints (with_one ("o,1,0,0,0,0,0,0" ∷ [])) ("refused,3,2" ∷ [])
    ∷ twins_prints (with_one ("o,1,-,0,0,17,1,1,1,1,1,1,1,1,1,1,1,1,1,1,1,1,1,0,0" ∷ [])) ("refused,3,4" ∷ [])
    -- 1 of 3 operations: the share is over right fragments
    ∷ twins_prints
    (with_one ("o,2,-,0,1,0,0,0" ∷ "b,0,0,0,0" ∷ "o,1,0,0,0,0,0,0" ∷ "q,o,0,0,0,0" ∷ "q,o,0,1,0,0" ∷ []))
    ("eq,-,-,1" ∷ "op,0,1,0" ∷ "share,33" ∷ [])
    -- blocks and regions
    ∷ twins_prints
    (with_one ("o,2,-,0,2,0,0,0" ∷ "b,0,0,0,0" ∷ "b,0,0,0,0" ∷ "b,1,0,0,0" ∷ "o,1,0,0,0,0,0,0" ∷ "q,r,0,1,0,0" ∷ "q,b,0,1,0,0" ∷ "q,b,1,2,0,0" ∷ []))
    ("region,0,1,1" ∷ "block,0,1,1" ∷ "eq,-,-,1" ∷ "share,0" ∷ [])
    -- 1 and 3 of 8 operations: an exact half, to the even number
    ∷ twins_prints (with_seven ("q,o,0,0,0,0" ∷ "q,o,0,1,0,0" ∷ [])) ("eq,-,-,1" ∷ "op,0,1,0" ∷ "share,12" ∷ [])
    ∷ twins_prints
    (with_seven ("q,o,0,0,0,0" ∷ "q,o,2,2,0,0" ∷ "q,o,3,3,0,0" ∷ "q,o,0,1,0,0" ∷ []))
    ("eq,-,-,1" ∷ "eq,-,-,1" ∷ "eq,-,-,1" ∷ "op,0,1,0" ∷ "share,38" ∷ [])
    -- an operation counts once: asked about three times, and inside another that is asked about; found unequal first, or last
    ∷ twins_prints
    (with_five ("q,o,0,0,0,0" ∷ "q,o,0,0,0,0" ∷ "q,o,0,0,0,0" ∷ "q,o,0,1,0,0" ∷ []))
    ("eq,-,-,1" ∷ "eq,-,-,1" ∷ "eq,-,-,1" ∷ "op,0,1,0" ∷ "share,17" ∷ [])
    ∷ twins_prints (with_five ("q,o,0,1,0,0" ∷ "q,o,2,3,0,0" ∷ [])) ("op,0,1,0" ∷ "eq,-,-,1" ∷ "share,20" ∷ [])
    ∷ twins_prints (with_five ("q,o,2,3,0,0" ∷ "q,o,0,3,0,0" ∷ [])) ("eq,-,-,1" ∷ "op,0,3,0" ∷ "share,100" ∷ [])
    -- a fragment that grew between two queries counts as it stood at each; a region without operations counts for nothing
    ∷ twins_prints
    (with_five ("q,b,0,0,0,0" ∷ "o,3,0,0,0,0,0,0" ∷ "q,o,0,6,0,0" ∷ "o,3,0,0,0,0,0,0" ∷ []))
    ("eq,-,-,5" ∷ "op,0,6,0" ∷ "share,80" ∷ [])
    ∷ twins_prints (with_one ("o,2,-,0,2,0,0,0" ∷ "q,r,0,1,0,0" ∷ [])) ("eq,-,-,0" ∷ "share,0" ∷ [])
    -- left fragments never count
    ∷ twins_prints (with_five ("q,o,1,0,0,0" ∷ "q,o,0,0,0,0" ∷ [])) ("op,1,0,0" ∷ "eq,-,-,1" ∷ "share,100" ∷ [])
    -- edition 2: the example, a label that is a field too many, attributes that are inherent and never ignored, which `a` replaces by others
    ∷ twins_prints example_2 ("eq,-,-,3" ∷ "op,0,2,0" ∷ "share,100" ∷ [])
    ∷ sums_prints example_2 ("86d049952fe90c01,86d049952fe90c01" ∷ "c0db2bff72f7e56a,bf175687a8e326a7" ∷ [])
    ∷ twins_prints (lines ("opstore,2" ∷ [])) ("share,0" ∷ [])
    ∷ twins_prints (lines ("opstore,2" ∷ "o,2,-,0,1,0,0,0" ∷ "b,0,0,5,0" ∷ [])) ("refused,3,10" ∷ [])
    ∷ twins_prints
    (lines ("opstore,2" ∷ "o,1,-,0,0,0,0,0" ∷ "o,1,-,0,0,0,0,0" ∷ "i,o,0,1,5,10" ∷ "q,o,0,1,0,32" ∷ "a,o,0,1,5,10" ∷ "q,o,0,1,0,32" ∷ []))
    ("op,0,1,0" ∷ "eq,-,-,1" ∷ "share,100" ∷ [])
    -- edition 1 has no `i`, and a label is a number
    ∷ twins_prints (with_one ("i,o,0,1,5,10" ∷ [])) ("refused,3,10" ∷ [])
    ∷ twins_prints (with_one ("o,2,-,0,1,0,0,0" ∷ "b,0,4294967295,5,0" ∷ "b,0,4294967296,5,0" ∷ [])) ("refused,5,10" ∷ [])
    ∷ []

-- ---- the per cent

unfoldable pub ShareCases : Type 0
ShareCases =
    every
    (eqb (per_cent 1 8) 12
    ∷ eqb (per_cent 3 8) 38
    ∷ eqb (per_cent 5 8) 62
    ∷ eqb (per_cent 7 8) 88
    ∷ eqb (per_cent 1 200) 0
    ∷ eqb (per_cent 3 200) 2
    ∷ eqb (per_cent 199 200) 100
    ∷ eqb (per_cent 0 0) 0
    ∷ [])
    ≡ true
