-- Listings and what the converter prints for them: 01's example in both editions, then each way in which a line is refused.
use Rattle.std.specs.Prelude.{ℕ, List, [], ◌∷◌, ◌++◌, ◌≡◌, replicate}
use Prim.Native.String.{String}
use Rattle.std.specs.List.{flat_map}
use Rattle.rules.specs.Bytes.{text, line_feed}
use Rattle.rules.specs.Converting.{convert}
use Rattle.rules.specs.ListingCases.{lines, example_listing, example_2}

-- a listing and what is printed
pub data ConvertCase : Type 0 where
  prints : List ℕ → List ℕ → ConvertCase

unfoldable pub Converted : ConvertCase → Type 0
Converted (prints listing out) = convert listing ≡ out

unfoldable pub AllConverted : List ConvertCase → Type 0
AllConverted [] = Unit {0}
AllConverted (c ∷ cs) = Converted c × AllConverted cs

-- a `b` line of edition 2 with so many arguments, which says how many: 8 bytes and those of the region and the count, and 2 for each
unfoldable pub long_block : String → String → ℕ → List ℕ
long_block region count n = text "b," ++ text region ++ text ",0," ++ text count ++ flat_map text (replicate n ",0") ++ line_feed ∷ []

unfoldable pub from_1 : List String → List ℕ
from_1 ls = lines ("opstore,1" ∷ ls)

unfoldable pub from_2 : List String → List ℕ
from_2 ls = lines ("opstore,2" ∷ ls)

unfoldable pub refused_at : String → List ℕ
refused_at line_and_cause = text "refused," ++ text line_and_cause ++ line_feed ∷ []

unfoldable pub convert_cases : List ConvertCase
convert_cases =
    prints example_listing example_2
    ∷ prints example_2 example_listing
    -- labels go, the largest too, and come back as 0
    ∷ prints (from_1 ("b,3,4294967295,5,1,3" ∷ "b,3,0,5,0" ∷ [])) (from_2 ("b,3,5,1,3" ∷ "b,3,5,0" ∷ []))
    ∷ prints (from_2 ("b,3,5,1,3" ∷ "b,3,5,0" ∷ [])) (from_1 ("b,3,0,5,1,3" ∷ "b,3,0,5,0" ∷ []))
    ∷ prints (from_1 ("b,3,4294967296,5,0" ∷ [])) (refused_at "2,10")
    ∷ prints (from_1 ("b,3,01,5,0" ∷ [])) (refused_at "2,10")
    ∷ prints (from_1 ("b,3,5,0" ∷ [])) (refused_at "2,10")
    -- a listing of no bytes, of the header alone, of another header, of a header without its line feed
    ∷ prints [] (refused_at "1,9")
    ∷ prints (from_1 []) (from_2 [])
    ∷ prints (from_2 []) (from_1 [])
    ∷ prints (lines ("opstore,3" ∷ [])) (refused_at "1,9")
    ∷ prints (lines ("opstore,2," ∷ [])) (refused_at "1,9")
    ∷ prints (text "opstore,2") (refused_at "1,11")
    -- no last line feed: all lines before are tested first
    ∷ prints (from_2 ("b,3,5,0" ∷ []) ++ text "b,3,5,0") (refused_at "3,11")
    ∷ prints (from_2 ("b,3" ∷ []) ++ text "b,3,5,0") (refused_at "2,10")
    -- no call is made: things that don't exist, an attribute kind of 64
    ∷ prints (from_1 ("a,o,9,1,64,2" ∷ "s,7,8,9" ∷ "q,r,5,6,1,18446744073709551615" ∷ [])) (from_2 ("a,o,9,1,64,2" ∷ "s,7,8,9" ∷ "q,r,5,6,1,18446744073709551615" ∷ []))
    -- `i`: unknown in edition 1, read in edition 2, and the first refused line wins
    ∷ prints (from_1 ("i,o,0,1,5,2" ∷ [])) (refused_at "2,10")
    ∷ prints (from_2 ("a,o,0,1,5,2" ∷ "i,o,0,1,5,2" ∷ "x" ∷ [])) (refused_at "3,20")
    ∷ prints (from_2 ("x" ∷ "i,o,0,1,5,2" ∷ [])) (refused_at "2,10")
    ∷ prints (from_2 ("i,o,0,1,5" ∷ [])) (refused_at "2,10")
    ∷ prints (from_2 ("i,o,0,1,5,2" ∷ []) ++ text "b,3,5,0") (refused_at "2,20")
    -- `b` lines of 510, 511 and 512 bytes in edition 2: the first alone has room for a label; and of 513
    ∷ prints (from_2 [] ++ long_block "10" "250" 250) (from_1 [] ++ text "b,10,0,0,250" ++ flat_map text (replicate 250 ",0") ++ line_feed ∷ [])
    ∷ prints (from_2 [] ++ long_block "0" "251" 251) (refused_at "2,11")
    ∷ prints (from_2 ("b,3,5,0" ∷ []) ++ long_block "10" "251" 251) (refused_at "3,11")
    ∷ prints (from_2 [] ++ long_block "0" "252" 252 ++ lines ("x" ∷ [])) (refused_at "2,11")
    -- such a line, and a later one that is refused for itself
    ∷ prints (from_2 [] ++ long_block "0" "251" 251 ++ lines ("x" ∷ [])) (refused_at "3,10")
    ∷ prints (from_2 [] ++ long_block "0" "251" 251 ++ lines ("i,o,0,1,5,2" ∷ [])) (refused_at "3,20")
    -- 65,530 bytes, and 65,908 with labels: the whole is tested first
    ∷ prints (from_2 [] ++ flat_map (λ (l : List ℕ). l) (replicate 127 (long_block "0" "251" 251)) ++ lines (replicate 62 "b,0,0,0")) (refused_at "1,11")
    ∷ []
