-- 01, "Listings": what the fields of a line mean, letter by letter, in either edition (02, order 14: "Both editions are read"). A line that
-- means nothing is cause 10: "unknown letter, bad number, field missing or extra".
use Rattle.std.specs.Prelude.{ℕ, zero, suc, ◌^◌, Bool, true, false, cond, List, [], ◌∷◌, ◌++◌, eqb, Option, None, Some, option_map}
use Prim.Native.String.{String}
use Rattle.rules.specs.declared.types.Edition.{Edition}
use Rattle.rules.specs.declared.types.Edition.TheVariants.{First as edition_1, Second as edition_2}
use Rattle.rules.specs.declared.types.Owner.{Owner}
use Rattle.rules.specs.declared.types.Owner.TheVariants.{Op as of_op, Block as of_block}
use Rattle.rules.specs.declared.types.Sort.{Sort}
use Rattle.rules.specs.declared.types.Sort.TheVariants.{Op as op, Block as block, Region as region}
use Rattle.rules.specs.Building.{Call, new_operation, new_block, set_attribute, set_operand}
use Rattle.rules.specs.declared.types.Ignore.{Ignore}
use Rattle.rules.specs.Bytes.{comma, is_text, cut_at, number_below}

-- one of the four building calls, or a query: the sort of fragment, left, right, and the ignore rule
pub data Line : Type 0 where
  building : Call → Line
  query : Sort → ℕ → ℕ → Ignore → Line

-- "Fields are parted by commas, never quoted"
unfoldable pub fields_of : List ℕ → List (List ℕ)
fields_of line = (cut_at comma line).whole ++ ((cut_at comma line).rest ∷ [])

-- ---- readers: what is read of the fields, and the fields left; none where one is missing or bad

abbrev pub Reader : Type 0 → Type 0
Reader A = List (List ℕ) → Option (A × List (List ℕ))

abbrev pub and_then : {A B : Type 0} → Option (A × List (List ℕ)) → (A → Reader B) → Option (B × List (List ℕ))
and_then None f = None
and_then (Some got) f = f got.0 got.1

infixl 20 ◌>>=◌
abbrev pub ◌>>=◌ : {A B : Type 0} → Reader A → (A → Reader B) → Reader B
◌>>=◌ r f fs = and_then (r fs) f

abbrev pub giving : {A : Type 0} → A → Reader A
giving a fs = Some (a, fs)

-- one field, by what its bytes mean
unfoldable pub field : {A : Type 0} → (List ℕ → Option A) → Reader A
field meaning [] = None
field meaning (f ∷ fs) = option_map (λ a. (a, fs)) (meaning f)

-- one of these words
unfoldable pub one_of : {A : Type 0} → List (String × A) → List ℕ → Option A
one_of [] f = None
one_of (w ∷ ws) f = cond (is_text w.0 f) (Some w.1) (one_of ws f)

-- "numbers without sign or leading zero, within 32 bits (the ignore bits within 64)"
unfoldable pub number : Reader ℕ
number = field (number_below (2 ^ 32))

unfoldable pub ignore_bits : Reader ℕ
ignore_bits = field (number_below (2 ^ 64))

unfoldable pub numbers : ℕ → Reader (List ℕ)
numbers zero = giving []
numbers (suc n) = do
  x ← number
  xs ← numbers n
  giving (x ∷ xs)

-- "each list is its count, then its items"
unfoldable pub items : Reader (List ℕ)
items = number >>= numbers

-- "parent or `-`"
unfoldable pub parent_meaning : List ℕ → Option (Option ℕ)
parent_meaning f = cond (is_text "-" f) (Some None) (option_map Some (number_below (2 ^ 32) f))

unfoldable pub parent_block : Reader (Option ℕ)
parent_block = field parent_meaning

-- "o or b"
unfoldable pub owner : Reader (ℕ → Owner)
owner = field (one_of (("o", of_op) ∷ ("b", of_block) ∷ []))

-- "o, b or r"
unfoldable pub sort : Reader Sort
sort = field (one_of (("o", op) ∷ ("b", block) ∷ ("r", region) ∷ []))

-- "1 to ignore locations or 0 not to (any other number is bad)"
unfoldable pub yes_or_no : ℕ → Reader Bool
yes_or_no n fs = cond (eqb n 0) (Some (false, fs)) (cond (eqb n 1) (Some (true, fs)) None)

-- ---- the lines, behind their letters

-- "`o` kind, parent or `-`, location, regions, results, operands, successors"
unfoldable pub operation_line : Reader Line
operation_line = do
  kind ← number
  parent ← parent_block
  location ← number
  regions ← number
  types ← items
  operands ← items
  successors ← items
  giving (building (new_operation (record {
    kind = kind;
    parent = parent;
    location = location;
    regions = regions;
    types = types;
    operands = operands;
    successors = successors;
  })))

-- "a label in edition 1 must be a number and is then dropped"; edition 2 "has no label in a `b` line"
unfoldable pub label : Edition → Reader (Unit {0})
label edition_1 = do
  dropped ← number
  giving tt
label edition_2 = giving tt

-- "`b` region, label, location, arguments"
unfoldable pub block_line : Edition → Reader Line
block_line e = do
  around ← number
  no_label ← label e
  location ← number
  types ← items
  giving (building (new_block (record { region = around; location = location; types = types })))

-- "`a` o or b, number, key, kind, content"; "`i` with the fields of `a` for an inherent attribute"
unfoldable pub attribute_line : Bool → Reader Line
attribute_line inherent = do
  of ← owner
  n ← number
  key ← number
  kind ← number
  content ← number
  giving (building (set_attribute (of n) (record { key = key; kind = kind; content = content; inherent = inherent })))

-- "`s` operation, index, value"
unfoldable pub operand_line : Reader Line
operand_line = do
  n ← number
  index ← number
  value ← number
  giving (building (set_operand (record { operation = n; index = index; value = value })))

-- "`q` o, b or r, left, right, 1 to ignore locations or 0 not to, the 64 bits as one number"
unfoldable pub query_line : Reader Line
query_line = do
  f ← sort
  left ← number
  right ← number
  flag ← number
  locations ← yes_or_no flag
  bits ← ignore_bits
  giving (query f left right (record { locations = locations; bits = bits }))

-- the letters that edition 2 has and edition 1 has not
unfoldable pub more_letters : Edition → List (String × Reader Line)
more_letters edition_1 = []
more_letters edition_2 = ("i", attribute_line true) ∷ []

unfoldable pub letter : Edition → Reader (Reader Line)
letter e =
    field
    (one_of
    (("o", operation_line)
    ∷ ("b", block_line e)
    ∷ ("a", attribute_line false)
    ∷ ("s", operand_line)
    ∷ ("q", query_line)
    ∷ more_letters e))

-- nothing is left
unfoldable pub all_read : {A : Type 0} → A → List (List ℕ) → Option A
all_read a [] = Some a
all_read a (f ∷ fs) = None

unfoldable pub wholly : {A : Type 0} → Option (A × List (List ℕ)) → Option A
wholly None = None
wholly (Some got) = all_read got.0 got.1

-- the meaning of a line's bytes
unfoldable pub parse : Edition → List ℕ → Option Line
parse e line = wholly ((letter e >>= λ line'. line') (fields_of line))
