-- 01, "Listings": bytes, and what is written with them: texts, the pieces between commas or line feeds, and numbers.
-- A byte is a number below 256; a larger one is no byte that any text or number has, and so is refused like a wrong byte.
use Rattle.std.specs.Prelude.{ℕ, zero, suc, ◌+◌, ◌-◌, ◌*◌, ◌/◌, ◌%◌, Bool, false, cond, not, ◌&&◌, List, [], ◌∷◌, ◌++◌, eqb, leb, ltb, Option, None, Some}
use Prim.Native.Char.{code}
use Prim.Native.String.{String, [] as no_text, ◌∷◌ as ◌then◌}
use Rattle.rules.specs.Lists.{every, same_list}
use Rattle.std.specs.List.{list_all}

-- ---- texts

-- the bytes of a text in ASCII
abbrev pub text : String → List ℕ
text no_text = []
text (c then s) = code c ∷ text s

unfoldable pub is_text : String → List ℕ → Bool
is_text s bytes = same_list eqb bytes (text s)

abbrev pub comma : ℕ
comma = 44

abbrev pub line_feed : ℕ
line_feed = 10

-- ---- pieces

-- bytes that are cut at each byte of one kind: the pieces that such a byte ends, and what follows the last
pub record Pieces : Type 0 where
  pub whole : List (List ℕ)
  pub rest : List ℕ

-- a piece more in front, with nothing in it
unfoldable pub new_piece : Pieces → Pieces
new_piece p = record { whole = [] ∷ p.whole; rest = p.rest }

-- a byte more in front of the first piece
unfoldable pub longer_by : ℕ → List (List ℕ) → List ℕ → Pieces
longer_by x [] rest = record { whole = []; rest = x ∷ rest }
longer_by x (p ∷ ps) rest = record { whole = (x ∷ p) ∷ ps; rest = rest }

unfoldable pub cut_at : ℕ → List ℕ → Pieces
cut_at b [] = record { whole = []; rest = [] }
cut_at b (x ∷ xs) = cond (eqb x b) (new_piece (cut_at b xs)) (longer_by x (cut_at b xs).whole (cut_at b xs).rest)

-- ---- numbers read: "without sign or leading zero, within 32 bits (the ignore bits within 64)"

unfoldable pub is_digit : ℕ → Bool
is_digit b = leb 48 b && leb b 57

-- decimal digits, at least one, and the first of several is not `0`
unfoldable pub well_written : List ℕ → Bool
well_written [] = false
well_written (d ∷ []) = is_digit d
well_written (d ∷ e ∷ ds) = every (is_digit d ∷ not (eqb d 48) ∷ list_all is_digit (e ∷ ds) ∷ [])

-- the number that digits stand for, behind those of n
unfoldable pub value_from : ℕ → List ℕ → ℕ
value_from n [] = n
value_from n (d ∷ ds) = value_from (n * 10 + (d - 48)) ds

unfoldable pub number_below : ℕ → List ℕ → Option ℕ
number_below limit ds = cond (well_written ds && ltb (value_from 0 ds) limit) (Some (value_from 0 ds)) None

-- ---- numbers written

-- `0` to `9`, then `a` to `f`
unfoldable pub digit : ℕ → ℕ
digit d = cond (ltb d 10) (48 + d) (87 + d)

-- the last k digits of n in base b, the highest first
unfoldable pub last_digits : ℕ → ℕ → ℕ → List ℕ
last_digits b zero n = []
last_digits b (suc k) n = last_digits b k (n / b) ++ (digit (n % b) ∷ [])

-- how many decimal digits a number has that has at most k
unfoldable pub digit_count : ℕ → ℕ → ℕ
digit_count zero n = 0
digit_count (suc k) n = cond (ltb n 10) 1 (suc (digit_count k (n / 10)))

-- every number that is printed in decimal is within 32 bits
abbrev pub max_digits : ℕ
max_digits = 10

unfoldable pub decimal : ℕ → List ℕ
decimal n = last_digits 10 (digit_count max_digits n) n

-- "16 lower-case hexadecimal digits"
unfoldable pub hexadecimal : ℕ → List ℕ
hexadecimal n = last_digits 16 16 n
