-- A number is printed in at most ten digits, a hash in sixteen, and a line is its fields with a byte behind each: so a printed line is
-- short. Assumes nothing.
use Prim.Native.Nat.{ℕ, zero, suc, ◌/◌, ◌%◌, ◌≤◌}
use native.Mathlib.Omega.{arith}
use mathlib.Core.Bool.{Bool, true, false, cond}
use mathlib.Core.List.{List, [], ◌∷◌}
use mathlib.Core.Path.{◌≡◌, refl}
use lib.Dec.{ltb}
use lib.ListN.{length, length-append}
use Rattle.rules.specs.declared.types.Cause.{Cause}
use Rattle.rules.specs.Causes.{number_of}
use Rattle.rules.specs.declared.types.Sort.{Sort}
use Rattle.rules.specs.declared.types.Sort.TheVariants.{Op as op, Block as block, Region as region}
use Rattle.rules.specs.Comparison.{Pair}
use Rattle.rules.specs.Bytes.{text, comma, line_feed, digit, last_digits, digit_count, max_digits, decimal, hexadecimal}
use Rattle.rules.specs.Listings.{printed, refusal, equal_line, sort_text, unequal_line, hashes_line, share_line}
use Rattle.rules.proofs.Listings.Cut.{weight}

pub digits_length : (b k n : ℕ) → length (last_digits b k n) ≡ k
unfolding last_digits
digits_length b zero n = refl
digits_length b (suc k) n = omega (arith, length-append (last_digits b k (n / b)) (digit (n % b) ∷ []), digits_length b k (n / b))

count_most : (k n : ℕ) → digit_count k n ≤ k
unfolding digit_count
count_most zero n = omega arith
count_most (suc k) n = go (ltb n 10) (count_most k (n / 10))
  where
    go : (t : Bool) → digit_count k (n / 10) ≤ k → cond t 1 (suc (digit_count k (n / 10))) ≤ suc k
    go true h = omega arith
    go false h = omega arith

decimal_short : (n : ℕ) → length (decimal n) ≤ max_digits
unfolding decimal
decimal_short n = omega (arith, digits_length 10 (digit_count max_digits n) n, count_most max_digits n)

hexadecimal_length : (n : ℕ) → length (hexadecimal n) ≡ 16
unfolding hexadecimal
hexadecimal_length n = digits_length 16 16 n

pub printed_length : (f : List ℕ) (fs : List (List ℕ)) → length (printed (f ∷ fs)) ≡ weight (f ∷ fs)
unfolding printed
printed_length f [] = omega (arith, length-append f (line_feed ∷ []))
printed_length f (g ∷ fs) = omega (arith, length-append f (comma ∷ printed (g ∷ fs)), printed_length g fs)

-- ---- the lines

-- the longest that is printed at the end, and for a `q`
abbrev pub last_most : ℕ
last_most = 30

abbrev pub line_most : ℕ
line_most = 40

pub refusal_short : (line : ℕ) (cause : Cause) → length (refusal line cause) ≤ last_most
unfolding refusal
refusal_short line cause =
    omega (arith, printed_length (text "refused") (decimal line ∷ decimal (number_of cause) ∷ []), decimal_short line, decimal_short (number_of cause))

pub share_short : (cent : ℕ) → length (share_line cent) ≤ last_most
unfolding share_line
share_short cent = omega (arith, printed_length (text "share") (decimal cent ∷ []), decimal_short cent)

pub equal_short : (paired : ℕ) → length (equal_line paired) ≤ line_most
unfolding equal_line
equal_short paired = omega (arith, printed_length (text "eq") (text "-" ∷ text "-" ∷ decimal paired ∷ []), decimal_short paired)

sort_short : (f : Sort) → length (sort_text f) ≤ 6
unfolding sort_text
sort_short op = omega arith
sort_short block = omega arith
sort_short region = omega arith

pub unequal_short : (p : Pair) (paired : ℕ) → length (unequal_line p paired) ≤ line_most
unfolding unequal_line
unequal_short p paired =
    omega (
      arith,
      printed_length (sort_text p.sort) (decimal p.left ∷ decimal p.right ∷ decimal paired ∷ []),
      sort_short p.sort,
      decimal_short p.left,
      decimal_short p.right,
      decimal_short paired,
    )

pub hashes_short : (left right : ℕ) → length (hashes_line left right) ≤ line_most
unfolding hashes_line
hashes_short left right =
    omega (arith, printed_length (hexadecimal left) (hexadecimal right ∷ []), hexadecimal_length left, hexadecimal_length right)
