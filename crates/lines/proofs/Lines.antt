-- The pieces of each line, written one behind the other, are the rules' line: a text with its comma is computed, and a comma or a line feed stands behind each number. Assumes nothing.
use Prim.Native.Nat.{ℕ, ◌*◌, ◌/◌, ◌%◌, ◌≤◌}
use native.Mathlib.Nat.{div-le_of_le-mul}
use native.Mathlib.Omega.{arith}
use mathlib.Core.Bool.{Bool, true, false, cond}
use mathlib.Core.List.{List, [], ◌∷◌, ◌++◌, append_assoc}
use mathlib.Core.Path.{◌≡◌, refl, ap, ◌∙◌}
use lib.Seq.{append_snoc}
use lib.Dec.{eqb, ltb}
use Rattle.rules.specs.Causes.{number_of}
use Rattle.rules.specs.declared.types.Cause.{Cause}
use Rattle.rules.specs.Bytes.{text, comma, line_feed, decimal, hexadecimal}
use Rattle.rules.specs.declared.types.Sort.{Sort}
use Rattle.rules.specs.Comparison.{pair_of}
use Rattle.rules.specs.Listings.{printed, refusal, equal_line, sort_text, unequal_line, hashes_line, rounded_up, per_cent, share_line}

-- a field and what ends it, behind other bytes
fielded : (xs ys : List ℕ) (b : ℕ) (zs : List ℕ) → xs ++ (ys ++ (b ∷ [])) ++ zs ≡ xs ++ (ys ++ b ∷ zs)
fielded xs ys b zs = append_assoc xs (ys ++ (b ∷ [])) zs ∙ ap (λ (l : List ℕ). xs ++ l) (append_snoc ys b zs)

pub refusal_line : (line : ℕ) (cause : Cause) → text "refused," ++ (decimal line ++ (comma ∷ [])) ++ (decimal (number_of cause) ++ (line_feed ∷ [])) ≡ refusal line cause
unfolding refusal printed
refusal_line line cause = fielded (text "refused,") (decimal line) comma (decimal (number_of cause) ++ (line_feed ∷ []))

pub equal_line_lem : (paired : ℕ) → text "eq,-,-," ++ (decimal paired ++ (line_feed ∷ [])) ≡ equal_line paired
unfolding equal_line printed
equal_line_lem paired = refl

pub unequal_line_lem : (f : Sort) (l r paired : ℕ)
    → sort_text f ++ (comma ∷ []) ++ (decimal l ++ (comma ∷ [])) ++ (decimal r ++ (comma ∷ [])) ++ (decimal paired ++ (line_feed ∷ [])) ≡ unequal_line (pair_of f l r) paired
unfolding unequal_line printed pair_of
unequal_line_lem f l r paired =
    let last = decimal paired ++ (line_feed ∷ []) in
    fielded (sort_text f ++ (comma ∷ []) ++ (decimal l ++ (comma ∷ []))) (decimal r) comma last
    ∙ fielded (sort_text f ++ (comma ∷ [])) (decimal l) comma (decimal r ++ comma ∷ last)
    ∙ append_snoc (sort_text f) comma (decimal l ++ comma ∷ (decimal r ++ comma ∷ last))

pub hashes_line_lem : (l r : ℕ) → hexadecimal l ++ (comma ∷ []) ++ hexadecimal r ++ (line_feed ∷ []) ≡ hashes_line l r
unfolding hashes_line printed
hashes_line_lem l r =
    append_assoc (hexadecimal l ++ (comma ∷ [])) (hexadecimal r) (line_feed ∷ [])
    ∙ append_snoc (hexadecimal l) comma (hexadecimal r ++ (line_feed ∷ []))

pub share_line_lem : (equal all share : ℕ) → share ≡ per_cent equal all
    → text "share," ++ (decimal share ++ (line_feed ∷ [])) ≡ share_line (per_cent equal all)
unfolding share_line printed
share_line_lem equal all share e = ap (λ (n : ℕ). text "share," ++ (decimal n ++ (line_feed ∷ []))) e

-- ---- the share

-- a quotient is rounded up by one at most
pub up_one : (quotient twice divisor : ℕ) → rounded_up quotient twice divisor ≤ 1
unfolding rounded_up
up_one quotient twice divisor = go (ltb divisor twice) (eqb twice divisor)
  where
    go : (t s : Bool) → cond t 1 (cond s (quotient % 2) 0) ≤ 1
    go true s = omega arith
    go false true = omega arith
    go false false = omega arith

pub at_most_all : (slice whole : ℕ) → slice ≤ whole → slice * 100 / whole ≤ 100
at_most_all slice whole h = div-le_of_le-mul whole (omega arith)
