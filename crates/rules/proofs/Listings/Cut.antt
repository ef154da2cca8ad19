-- Bytes that are cut at one byte go entry by entry: what stands before the first such byte is the first piece. So nothing is lost: the pieces,
-- each with that byte behind it, are the bytes again, and pieces that are put together so are cut into themselves. Assumes nothing.
use Prim.Native.Nat.{ℕ, suc, ◌+◌}
use native.Mathlib.Omega.{arith}
use mathlib.Core.Bool.{Bool, true, false, cond, not}
use mathlib.Core.List.{List, [], ◌∷◌, ◌++◌}
use mathlib.Core.Path.{◌≡◌, refl, sym, ap, ◌∙◌}
use borrow.Author.Tests.{eq-eqb, eqb-true, not-true}
use lib.Dec.{eqb}
use lib.ListN.{length, length-append}
use Rattle.std.specs.List.{list_all}
use Rattle.rules.specs.Bytes.{comma, Pieces, new_piece, longer_by, cut_at}
use Rattle.rules.specs.Lines.{fields_of}
use Rattle.rules.proofs.Basics.Tests.{and_left, and_right}

-- ---- the first piece

abbrev pub other_than : ℕ → ℕ → Bool
other_than b x = not (eqb x b)

-- b is not among these bytes
abbrev pub Without : ℕ → List ℕ → Type 0
Without b xs = list_all (other_than b) xs ≡ true

-- a piece in front of others
abbrev pub in_front : List ℕ → Pieces → Pieces
in_front xs p = record { whole = xs ∷ p.whole; rest = p.rest }

pub cut_first : (b : ℕ) (xs rest : List ℕ) → Without b xs → cut_at b (xs ++ b ∷ rest) ≡ in_front xs (cut_at b rest)
unfolding cut_at new_piece longer_by
cut_first b [] rest h = rw (eq-eqb b b refl)
cut_first b (x ∷ xs) rest h =
    let e : eqb x b ≡ false = not-true (eqb x b) (and_left _ (list_all (λ (y : ℕ). not (eqb y b)) xs) h) in
    rw (e, cut_first b xs rest (and_right (not (eqb x b)) _ h))

pub cut_none : (b : ℕ) (xs : List ℕ) → Without b xs → cut_at b xs ≡ record { whole = []; rest = xs }
unfolding cut_at new_piece longer_by
cut_none b [] h = refl
cut_none b (x ∷ xs) h =
    let e : eqb x b ≡ false = not-true (eqb x b) (and_left _ (list_all (λ (y : ℕ). not (eqb y b)) xs) h) in
    rw (e, cut_none b xs (and_right (not (eqb x b)) _ h))

-- ---- nothing is lost

-- pieces, with b behind each
abbrev pub ended : ℕ → List (List ℕ) → List ℕ
ended b [] = []
ended b (p ∷ ps) = p ++ b ∷ ended b ps

one_more_ended : (b x : ℕ) (t : Bool) → eqb x b ≡ t → (p : Pieces)
    → ended b (cond t (new_piece p) (longer_by x p.whole p.rest)).whole ++ (cond t (new_piece p) (longer_by x p.whole p.rest)).rest
    ≡ x ∷ (ended b p.whole ++ p.rest)
unfolding new_piece longer_by
one_more_ended b x true e p = ap (λ (y : ℕ). y ∷ (ended b p.whole ++ p.rest)) (sym (eqb-true x b e))
one_more_ended b x false e p = go p.whole
  where
    go : (ps : List (List ℕ)) → ended b (longer_by x ps p.rest).whole ++ (longer_by x ps p.rest).rest ≡ x ∷ (ended b ps ++ p.rest)
    go [] = refl
    go (q ∷ qs) = refl

pub ended_cut : (b : ℕ) (xs : List ℕ) → ended b (cut_at b xs).whole ++ (cut_at b xs).rest ≡ xs
unfolding cut_at
ended_cut b [] = refl
ended_cut b (x ∷ xs) = one_more_ended b x (eqb x b) refl (cut_at b xs) ∙ ap (λ (l : List ℕ). x ∷ l) (ended_cut b xs)

-- the test passes at each byte of each piece
abbrev pub each : (ℕ → Bool) → List (List ℕ) → Bool
each p ps = list_all (λ (q : List ℕ). list_all p q) ps

pub cut_ended : (b : ℕ) (ps : List (List ℕ)) → each (other_than b) ps ≡ true → cut_at b (ended b ps) ≡ record { whole = ps; rest = [] }
unfolding cut_at
cut_ended b [] h = refl
cut_ended b (p ∷ ps) h = cut_first b p (ended b ps) (and_left _ _ h) ∙ ap (in_front p) (cut_ended b ps (and_right (list_all (other_than b) p) _ h))

-- ---- how long they are

-- the bytes of pieces, each with the byte that ends it
abbrev pub weight : List (List ℕ) → ℕ
weight [] = 0
weight (p ∷ ps) = suc (length p + weight ps)

weight_append : (ps qs : List (List ℕ)) → weight (ps ++ qs) ≡ weight ps + weight qs
weight_append [] qs = omega arith
weight_append (p ∷ ps) qs = omega (arith, weight_append ps qs)

pub ended_length : (b : ℕ) (ps : List (List ℕ)) → length (ended b ps) ≡ weight ps
ended_length b [] = refl
ended_length b (p ∷ ps) = omega (arith, length-append p (b ∷ ended b ps), ended_length b ps)

pub cut_weight : (b : ℕ) (bytes : List ℕ) → weight (cut_at b bytes).whole + length (cut_at b bytes).rest ≡ length bytes
cut_weight b bytes =
    let e : length (ended b (cut_at b bytes).whole ++ (cut_at b bytes).rest) ≡ length bytes = ap length (ended_cut b bytes) in
    omega (arith, length-append (ended b (cut_at b bytes).whole) (cut_at b bytes).rest, ended_length b (cut_at b bytes).whole)

pub fields_weight : (line : List ℕ) → weight (fields_of line) ≡ suc (length line)
unfolding fields_of
fields_weight line = omega (arith, weight_append (cut_at comma line).whole ((cut_at comma line).rest ∷ []), cut_weight comma line)
