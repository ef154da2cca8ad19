-- Pieces, byte by byte: bytes that were passed without the one at which a piece ends are the start of one piece. Assumes nothing.
use Prim.Native.Nat.{ℕ, suc, ◌+◌, ◌-◌, ◌<◌, ◌≤◌}
use native.Mathlib.Numerals.{add-one}
use native.Mathlib.Omega.{arith}
use mathlib.Core.List.{List, [], ◌∷◌, ◌++◌}
use mathlib.Core.Path.{◌≡◌, refl, sym, ap, subst, ◌∙◌}
use borrow.Author.Tests.{ne_eqb}
use lib.ListN.{length, get_or, take, drop, length-drop, take-append-drop}
use lib.Seq.{take_all, take-suc, drop-cons, drop-drop, get_or-drop}
use Rattle.std.specs.List.{list_all}
use Rattle.rules.specs.Bytes.{cut_at}
use Rattle.rules.proofs.Basics.Appended.{all_append}
use Rattle.rules.proofs.Listings.Cut.{other_than, Without, cut_first, cut_none}
use Rattle.layout.specs.Reading.{slice}
use Rattle.lines.specs.Pieces.{pieces_from, PieceEnd}

-- ---- a part of bytes, by its first and by its last

slice_none : (xs : List ℕ) (a e : ℕ) → e ≤ a → slice xs a e ≡ []
unfolding slice
slice_none xs a e h = ap (λ (n : ℕ). take n (drop a xs)) (let z : e - a ≡ 0 = omega arith in z)

slice_last : (xs : List ℕ) (a e : ℕ) → a ≤ e → e < length xs → slice xs a (e + 1) ≡ slice xs a e ++ (get_or xs e 0 ∷ [])
unfolding slice
slice_last xs a e l h =
    ap (λ (n : ℕ). take n (drop a xs)) (let z : e + 1 - a ≡ suc (e - a) = omega arith in z)
    ∙ take-suc (drop a xs) (e - a) 0 (omega (arith, length-drop a xs))
    ∙ ap (λ (x : ℕ). take (e - a) (drop a xs) ++ (x ∷ [])) (get_or-drop a xs (e - a) 0 ∙ ap (λ (n : ℕ). get_or xs n 0) (let z : a + (e - a) ≡ e = omega arith in z))

next_byte : (xs : List ℕ) (e : ℕ) → e < length xs → drop e xs ≡ get_or xs e 0 ∷ drop (e + 1) xs
next_byte xs e l = drop-cons xs e 0 l ∙ ap (λ (n : ℕ). get_or xs e 0 ∷ drop n xs) (sym (add-one e))

without_more : (b x : ℕ) (xs : List ℕ) → Without b xs → (x ≡ b → ⊥) → Without b (xs ++ (x ∷ []))
without_more b x xs h n = all_append (other_than b) xs (x ∷ []) h (rw (ne_eqb x b n) refl)

pub slice_all : (xs : List ℕ) (a e : ℕ) → a ≤ e → length xs ≤ e → slice xs a e ≡ drop a xs
unfolding slice
slice_all xs a e l h = take_all (e - a) (drop a xs) (omega (arith, length-drop a xs))

-- ---- the search: no such byte so far, from one place up to another

module _ (bytes : List ℕ) (from b : ℕ) where
  pub passing_starts : Without b (slice bytes from from)
  passing_starts = ap (list_all (other_than b)) (slice_none bytes from from (omega arith))

  module _ (e : ℕ) (a : from ≤ e) (without : Without b (slice bytes from e)) where
    rest : drop from bytes ≡ slice bytes from e ++ drop e bytes
    unfolding slice
    rest =
        sym (take-append-drop (e - from) (drop from bytes))
        ∙ ap (λ (xs : List ℕ). slice bytes from e ++ xs) (drop-drop (e - from) from bytes ∙ ap (λ (n : ℕ). drop n bytes) (let z : from + (e - from) ≡ e = omega arith in z))

    pub passing_turn : e < length bytes → (get_or bytes e 0 ≡ b → ⊥) → Without b (slice bytes from (e + 1))
    passing_turn l h = ap (list_all (other_than b)) (slice_last bytes from e a l) ∙ without_more b (get_or bytes e 0) (slice bytes from e) without h

    pub ends_here : e < length bytes → get_or bytes e 0 ≡ b → PieceEnd bytes from b e
    unfolding pieces_from
    ends_here l h =
        record {
          behind = a;
          within = omega arith;
          ended = λ _.
              ap (cut_at b) (rest ∙ ap (λ (xs : List ℕ). slice bytes from e ++ xs) (next_byte bytes e l ∙ ap (λ (x : ℕ). x ∷ drop (e + 1) bytes) h))
              ∙ cut_first b (slice bytes from e) (drop (e + 1) bytes) without;
          unended = λ m. absurd (let z : ⊥ = omega arith in z);
        }

    pub ends_with_all : length bytes ≤ e → from ≤ length bytes → PieceEnd bytes from b (length bytes)
    unfolding pieces_from
    ends_with_all m l =
        record {
          behind = l;
          within = omega arith;
          ended = λ k. absurd (let z : ⊥ = omega arith in z);
          unended = λ _. cut_none b (drop from bytes) (subst (Without b) (slice_all bytes from e a m) without);
        }
