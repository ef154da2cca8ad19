-- Two lists pair by pair, up to the shorter end. Images are read off the lent words. Assumes nothing.
use Prim.Native.Nat.{ℕ, zero, suc, ◌+◌, ◌<◌}
use native.Mathlib.Nat.{not-suc-le-zero, le_of_suc-le-suc}
use native.Mathlib.Omega.{arith}
use mathlib.Core.Bool.{Bool, true, false, ◌&&◌}
use mathlib.Core.List.{List, [], ◌∷◌}
use mathlib.Core.Path.{◌≡◌, refl, sym, ap, ◌∙◌}
use borrow.Author.Tests.{ltb-true}
use Rattle.std.specs.List.{list_all, zip}
use Rattle.std.proofs.lemmas.List.{get_or_default}
use lib.Dec.{ltb}
use lib.ListN.{length, get_or, drop}
use lib.Seq.{get_or-take, get_or-drop}
use Rattle.std.specs.List.{list_all}
use Rattle.rules.specs.Lists.{all_pairs, same_list}
use Rattle.rules.specs.Mapping.{or_self, image, no_image}
use Rattle.rules.proofs.Basics.Tests.{and_left, and_right, all_at}
use Rattle.layout.proofs.Scans.{and_false}
use Rattle.rules.proofs.Basics.Appended.{mem_get_d}
use Rattle.equivalence.specs.MappingWords.{mapping_length, mapping_of}

pub pairs_zipped : (p : ℕ → ℕ → Bool) (xs ys : List ℕ) → list_all (λ (z : ℕ × ℕ). p z.0 z.1) (zip xs ys) ≡ all_pairs p xs ys
unfolding all_pairs
pairs_zipped p [] ys = refl
pairs_zipped p (x ∷ xs) [] = refl
pairs_zipped p (x ∷ xs) (y ∷ ys) = ap (λ (b : Bool). p x y && b) (pairs_zipped p xs ys)

-- two lists of one length, and of two
pub same_zipped : (p : ℕ → ℕ → Bool) (xs ys : List ℕ) → length xs ≡ length ys → list_all (λ (z : ℕ × ℕ). p z.0 z.1) (zip xs ys) ≡ same_list p xs ys
unfolding same_list
same_zipped p [] [] h = refl
same_zipped p [] (y ∷ ys) h = absurd (omega arith)
same_zipped p (x ∷ xs) [] h = absurd (omega arith)
same_zipped p (x ∷ xs) (y ∷ ys) h = ap (λ (b : Bool). p x y && b) (same_zipped p xs ys (omega arith))

pub same_longer : (p : ℕ → ℕ → Bool) (xs ys : List ℕ) → (length xs ≡ length ys → ⊥) → same_list p xs ys ≡ false
unfolding same_list
same_longer p [] [] h = absurd (h refl)
same_longer p [] (y ∷ ys) h = refl
same_longer p (x ∷ xs) [] h = refl
same_longer p (x ∷ xs) (y ∷ ys) h = and_false (p x y) (same_list p xs ys) (same_longer p xs ys (λ e. h (ap suc e)))

-- both numbers of a pair are among those of their lists
pub left_passes : (p : ℕ → Bool) (xs ys : List ℕ) → list_all p xs ≡ true → (k : ℕ) (d : ℕ × ℕ) → k < length (zip xs ys) → p (get_or (zip xs ys) k d).0 ≡ true
left_passes p [] ys h k d l = absurd (not-suc-le-zero l)
left_passes p (x ∷ xs) [] h k d l = absurd (not-suc-le-zero l)
left_passes p (x ∷ xs) (y ∷ ys) h zero d l = and_left (p x) (list_all p xs) h
left_passes p (x ∷ xs) (y ∷ ys) h (suc k) d l = left_passes p xs ys (and_right (p x) (list_all p xs) h) k d (le_of_suc-le-suc l)

pub right_passes : (p : ℕ → Bool) (xs ys : List ℕ) → list_all p ys ≡ true → (k : ℕ) (d : ℕ × ℕ) → k < length (zip xs ys) → p (get_or (zip xs ys) k d).1 ≡ true
right_passes p [] ys h k d l = absurd (not-suc-le-zero l)
right_passes p (x ∷ xs) [] h k d l = absurd (not-suc-le-zero l)
right_passes p (x ∷ xs) (y ∷ ys) h zero d l = and_left (p y) (list_all p ys) h
right_passes p (x ∷ xs) (y ∷ ys) h (suc k) d l = right_passes p xs ys (and_right (p y) (list_all p ys) h) k d (le_of_suc-le-suc l)

-- an entry of a list that is all below n
pub below_at : (n : ℕ) (xs : List ℕ) → list_all (λ (v : ℕ). ltb v n) xs ≡ true → (i : ℕ) → i < length xs → get_or xs i 0 < n
below_at n xs h i l = ltb-true _ n (all_at (λ (v : ℕ). ltb v n) xs h (mem_get_d xs i 0 l))

-- ---- images

pub value_image : (b : List ℕ) (v : ℕ) → length b ≡ mapping_length → v < 2048 → or_self (get_or b v 0) v ≡ image (mapping_of b).values v
unfolding image mapping_of
value_image b v long l = ap (λ (e : ℕ). or_self e v) (get_or_default b v 0 no_image (omega arith) ∙ sym (get_or-take 2048 b v no_image l))

pub block_image : (b : List ℕ) (v : ℕ) → length b ≡ mapping_length → v < 256 → or_self (get_or b (2048 + v) 0) v ≡ image (mapping_of b).blocks v
unfolding image mapping_of
block_image b v long l =
    ap (λ (e : ℕ). or_self e v) (get_or_default b (2048 + v) 0 no_image (omega arith) ∙ sym (get_or-take 256 (drop 2048 b) v no_image l ∙ get_or-drop 2048 b v no_image))
