-- A list is gone through item by item: what came so far, what comes now and what is left make the whole. An iterator gives its list so, and
-- a range gives its numbers. Assumes nothing.
use Prim.Native.Nat.{ℕ, zero, suc, ◌+◌, ◌-◌, ◌<◌, ◌≤◌}
use native.Mathlib.Numerals.{add-one}
use native.Mathlib.Omega.{arith}
use mathlib.Core.List.Memᴰ
use mathlib.Core.List.{List, [], ◌∷◌, ◌++◌, Memᴰ, append-nil, append_assoc}
use mathlib.Core.Path.{◌≡◌, refl, sym, ap, subst, ◌∙◌}
use lib.ListN.{length, length-append}
use Rattle.std.specs.Prelude as std
use Rattle.std.specs.Iterator.{Yields, YieldsFirst}
use Rattle.layout.specs.Reading.{tabulate_from}
use Rattle.layout.proofs.Ranges.{range, range_first}

-- ---- an iterator

module _ {S A : Type 0} (left : S → List A) where
  so_far : (s : S) (came : List A) (t : S) → Yields (YieldsFirst left) s came t → left s ≡ came ++ left t
  so_far s [] t y = ap left y
  so_far s (x ∷ came) t y = y.1 ∙ ap (λ (xs : List A). x ∷ xs) (so_far y.0 came t y.2)

  module _ (came whole : List A) (s t : S) (begun : left s ≡ whole) (y : Yields (YieldsFirst left) s came t) where
    -- an item comes
    pub item_comes : (u : S) (r : std.Option A) (x : A) → r ≡ std.Some x → YieldsFirst left t r u → came ++ x ∷ left u ≡ whole
    item_comes u r x e steps =
        let one : left t ≡ x ∷ left u = subst (λ (q : std.Option A). YieldsFirst left t q u) e steps in
        ap (λ (xs : List A). came ++ xs) (sym one) ∙ sym (so_far s came t y) ∙ begun

    -- no more comes
    pub all_came : (u : S) (r : std.Option A) → r ≡ std.None → YieldsFirst left t r u → came ≡ whole
    all_came u r e steps =
        let none_left : YieldsFirst left t std.None u = subst (λ (q : std.Option A). YieldsFirst left t q u) e steps in
        sym (append-nil came) ∙ ap (λ (xs : List A). came ++ xs) (sym none_left.0) ∙ sym (so_far s came t y) ∙ begun

-- ---- a range of numbers: those from a on came, up to i

last_from : (a n : ℕ) → tabulate_from a (suc n) (λ (i : ℕ). i) ≡ tabulate_from a n (λ (i : ℕ). i) ++ (a + n) ∷ []
unfolding tabulate_from
last_from a zero = ap (λ (k : ℕ). k ∷ []) (let e : a ≡ a + 0 = omega arith in e)
last_from a (suc n) =
    ap (λ (xs : List ℕ). a ∷ xs)
    (last_from (suc a) n ∙ ap (λ (k : ℕ). tabulate_from (suc a) n (λ (i : ℕ). i) ++ k ∷ []) (let e : suc a + n ≡ a + suc n = omega arith in e))

then_from : (a n e : ℕ) → a + n ≤ e → tabulate_from a n (λ (i : ℕ). i) ++ range (a + n) e ≡ range a e
unfolding tabulate_from
then_from a zero e l = ap (λ (k : ℕ). range k e) (let z : a + 0 ≡ a = omega arith in z)
then_from a (suc n) e l =
    ap (λ (xs : List ℕ). a ∷ xs)
    (ap (λ (k : ℕ). tabulate_from (suc a) n (λ (i : ℕ). i) ++ range k e) (let z : a + suc n ≡ suc a + n = omega arith in z) ∙ then_from (suc a) n e (omega arith))
    ∙ sym (range_first a e (omega arith))

-- and with the next one
pub number_came : (a i : ℕ) → a ≤ i → range a (i + 1) ≡ range a i ++ i ∷ []
unfolding range
number_came a i l =
    let more : i + 1 - a ≡ suc (i - a) = omega arith in
    let last : a + (i - a) ≡ i = omega arith in
    ap (λ (n : ℕ). tabulate_from a n (λ (j : ℕ). j)) more ∙ last_from a (i - a) ∙ ap (λ (k : ℕ). tabulate_from a (i - a) (λ (j : ℕ). j) ++ k ∷ []) last

pub number_comes : (a i e : ℕ) → a ≤ i → i < e → range a i ++ i ∷ range (i + 1) e ≡ range a e
unfolding range
number_comes a i e l h =
    let here : a + (i - a) ≡ i = omega arith in
    ap (λ (xs : List ℕ). range a i ++ xs) (ap (λ (k : ℕ). i ∷ range k e) (add-one i) ∙ sym (range_first i e h) ∙ ap (λ (k : ℕ). range k e) (sym here))
    ∙ then_from a (i - a) e (omega arith)

-- ---- an item that comes

module _ {A : Type 0} (came rest whole : List A) (x : A) (turn : came ++ x ∷ rest ≡ whole) where
  -- is in the list
  pub comes_mem : Memᴰ x whole
  comes_mem = subst (λ (xs : List A). Memᴰ x xs) turn (Memᴰ.append_right came (Memᴰ.head refl))

  -- and then came, as have those before it
  pub came_then : (came ++ x ∷ []) ++ rest ≡ whole
  came_then = append_assoc came (x ∷ []) rest ∙ turn

  pub came_fewer : length (came ++ x ∷ []) ≤ length whole
  came_fewer =
      let e : length ((came ++ x ∷ []) ++ rest) ≡ length whole = ap (λ (xs : List A). length xs) came_then in
      let s = length-append (came ++ x ∷ []) rest in
      omega arith
