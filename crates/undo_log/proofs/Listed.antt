-- Lists made of the numbers below n: one entry taken out, the first ones gone, one more at the end; and what holds of every entry. Assumes
-- nothing.
use Prim.Native.Nat.{ℕ, zero, suc, ◌+◌, ◌-◌, ◌<◌, ◌≤◌}
use native.Mathlib.Nat.{not-suc-le-zero, zero-add}
use native.Mathlib.Decide.{dec_lt}
use native.Mathlib.Omega.{arith}
use mathlib.Core.List.{List, [], ◌∷◌, ◌++◌, map}
use mathlib.Core.Path.{◌≡◌, refl, sym, ap, ap₂, subst, ◌∙◌}
use lib.ListN.{length, get_or, take, drop, length-append, length-drop, get_or-append}
use lib.Seq.{length-take-le, get_or-take, get_or-drop, ext_get_or, take_at, drop_at}
use Rattle.layout.specs.Columns.{Cols, at}
use Rattle.layout.specs.Reading.{tabulate, tabulate_from, slice}
use Rattle.layout.proofs.Scans.{slice_length, slice_at}
use Rattle.layout.proofs.Pasted.{get_d_behind}
use Rattle.layout.proofs.Tabulate.{length_tabulate, get_d_tabulate, tabulate_cong, tabulate_suc, tabulate_add, map_from}

module _ {A : Type 0} where
  -- entry p is taken out
  pub remove_tabulate :
      (c p : ℕ) (f f' : ℕ → A) → p < c → ((i : ℕ) → i < p → f' i ≡ f i) → ((i : ℕ) → p ≤ i → i + 1 < c → f' i ≡ f (i + 1))
      → tabulate (c - 1) f' ≡ take p (tabulate c f) ++ drop (suc p) (tabulate c f)
  remove_tabulate c p f f' fits before behind =
      ext_get_or (f 0) _ _ (length_tabulate (c - 1) f' ∙ omega (arith, length-append (take p xs) (drop (suc p) xs), front, length-drop (suc p) xs, whole))
      (λ i h. let u : i < c - 1 = subst (λ (k : ℕ). i < k) (length_tabulate (c - 1) f') h in get_d_tabulate (c - 1) f' i (f 0) u ∙ go i u (dec_lt i p))
    where
      xs : List A
      xs = tabulate c f

      whole : length xs ≡ c
      whole = length_tabulate c f

      front : length (take p xs) ≡ p
      front = length-take-le p xs (omega (arith, whole))

      go : (i : ℕ) → i < c - 1 → Dec (i < p) → f' i ≡ get_or (take p xs ++ drop (suc p) xs) i (f 0)
      go i u (yes l) =
          before i l ∙ sym (get_d_tabulate c f i (f 0) (omega arith)) ∙ sym (get_or-take p xs i (f 0) l)
          ∙ sym (get_or-append (take p xs) _ (f 0) i (omega (arith, front)))
      go i u (no l) =
          let e : suc p + (i - p) ≡ i + 1 = omega arith in
          let e' : p + (i - p) ≡ i = omega arith in
          behind i (omega arith) (omega arith) ∙ sym (get_d_tabulate c f (i + 1) (f 0) (omega arith)) ∙ ap (λ (m : ℕ). get_or xs m (f 0)) (sym e)
          ∙ sym (get_or-drop (suc p) xs (i - p) (f 0)) ∙ sym (get_d_behind (take p xs) (drop (suc p) xs) p (i - p) (f 0) front)
          ∙ ap (λ (m : ℕ). get_or (take p xs ++ drop (suc p) xs) m (f 0)) e'

  -- one more at the end
  pub more_tabulate : (c : ℕ) (f f' : ℕ → A) (a : A) → ((i : ℕ) → i < c → f' i ≡ f i) → f' c ≡ a → tabulate (c + 1) f' ≡ tabulate c f ++ (a ∷ [])
  more_tabulate c f f' a same last =
      let e : c + 1 ≡ suc c = omega arith in
      ap (λ (n : ℕ). tabulate n f') e ∙ tabulate_suc c f' ∙ ap₂ (λ (l : List A) (x : A). l ++ (x ∷ [])) (tabulate_cong c f' f same) last

  module _ (c n : ℕ) (f : ℕ → A) (fits : n ≤ c) where
    parts : tabulate c f ≡ tabulate n f ++ tabulate (c - n) (λ (i : ℕ). f (n + i))
    parts = let e : c ≡ n + (c - n) = omega arith in ap (λ (m : ℕ). tabulate m f) e ∙ tabulate_add n (c - n) f

    pub first_tabulate : tabulate n f ≡ take n (tabulate c f)
    first_tabulate = sym (ap (take n) parts ∙ take_at (tabulate n f) _ n (length_tabulate n f))

    -- the first n are gone
    pub drop_tabulate : (f' : ℕ → A) → ((i : ℕ) → i < c - n → f' i ≡ f (n + i)) → tabulate (c - n) f' ≡ drop n (tabulate c f)
    drop_tabulate f' same = tabulate_cong (c - n) f' _ same ∙ sym (ap (drop n) parts ∙ drop_at (tabulate n f) _ n (length_tabulate n f))

-- ---- entries changed, one by one

module _ {A B : Type 0} (g : A → B) where
  pub map_take : (n : ℕ) (xs : List A) → map g (take n xs) ≡ take n (map g xs)
  map_take zero xs = refl
  map_take (suc n) [] = refl
  map_take (suc n) (x ∷ xs) = ap (λ (l : List B). g x ∷ l) (map_take n xs)

  pub map_drop : (n : ℕ) (xs : List A) → map g (drop n xs) ≡ drop n (map g xs)
  map_drop zero xs = refl
  map_drop (suc n) [] = refl
  map_drop (suc n) (x ∷ xs) = map_drop n xs

  pub map_length : (xs : List A) → length (map g xs) ≡ length xs
  map_length [] = refl
  map_length (x ∷ xs) = ap suc (map_length xs)

  pub map_tabulate : (n : ℕ) (f : ℕ → A) (f' : ℕ → B) → ((i : ℕ) → i < n → f' i ≡ g (f i)) → tabulate n f' ≡ map g (tabulate n f)
  unfolding tabulate
  map_tabulate n f f' same = tabulate_cong n f' (λ (i : ℕ). g (f i)) same ∙ sym (map_from g f 0 n)

-- ---- what holds of every entry

module _ {A : Type 0} (P : A → Type 0) where
  abbrev pub Every : List A → Type 0
  Every [] = Unit {0}
  Every (x ∷ xs) = P x × Every xs

  every_from : (i n : ℕ) (f : ℕ → A) → ((k : ℕ) → k < i + n → P (f k)) → Every (tabulate_from i n f)
  unfolding tabulate_from
  every_from i zero f h = tt
  every_from i (suc n) f h = (h i (omega arith), every_from (suc i) n f (λ k l. h k (omega arith)))

  pub every_tabulate : (n : ℕ) (f : ℕ → A) → ((k : ℕ) → k < n → P (f k)) → Every (tabulate n f)
  unfolding tabulate
  every_tabulate n f h = every_from 0 n f (λ k l. h k (omega arith))

  pub every_at : (xs : List A) → Every xs → (i : ℕ) (d : A) → i < length xs → P (get_or xs i d)
  every_at [] h i d l = absurd (not-suc-le-zero l)
  every_at (x ∷ xs) h zero d l = h.0
  every_at (x ∷ xs) h (suc i) d l = every_at xs h.1 i d (omega arith)

  pub every_take : (n : ℕ) (xs : List A) → Every xs → Every (take n xs)
  every_take zero xs h = tt
  every_take (suc n) [] h = tt
  every_take (suc n) (x ∷ xs) h = (h.0, every_take n xs h.1)

  pub every_drop : (n : ℕ) (xs : List A) → Every xs → Every (drop n xs)
  every_drop zero xs h = h
  every_drop (suc n) [] h = tt
  every_drop (suc n) (x ∷ xs) h = every_drop n xs h.1

  pub every_append : (xs ys : List A) → Every xs → Every ys → Every (xs ++ ys)
  every_append [] ys h k = k
  every_append (x ∷ xs) ys h k = (h.0, every_append xs ys h.1 k)

-- the first words of a column
pub first_words : (C : Cols) (k n : ℕ) → n ≤ length (C k) → slice (C k) 0 n ≡ tabulate n (at C k)
unfolding at
first_words C k n l =
    let many : length (slice (C k) 0 n) ≡ n = slice_length (C k) 0 n l ∙ (let z : n - 0 ≡ n = omega arith in z) in
    ext_get_or 0 _ _ (many ∙ sym (length_tabulate n (at C k)))
    (λ i h. slice_at (C k) 0 n i (omega (arith, many)) ∙ ap (λ (x : ℕ). get_or (C k) x 0) (zero-add i) ∙ sym (get_d_tabulate n (at C k) i 0 (omega (arith, many))))
