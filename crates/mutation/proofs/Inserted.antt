-- An entry put in before others: in a column the words from its place up to the range's end go one further, and those outside stay. Assumes nothing.
use Prim.Native.Nat.{ℕ, suc, ◌+◌, ◌-◌, ◌<◌, ◌≤◌}
use native.Mathlib.Decide.{ℕ_discrete, dec_lt}
use native.Mathlib.Nat.{add-zero}
use native.Mathlib.Omega.{arith}
use mathlib.Core.List.{List, ◌∷◌, ◌++◌}
use mathlib.Core.Path.{◌≡◌, sym, ap, subst, ◌∙◌}
use lib.ListN.{length, get_or, take, drop, length-append, length-drop, get_or-append}
use lib.Seq.{length-take-le, get_or_at, get_or-take, get_or-drop, ext_get_or}
use Rattle.layout.specs.Columns.{pasted}
use Rattle.layout.specs.Reading.{tabulate, slice}
use Rattle.layout.proofs.Scans.{slice_length, slice_at}
use Rattle.layout.proofs.Pasted.{get_d_behind, pasted_old, pasted_new, pasted_past}
use Rattle.layout.proofs.Tabulate.{length_tabulate, get_d_tabulate}

module _ {A : Type 0} where
  -- entries that a number's function gives, with one more among them
  pub insert_tabulate :
      (c p : ℕ) (f f' : ℕ → A) (a : A) → p ≤ c
      → ((i : ℕ) → i < p → f' i ≡ f i) → f' p ≡ a → ((i : ℕ) → p ≤ i → i < c → f' (suc i) ≡ f i)
      → tabulate (c + 1) f' ≡ take p (tabulate c f) ++ (a ∷ drop p (tabulate c f))
  insert_tabulate c p f f' a fits before here behind =
      ext_get_or a _ _ (length_tabulate (c + 1) f' ∙ omega (arith, length-append (take p xs) (a ∷ drop p xs), front, length-drop p xs, column_size))
      (λ i h. let u : i < c + 1 = subst (λ (k : ℕ). i < k) (length_tabulate (c + 1) f') h in get_d_tabulate (c + 1) f' i a u ∙ go i u (ℕ_discrete i p) (dec_lt i p))
    where
      xs : List A
      xs = tabulate c f

      column_size : length xs ≡ c
      column_size = length_tabulate c f

      front : length (take p xs) ≡ p
      front = length-take-le p xs (omega (arith, column_size))

      go : (i : ℕ) → i < c + 1 → Dec (i ≡ p) → Dec (i < p) → f' i ≡ get_or (take p xs ++ (a ∷ drop p xs)) i a
      go i u (yes e) l = ap f' e ∙ here ∙ sym (subst (λ (k : ℕ). get_or (take p xs ++ (a ∷ drop p xs)) k a ≡ a) (sym e) (get_or_at (take p xs) a (drop p xs) a p front))
      go i u (no ne) (yes l) =
          before i l ∙ sym (get_d_tabulate c f i a (omega arith)) ∙ sym (get_or-take p xs i a l) ∙ sym (get_or-append (take p xs) _ a i (omega (arith, front)))
      go i u (no ne) (no l) =
          let k : ℕ = p + (i - suc p) in
          let e : suc k ≡ i = omega arith in
          let e' : p + suc (i - suc p) ≡ i = omega arith in
          ap f' (sym e) ∙ behind k (omega arith) (omega arith) ∙ sym (get_d_tabulate c f k a (omega arith)) ∙ sym (get_or-drop p xs (i - suc p) a)
          ∙ sym (get_d_behind (take p xs) (a ∷ drop p xs) p (suc (i - suc p)) a front) ∙ ap (λ (m : ℕ). get_or (take p xs ++ (a ∷ drop p xs)) m a) e'

-- ---- a word put before the words of a column from s up to e

abbrev pub grown : List ℕ → ℕ → ℕ → ℕ → List ℕ
grown l s e v = pasted l s (v ∷ slice l s e)

module _ (l : List ℕ) (s e v : ℕ) (low : s ≤ e) (high : e < length l) where
  run : length (slice l s e) ≡ e - s
  run = slice_length l s e (omega arith)

  fits : s + length (v ∷ slice l s e) ≤ length l
  fits = omega (arith, run)

  pub grown_before : (j : ℕ) → j < s → get_or (grown l s e v) j 0 ≡ get_or l j 0
  grown_before = pasted_old l s (v ∷ slice l s e) fits

  pub grown_there : get_or (grown l s e v) s 0 ≡ v
  grown_there = ap (λ (m : ℕ). get_or (grown l s e v) m 0) (sym (add-zero s)) ∙ pasted_new l s (v ∷ slice l s e) fits 0 (omega arith)

  pub grown_behind : (j : ℕ) → s ≤ j → j < e → get_or (grown l s e v) (suc j) 0 ≡ get_or l j 0
  grown_behind j a b =
      let k : ℕ = j - s in
      let u : suc j ≡ s + suc k = omega arith in
      let u' : s + k ≡ j = omega arith in
      ap (λ (m : ℕ). get_or (grown l s e v) m 0) u ∙ pasted_new l s (v ∷ slice l s e) fits (suc k) (omega (arith, run))
      ∙ slice_at l s e k (omega arith) ∙ ap (λ (m : ℕ). get_or l m 0) u'

  pub grown_past : (j : ℕ) → e < j → get_or (grown l s e v) j 0 ≡ get_or l j 0
  grown_past j b = pasted_past l s (v ∷ slice l s e) fits j (omega (arith, run))
