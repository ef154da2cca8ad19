-- An entry taken out from before others: in a column the words behind it up to the range's end go one place down, and those outside stay. Assumes nothing.
use Prim.Native.Nat.{ℕ, suc, ◌+◌, ◌-◌, ◌<◌, ◌≤◌}
use native.Mathlib.Decide.{dec_lt}
use native.Mathlib.Omega.{arith}
use mathlib.Core.List.{List, ◌++◌}
use mathlib.Core.Path.{◌≡◌, sym, ap, subst, ◌∙◌}
use lib.ListN.{length, get_or, take, drop, length-append, length-drop, get_or-append}
use lib.Seq.{length-take-le, get_or-take, get_or-drop, ext_get_or}
use Rattle.layout.specs.Columns.{pasted}
use Rattle.layout.specs.Reading.{tabulate, slice}
use Rattle.layout.proofs.Scans.{slice_length, slice_at}
use Rattle.layout.proofs.Pasted.{get_d_behind, pasted_old, pasted_new, pasted_past}
use Rattle.layout.proofs.Tabulate.{length_tabulate, get_d_tabulate}

module _ {A : Type 0} where
  -- entries that a number's function gives, with one of them taken out
  pub remove_tabulate :
      (c p : ℕ) (f f' : ℕ → A) → p < c
      → ((i : ℕ) → i < p → f' i ≡ f i) → ((i : ℕ) → p ≤ i → suc i < c → f' i ≡ f (suc i))
      → tabulate (c - 1) f' ≡ take p (tabulate c f) ++ drop (suc p) (tabulate c f)
  remove_tabulate c p f f' fits before behind =
      ext_get_or (f 0) _ _ (length_tabulate (c - 1) f' ∙ omega (arith, length-append (take p xs) (drop (suc p) xs), front, length-drop (suc p) xs, long))
      (λ i h. let u : i < c - 1 = subst (λ (k : ℕ). i < k) (length_tabulate (c - 1) f') h in get_d_tabulate (c - 1) f' i (f 0) u ∙ go i u (dec_lt i p))
    where
      xs : List A
      xs = tabulate c f

      long : length xs ≡ c
      long = length_tabulate c f

      front : length (take p xs) ≡ p
      front = length-take-le p xs (omega (arith, long))

      go : (i : ℕ) → i < c - 1 → Dec (i < p) → f' i ≡ get_or (take p xs ++ drop (suc p) xs) i (f 0)
      go i u (yes l) =
          before i l ∙ sym (get_d_tabulate c f i (f 0) (omega arith)) ∙ sym (get_or-take p xs i (f 0) l)
          ∙ sym (get_or-append (take p xs) _ (f 0) i (omega (arith, front)))
      go i u (no l) =
          let m : ℕ = i - p in
          let e : suc p + m ≡ suc i = omega arith in
          let e' : p + m ≡ i = omega arith in
          behind i (omega arith) (omega arith) ∙ sym (get_d_tabulate c f (suc i) (f 0) (omega arith)) ∙ ap (λ (j : ℕ). get_or xs j (f 0)) (sym e)
          ∙ sym (get_or-drop (suc p) xs m (f 0)) ∙ sym (get_d_behind (take p xs) (drop (suc p) xs) p m (f 0) front)
          ∙ ap (λ (j : ℕ). get_or (take p xs ++ drop (suc p) xs) j (f 0)) e'

-- ---- a word taken out from before the words of a column up to e

abbrev pub shrunk : List ℕ → ℕ → ℕ → List ℕ
shrunk l s e = pasted l s (slice l (s + 1) e)

module _ (l : List ℕ) (s e : ℕ) (low : s < e) (high : e ≤ length l) where
  run : length (slice l (s + 1) e) ≡ e - (s + 1)
  run = slice_length l (s + 1) e high

  fits : s + length (slice l (s + 1) e) ≤ length l
  fits = omega (arith, run)

  pub shrunk_before : (j : ℕ) → j < s → get_or (shrunk l s e) j 0 ≡ get_or l j 0
  shrunk_before = pasted_old l s (slice l (s + 1) e) fits

  pub shrunk_behind : (j : ℕ) → s ≤ j → suc j < e → get_or (shrunk l s e) j 0 ≡ get_or l (suc j) 0
  shrunk_behind j a b =
      let k : ℕ = j - s in
      let u : j ≡ s + k = omega arith in
      let u' : s + 1 + k ≡ suc j = omega arith in
      ap (λ (m : ℕ). get_or (shrunk l s e) m 0) u ∙ pasted_new l s (slice l (s + 1) e) fits k (omega (arith, run))
      ∙ slice_at l (s + 1) e k (omega arith) ∙ ap (λ (m : ℕ). get_or l m 0) u'

  pub shrunk_past : (j : ℕ) → e ≤ suc j → get_or (shrunk l s e) j 0 ≡ get_or l j 0
  shrunk_past j b = pasted_past l s (slice l (s + 1) e) fits j (omega (arith, run))
