-- Places in a list behind which a run of numbers is put: a number that had no place gets the next ones by its place in the run, and an
-- owner's values are exactly those that name it. Assumes nothing.
use Rattle.std.proofs.Common.{◌≡◌, ℕ, zero, suc, ◌+◌, ◌-◌, ◌<◌, ◌≤◌, Bool, true, false, cond, eqb, List, [], ◌∷◌, ◌++◌, length, get_or, sym, refl, ap, ◌∙◌, subst, ⊎_elim, zero-add, arith, eq-eqb, ne_eqb}
use native.Mathlib.Decide.{ℕ_discrete}
use mathlib.Core.List.Memᴰ
use mathlib.Core.List.{Memᴰ}
use Rattle.std.specs.Prelude.{Option, None, Some}
use Rattle.std.proofs.lemmas.Option.{none-some}
use Rattle.rules.specs.Lists.{position, later, numbers_from, numbers_where}
use Rattle.rules.specs.Store.{Store, Value, no_value, value_at, same_owner, values_of}
use Rattle.rules.specs.declared.types.Owner.{Owner}
use Rattle.rules.proofs.Soundness.NewValues.{same_self}
use Rattle.layout.specs.Reading.{tabulate_from, consecutive}

-- ---- places

pub position_after : (v : ℕ) (xs ys : List ℕ) (i : ℕ) → position v xs ≡ None → position v ys ≡ Some i → position v (xs ++ ys) ≡ Some (length xs + i)
unfolding position later
position_after v [] ys i h e = e ∙ ap (λ (k : ℕ). Some k) (sym (zero-add i))
position_after v (x ∷ xs) ys i h e = go (eqb v x) (position v xs) refl (λ p. position_after v xs ys i p e) h
  where
    go : (b : Bool) (o : Option ℕ) → position v xs ≡ o → (position v xs ≡ None → position v (xs ++ ys) ≡ Some (length xs + i))
        → cond b (Some 0) (later o) ≡ None → cond b (Some 0) (later (position v (xs ++ ys))) ≡ Some (suc (length xs) + i)
    go true o p rest k = absurd (none-some 0 (sym k))
    go false None p rest k = let q : suc (length xs + i) ≡ suc (length xs) + i = omega arith in ap later (rest p) ∙ ap (λ (n : ℕ). Some n) q
    go false (Some j) p rest k = absurd (none-some (suc j) (sym k))

pub position_past : (v : ℕ) (xs ys : List ℕ) → position v ys ≡ None → position v (xs ++ ys) ≡ position v xs
unfolding position later
position_past v [] ys e = e
position_past v (x ∷ xs) ys e = rw (position_past v xs ys e) refl

pub position_run : (v a n : ℕ) → a ≤ v → v < a + n → position v (consecutive a n) ≡ Some (v - a)
unfolding consecutive tabulate_from position later
position_run v a zero l h = absurd (omega arith)
position_run v a (suc n) l h = go (ℕ_discrete v a) (position_run v (suc a) n)
  where
    go : Dec (v ≡ a) → (suc a ≤ v → v < suc a + n → position v (consecutive (suc a) n) ≡ Some (v - suc a))
        → cond (eqb v a) (Some 0) (later (position v (consecutive (suc a) n))) ≡ Some (v - a)
    go (yes e) rest = let z : 0 ≡ v - a = omega arith in rw (eq-eqb v a e) (ap (λ (k : ℕ). Some k) z)
    go (no ne) rest =
        let q : suc (v - suc a) ≡ v - a = omega arith in
        rw (ne_eqb v a ne) (ap later (rest (omega arith) (omega arith)) ∙ ap (λ (k : ℕ). Some k) q)

pub position_none : (v a n : ℕ) → (a ≤ v → v < a + n → ⊥) → position v (consecutive a n) ≡ None
unfolding consecutive tabulate_from position later
position_none v a zero out = refl
position_none v a (suc n) out =
    rw (ne_eqb v a (λ e. out (omega arith) (omega arith)), position_none v (suc a) n (λ l h. out (omega arith) (omega arith))) refl

-- ---- a run of numbers

pub record InRun (a n v : ℕ) : Type 0 where
  pub from : a ≤ v
  pub below : v < a + n

pub in_run : (a n v : ℕ) → Memᴰ v (consecutive a n) → InRun a n v
unfolding consecutive tabulate_from
in_run a zero v m = absurd (Memᴰ.not-nil m)
in_run a (suc n) v m =
    ⊎_elim (λ (e : v ≡ a). record { from = omega arith; below = omega arith }) (λ (k : Memᴰ v (consecutive (suc a) n)). next (in_run (suc a) n v k)) (Memᴰ.cases_cons m)
  where
    next : InRun (suc a) n v → InRun a (suc n) v
    next r = record { from = omega (arith, r.from); below = omega (arith, r.below) }

-- ---- an owner's values

module _ {A : Type 0} (p : A → Bool) (d : A) where
  numbers_in : (i : ℕ) (xs : List A) (k : ℕ) → k < length xs → p (get_or xs k d) ≡ true → Memᴰ (i + k) (numbers_from i p xs)
  unfolding numbers_from
  numbers_in i [] k l h = absurd (omega arith)
  numbers_in i (x ∷ xs) zero l h = let e : i + 0 ≡ i = omega arith in rw h (Memᴰ.head e)
  numbers_in i (x ∷ xs) (suc k) l h = go (p x) (numbers_in (suc i) xs k (omega arith) h)
    where
      go : (b : Bool) → Memᴰ (suc i + k) (numbers_from (suc i) p xs) → Memᴰ (i + suc k) (cond b (i ∷ numbers_from (suc i) p xs) (numbers_from (suc i) p xs))
      go true m = let e : suc i + k ≡ i + suc k = omega arith in Memᴰ.tail (subst (λ (j : ℕ). Memᴰ j (numbers_from (suc i) p xs)) e m)
      go false m = let e : suc i + k ≡ i + suc k = omega arith in subst (λ (j : ℕ). Memᴰ j (numbers_from (suc i) p xs)) e m

pub value_in : (s : Store) (w : Owner) (v : ℕ) → v < length s.values → (value_at s v).owner ≡ w → Memᴰ v (values_of s w)
unfolding values_of numbers_where value_at
value_in s w v l e =
    subst (λ (j : ℕ). Memᴰ j (values_of s w)) (zero-add v)
    (numbers_in (λ (x : Value). same_owner x.owner w) no_value 0 s.values v l (subst (λ (o : Owner). same_owner o w ≡ true) (sym e) (same_self w)))
