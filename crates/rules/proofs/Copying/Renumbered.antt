-- A list of numbers that are given the next numbers of a table, in their order, and the table with an entry for each behind it: which entry
-- stands where, and which numbers of the table pass a test. Assumes nothing.
use Prim.Native.Nat.{ℕ, zero, suc, ◌+◌, ◌-◌, ◌<◌, ◌≤◌}
use native.Mathlib.Nat.{add-zero}
use native.Mathlib.Omega.{arith}
use mathlib.Core.Bool.{Bool, true, false, cond}
use mathlib.Core.List.Memᴰ
use mathlib.Core.List.{List, [], ◌∷◌, ◌++◌, map, append-nil, Memᴰ}
use mathlib.Core.Logic.{◌⊎◌, inl, inr, ⊎_elim}
use Rattle.std.specs.Prelude.{Option, None, Some}
use mathlib.Core.Path.{◌≡◌, refl, sym, ap, ap₂, subst, ◌∙◌}
use borrow.Author.Tests.{eq-eqb, ne_eqb}
use lib.ListN.{length, get_or, length-append, length-map, get_or-append}
use lib.Seq.{get_or-append-add}
use Rattle.std.specs.List.{filter, flat_map}
use Rattle.rules.specs.Lists.{numbers_from, numbers_where, later, position}
use Rattle.rules.specs.Copying.{or_next, renumbered}
use Rattle.rules.proofs.Basics.Tests.{all_of}
use Rattle.rules.proofs.Basics.Distinct.{Distinct}
use Rattle.rules.proofs.Basics.Appended.{numbers_before, numbers_from_append, numbers_from_none, mem_get_d}
use Rattle.rules.proofs.Basics.Filtered.{filter_append, filter_whole}
use Rattle.rules.proofs.Form.Images.{position_some, position_none, position_out, position_at}

-- ---- lists

-- a list without members
empty_of : {A : Type 0} (xs : List A) → ((x : A) → Memᴰ x xs → ⊥) → xs ≡ []
empty_of [] h = refl
empty_of (x ∷ xs) h = absurd (h x (Memᴰ.head refl))

pub map_same : {A B : Type 0} (f g : A → B) (xs : List A) → ((x : A) → Memᴰ x xs → f x ≡ g x) → map f xs ≡ map g xs
map_same f g [] h = refl
map_same f g (x ∷ xs) h = ap₂ ◌∷◌ (h x (Memᴰ.head refl)) (map_same f g xs (λ y m. h y (Memᴰ.tail m)))

pub mem_filter : {A : Type 0} (q : A → Bool) (xs : List A) {x : A} → Memᴰ x (filter q xs) → Memᴰ x xs × (q x ≡ true)
mem_filter q [] m = absurd (Memᴰ.not-nil m)
mem_filter {A} q (y ∷ xs) {x} m = go (q y) refl (λ k. mem_filter q xs k) m
  where
    go : (b : Bool) → q y ≡ b → (Memᴰ x (filter q xs) → Memᴰ x xs × (q x ≡ true)) → Memᴰ x (cond b (y ∷ filter q xs) (filter q xs))
        → Memᴰ x (y ∷ xs) × (q x ≡ true)
    go true e rest k =
        ⊎_elim (λ f. (Memᴰ.head f, ap q f ∙ e)) (λ k'. let r = rest k' in (Memᴰ.tail r.0, r.1)) (Memᴰ.cases_cons k)
    go false e rest k = let r = rest k in (Memᴰ.tail r.0, r.1)

pub distinct_apart : {A : Type 0} (xs ys : List A) → Distinct (xs ++ ys) → (x : A) → Memᴰ x xs → Memᴰ x ys → ⊥
distinct_apart [] ys d x m k = Memᴰ.not-nil m
distinct_apart (y ∷ xs) ys d x m k =
    ⊎_elim (λ e. d.0 (subst (λ (z : _). Memᴰ z (xs ++ ys)) e (Memᴰ.append_right xs k))) (λ m'. distinct_apart xs ys d.1 x m' k) (Memᴰ.cases_cons m)

pub distinct_right : {A : Type 0} (xs ys : List A) → Distinct (xs ++ ys) → Distinct ys
distinct_right [] ys d = d
distinct_right (x ∷ xs) ys d = distinct_right xs ys d.1

pub in_concat_map : {A B : Type 0} (f : A → List B) {x : A} {y : B} (xs : List A) → Memᴰ x xs → Memᴰ y (f x) → Memᴰ y (flat_map f xs)
in_concat_map f {x = x} {y = y} xs (Memᴰ.head {x = z} {xs = zs} e) k = Memᴰ.append_left (flat_map f zs) (subst (λ (u : _). Memᴰ y (f u)) e k)
in_concat_map f xs (Memᴰ.tail {x = z} {xs = zs} m) k = Memᴰ.append_right (f z) (in_concat_map f zs m k)

-- of distinct children of some parents, those of one of the parents: they stand together, and in their own order
pub of_one_parent : {W : Type 0} (kids : W → List ℕ) (q : ℕ → Bool) (w : W) (ps : List W) → Distinct (flat_map kids ps) → Memᴰ w ps
    → ((c : ℕ) → Memᴰ c (kids w) → q c ≡ true) → ((c : ℕ) → Memᴰ c (flat_map kids ps) → q c ≡ true → Memᴰ c (kids w))
    → filter q (flat_map kids ps) ≡ kids w
of_one_parent kids q w [] d m his their = absurd (Memᴰ.not-nil m)
of_one_parent kids q w (p ∷ ps) d m his their =
    filter_append q (kids p) (flat_map kids ps)
    ∙ ⊎_elim first
    (λ m'. rest m' (of_one_parent kids q w ps (distinct_right (kids p) (flat_map kids ps) d) m' his (λ c k. their c (Memᴰ.append_right (kids p) k))))
    (Memᴰ.cases_cons m)
  where
    first : w ≡ p → filter q (kids p) ++ filter q (flat_map kids ps) ≡ kids w
    first e =
        let f : kids p ≡ kids w = ap kids (sym e) in
        let whole : filter q (kids p) ≡ kids p = filter_whole q (kids p) (all_of q (kids p) (λ c k. his c (subst (Memᴰ c) f k))) in
        let none : filter q (flat_map kids ps) ≡ [] =
        empty_of (filter q (flat_map kids ps)) (λ c k. let r = mem_filter q (flat_map kids ps) k in
        distinct_apart (kids p) (flat_map kids ps) d c (subst (Memᴰ c) (sym f) (their c (Memᴰ.append_right (kids p) r.0) r.1)) r.0) in
        ap₂ ◌++◌ whole none ∙ append-nil (kids p) ∙ f

    rest : Memᴰ w ps → filter q (flat_map kids ps) ≡ kids w → filter q (kids p) ++ filter q (flat_map kids ps) ≡ kids w
    rest m' others =
        let none : filter q (kids p) ≡ [] =
        empty_of (filter q (kids p)) (λ c k. let r = mem_filter q (kids p) k in
        distinct_apart (kids p) (flat_map kids ps) d c r.0 (in_concat_map kids ps m' (their c (Memᴰ.append_left (flat_map kids ps) r.0) r.1))) in
        ap₂ ◌++◌ none others

-- ---- one before another

-- a stands before c in the list
pub data Before {A : Type 0} (a c : A) : List A → Type 0 where
  here : {xs : List A} → Memᴰ c xs → Before a c (a ∷ xs)
  there : {x : A} {xs : List A} → Before a c xs → Before a c (x ∷ xs)

module _ {A : Type 0} where
  pub first_in : {a c : A} {xs : List A} → Before a c xs → Memᴰ a xs
  first_in (here m) = Memᴰ.head refl
  first_in (there h) = Memᴰ.tail (first_in h)

  pub second_in : {a c : A} {xs : List A} → Before a c xs → Memᴰ c xs
  second_in (here m) = Memᴰ.tail m
  second_in (there h) = Memᴰ.tail (second_in h)

  pub before_left : {a c : A} {xs : List A} (ys : List A) → Before a c xs → Before a c (xs ++ ys)
  before_left ys (here m) = here (Memᴰ.append_left ys m)
  before_left ys (there h) = there (before_left ys h)

  pub before_right : {a c : A} (xs : List A) {ys : List A} → Before a c ys → Before a c (xs ++ ys)
  before_right [] h = h
  before_right (x ∷ xs) h = there (before_right xs h)

  pub before_across : {a c : A} {xs ys : List A} → Memᴰ a xs → Memᴰ c ys → Before a c (xs ++ ys)
  before_across {a} {c} {ys = ys} (Memᴰ.head {x = x} {xs = xs} e) k = subst (λ (y : A). Before a c (y ∷ (xs ++ ys))) e (here (Memᴰ.append_right xs k))
  before_across (Memᴰ.tail m) k = there (before_across m k)

  pub before_trans : {a b c : A} {xs : List A} → Distinct xs → Before a b xs → Before b c xs → Before a c xs
  before_trans d (here m) k = onward d m k
    where
      onward : {x b c : A} {xs : List A} → Distinct (x ∷ xs) → Memᴰ b xs → Before b c (x ∷ xs) → Before x c (x ∷ xs)
      onward d m (here k) = here k
      onward d m (there k) = here (second_in k)
  before_trans d (there h) (here k) = absurd (d.0 (second_in h))
  before_trans d (there h) (there k) = there (before_trans d.1 h k)

-- in a list put together from lists: within one of them, or in two of which one stands before the other
pub before_within : {A B : Type 0} (f : A → List B) {x : A} {xs : List A} {a c : B} → Memᴰ x xs → Before a c (f x) → Before a c (flat_map f xs)
before_within f {a = a} {c = c} (Memᴰ.head {x = y} {xs = ys} e) h = before_left (flat_map f ys) (subst (λ (z : _). Before a c (f z)) e h)
before_within f (Memᴰ.tail {x = y} {xs = ys} m) h = before_right (f y) (before_within f m h)

pub before_between : {A B : Type 0} (f : A → List B) {x y : A} {xs : List A} {a c : B} → Before x y xs → Memᴰ a (f x) → Memᴰ c (f y) → Before a c (flat_map f xs)
before_between f {x = x} (here {xs = xs} m) ka kc = before_across ka (in_concat_map f xs m kc)
before_between f (there {x = x} h) ka kc = before_right (f x) (before_between f h ka kc)

-- ---- the next numbers

module _ (C : List ℕ) (next : ℕ) where
  -- the place of one that stands in the list
  pub place_in : {c : ℕ} → Memᴰ c C → (i : ℕ) × (position c C ≡ Some i) × (i < length C) × (get_or C i 0 ≡ c)
  place_in {c} m = go (position c C) refl
    where
      go : (o : Option ℕ) → position c C ≡ o → (i : ℕ) × (position c C ≡ Some i) × (i < length C) × (get_or C i 0 ≡ c)
      go None e = absurd (position_none c C e m)
      go (Some i) e = let p = position_some c C i e in (i, e, p.0, p.1)

  pub number_at : (c i : ℕ) → position c C ≡ Some i → renumbered C next c ≡ next + i
  unfolding renumbered or_next
  number_at c i e = rw e

  pub number_out : (c : ℕ) → (Memᴰ c C → ⊥) → renumbered C next c ≡ c
  unfolding renumbered or_next
  number_out c out = rw (position_out c C out)

  pub number_new : {c : ℕ} → Memᴰ c C → next ≤ renumbered C next c
  number_new {c} m = let p = place_in m in omega (arith, number_at c p.0 p.1)

  pub number_below_lem : {c : ℕ} → Memᴰ c C → renumbered C next c < next + length C
  number_below_lem {c} m = let p = place_in m in let l : p.0 < length C = p.2 in omega (arith, number_at c p.0 p.1)

  -- one that has a new number is one of the list, one that keeps its own is none
  pub number_cases : (c : ℕ) → Memᴰ c C ⊎ ((Memᴰ c C → ⊥) × (renumbered C next c ≡ c))
  number_cases c = go (position c C) refl
    where
      go : (o : Option ℕ) → position c C ≡ o → Memᴰ c C ⊎ ((Memᴰ c C → ⊥) × (renumbered C next c ≡ c))
      go None e = inr (position_none c C e, number_out c (position_none c C e))
      go (Some i) e = let p = position_some c C i e in inl (subst (λ (x : ℕ). Memᴰ x C) p.1 (mem_get_d C i 0 p.0))

  -- a number of the table, renamed
  pub number_named : (c : ℕ) → c < next → renumbered C next c < next + length C
  number_named c l = ⊎_elim (λ m. number_below_lem m) (λ h. omega (arith, h.1)) (number_cases c)

  -- of numbers of the table, no two get the same
  pub number_once : (a b : ℕ) → a < next → b < next → renumbered C next a ≡ renumbered C next b → a ≡ b
  number_once a b la lb e = go (number_cases a) (number_cases b)
    where
      go : Memᴰ a C ⊎ ((Memᴰ a C → ⊥) × (renumbered C next a ≡ a)) → Memᴰ b C ⊎ ((Memᴰ b C → ⊥) × (renumbered C next b ≡ b)) → a ≡ b
      go (inl ma) (inl mb) =
          let p = place_in ma in
          let q = place_in mb in
          let f : p.0 ≡ q.0 = omega (arith, number_at a p.0 p.1, number_at b q.0 q.1, e) in
          sym p.3 ∙ ap (λ (i : ℕ). get_or C i 0) f ∙ q.3
      go (inl ma) (inr nb) = let f : renumbered C next b ≡ b = nb.1 in absurd (omega (arith, number_new ma, e))
      go (inr na) (inl mb) = let f : renumbered C next a ≡ a = na.1 in absurd (omega (arith, number_new mb, e))
      go (inr na) (inr nb) = sym na.1 ∙ e ∙ nb.1

  -- each next number is some one's
  pub number_of : Distinct C → (k : ℕ) → next ≤ k → k < next + length C → (c : ℕ) × Memᴰ c C × (k ≡ renumbered C next c)
  number_of d k l h =
      let i : k - next < length C = omega arith in
      (get_or C (k - next) 0, mem_get_d C (k - next) 0 i, omega (arith, number_at (get_or C (k - next) 0) (k - next) (position_at C d (k - next) i)))

-- ---- the numbers of a list, and of the list behind its first one

pub first_number : (c : ℕ) (C : List ℕ) (next : ℕ) → renumbered (c ∷ C) next c ≡ next
unfolding renumbered or_next position
first_number c C next = rw (eq-eqb c c refl) (add-zero next)

later_place : (c : ℕ) (C : List ℕ) (x i : ℕ) → (x ≡ c → ⊥) → position x C ≡ Some i → position x (c ∷ C) ≡ Some (suc i)
unfolding position later
later_place c C x i ne e = rw (ne_eqb x c ne, e)

number_tail : (c : ℕ) (C : List ℕ) (next x : ℕ) → Distinct (c ∷ C) → Memᴰ x C → renumbered C (suc next) x ≡ renumbered (c ∷ C) next x
number_tail c C next x d m =
    let q = place_in C (suc next) m in
    let e = later_place c C x q.0 (λ f. d.0 (subst (λ (y : ℕ). Memᴰ y C) f m)) q.1 in
    omega (arith, number_at C (suc next) x q.0 q.1, number_at (c ∷ C) next x (suc q.0) e)

pub before_less : {a c : ℕ} {C : List ℕ} → Before a c C → Distinct C → (next : ℕ) → renumbered C next a < renumbered C next c
before_less {a} {c} (here {xs = C} m) d next =
    omega (arith, first_number a C next, number_tail a C next c d m, number_new C (suc next) m)
before_less {a} {c} (there {x = x} {xs = C} h) d next =
    omega (arith, before_less h d.1 (suc next), number_tail x C next a d (first_in h), number_tail x C next c d (second_in h))

-- ---- the table

-- the place of an entry
pub entry_of : {A : Type 0} (d : A) {x : A} {xs : List A} → Memᴰ x xs → (i : ℕ) × (i < length xs) × (get_or xs i d ≡ x)
entry_of d (Memᴰ.head {x = y} {xs = ys} e) = (0, omega arith, sym e)
entry_of d (Memᴰ.tail {x = y} {xs = ys} m) = let r = entry_of d m in let l : r.0 < length ys = r.1 in (suc r.0, omega arith, r.2)

get_d_map : {A : Type 0} (g : ℕ → A) (C : List ℕ) (i : ℕ) (d : A) → i < length C → get_or (map g C) i d ≡ g (get_or C i 0)
get_d_map g [] i d l = absurd (omega arith)
get_d_map g (c ∷ C) zero d l = refl
get_d_map g (c ∷ C) (suc i) d l = get_d_map g C i d (omega arith)

-- places of those that pass are the numbers of those whose entries pass
numbers_copied : {A : Type 0} (p : A → Bool) (g : ℕ → A) (C : List ℕ) (next : ℕ) → Distinct C
    → numbers_from next p (map g C) ≡ map (renumbered C next) (filter (λ (c : ℕ). p (g c)) C)
unfolding numbers_from
numbers_copied p g [] next d = refl
numbers_copied p g (c ∷ C) next d = go (p (g c)) (numbers_copied p g C (suc next) d.1 ∙ map_same _ _ _ shifted)
  where
    kept : List ℕ
    kept = filter (λ (x : ℕ). p (g x)) C

    shifted : (x : ℕ) → Memᴰ x kept → renumbered C (suc next) x ≡ renumbered (c ∷ C) next x
    shifted x m = number_tail c C next x d (mem_filter (λ (y : ℕ). p (g y)) C m).0

    go : (b : Bool) → numbers_from (suc next) p (map g C) ≡ map (renumbered (c ∷ C) next) kept
        → cond b (next ∷ numbers_from (suc next) p (map g C)) (numbers_from (suc next) p (map g C)) ≡ map (renumbered (c ∷ C) next) (cond b (c ∷ kept) kept)
    go true e = ap₂ ◌∷◌ (sym (first_number c C next)) e
    go false e = e

module _ {A : Type 0} (xs : List A) (g : ℕ → A) (C : List ℕ) where
  pub old_entry : (d : A) (i : ℕ) → i < length xs → get_or (xs ++ map g C) i d ≡ get_or xs i d
  old_entry d i l = get_or-append xs (map g C) d i l

  pub new_entry : (d : A) {c : ℕ} → Memᴰ c C → get_or (xs ++ map g C) (renumbered C (length xs) c) d ≡ g c
  new_entry d {c} m =
      let p = place_in C (length xs) m in
      ap (λ (k : ℕ). get_or (xs ++ map g C) k d) (number_at C (length xs) c p.0 p.1)
      ∙ get_or-append-add xs (map g C) p.0 d
      ∙ get_d_map g C p.0 d p.2
      ∙ ap g p.3

  pub table_length_lem : length (xs ++ map g C) ≡ length xs + length C
  table_length_lem = simp (length-append, length-map)

  -- none of the new entries passes
  pub numbers_old : (p : A → Bool) → ((c : ℕ) → Memᴰ c C → p (g c) ≡ false) → numbers_where p (xs ++ map g C) ≡ numbers_where p xs
  numbers_old p h = numbers_before p xs (map g C) (λ y m. let w = Memᴰ.of_map g C m in ap p (sym w.2) ∙ h w.0 w.1)

  -- none of the old ones does
  pub numbers_new : Distinct C → (p : A → Bool) → ((x : A) → Memᴰ x xs → p x ≡ false)
      → numbers_where p (xs ++ map g C) ≡ map (renumbered C (length xs)) (filter (λ (c : ℕ). p (g c)) C)
  unfolding numbers_where
  numbers_new d p h =
      numbers_from_append 0 p xs (map g C)
      ∙ ap₂ ◌++◌ (numbers_from_none 0 p xs h) refl
      ∙ ap (λ (k : ℕ). numbers_from k p (map g C)) (omega arith)
      ∙ numbers_copied p g C (length xs) d

-- a list's own new numbers are the next ones, one after the other
pub consecutive : (C : List ℕ) (next : ℕ) → Distinct C → (i : ℕ) → i < length (map (renumbered C next) C) → get_or (map (renumbered C next) C) i 0 ≡ next + i
consecutive C next d i l =
    let h : i < length C = simp length-map at l in
    get_d_map (renumbered C next) C i 0 h ∙ number_at C next (get_or C i 0) i (position_at C d i h)
