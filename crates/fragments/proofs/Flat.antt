-- A list of rows, row by row: what the rules say of it, by its rows' old and present types. Assumes nothing.
use Prim.Native.Nat.{ℕ, zero, suc, ◌+◌, ◌*◌, ◌%◌, ◌<◌, ◌≤◌}
use native.Mathlib.Decide.{ℕ_discrete}
use native.Mathlib.Omega.{arith}
use mathlib.Core.Bool.{Bool, true, false, cond, not, ◌&&◌, ◌||◌}
use mathlib.Core.List.{List, [], ◌∷◌}
use mathlib.Core.Logic.{◌≢◌}
use mathlib.Core.Path.{◌≡◌, refl, sym, ap, ap₂, subst, ◌∙◌}
use borrow.Author.Tests.{eq-eqb, ne_eqb}
use lib.Dec.{eqb}
use lib.ListN.{length, get_or, drop}
use lib.Seq.{drop-cons, drop-length}
use Rattle.std.specs.List.{list_all, list_any}
use Rattle.rules.specs.Types.{whole_rows, old_types, present_types, stands_in, each_once, present}
use Rattle.rules.proofs.Basics.Tests.{and_both, or_right}
use Rattle.layout.proofs.Scans.{and_false}
use Rattle.fragments.specs.Index.{rows_in, old_at, now_at}

-- k rows from row i on, and one column of them
abbrev pub rows_by : (ℕ → ℕ) → (ℕ → ℕ) → ℕ → ℕ → List ℕ
rows_by f g i zero = []
rows_by f g i (suc k) = f i ∷ g i ∷ rows_by f g (suc i) k

abbrev pub run : (ℕ → ℕ) → ℕ → ℕ → List ℕ
run f i zero = []
run f i (suc k) = f i ∷ run f (suc i) k

-- it holds of each of k rows from row i on
abbrev pub Each : ℕ → ℕ → (ℕ → Type 0) → Type 0
Each i k P = (j : ℕ) → i ≤ j → j < i + k → P j

each_next : (i k : ℕ) (P : ℕ → Type 0) → Each i (suc k) P → Each (suc i) k P
each_next i k P h j l m = h j (omega arith) (omega arith)

each_first : (i k : ℕ) (P : ℕ → Type 0) → Each i (suc k) P → P i
each_first i k P h = h i (omega arith) (omega arith)

-- ---- columns

pub run_length : (f : ℕ → ℕ) (i k : ℕ) → length (run f i k) ≡ k
run_length f i zero = refl
run_length f i (suc k) = ap suc (run_length f (suc i) k)

module _ (p : ℕ → Bool) (f : ℕ → ℕ) where
  pub run_all : (i k : ℕ) → Each i k (λ j. p (f j) ≡ true) → list_all p (run f i k) ≡ true
  run_all i zero h = refl
  run_all i (suc k) h = and_both (p (f i)) _ (each_first i k _ h) (run_all (suc i) k (each_next i k _ h))

  pub run_fails : (i k j : ℕ) → i ≤ j → j < i + k → p (f j) ≡ false → list_all p (run f i k) ≡ false
  run_fails i zero j l m q = absurd (let x : ⊥ = omega arith in x)
  run_fails i (suc k) j l m q = by (ℕ_discrete j i) (λ ne. run_fails (suc i) k j (omega arith) (omega arith) q)
    where
      by : Dec (j ≡ i) → (j ≢ i → list_all p (run f (suc i) k) ≡ false) → (p (f i) && list_all p (run f (suc i) k)) ≡ false
      by (yes e) rest = ap (λ (b : Bool). b && list_all p (run f (suc i) k)) (subst (λ (x : ℕ). p (f x) ≡ false) e q)
      by (no ne) rest = and_false (p (f i)) _ (rest ne)

module _ (f : ℕ → ℕ) where
  pub stands_none : (t i k : ℕ) → Each i k (λ j. f j ≢ t) → stands_in (run f i k) t ≡ false
  unfolding stands_in
  stands_none t i zero h = refl
  stands_none t i (suc k) h = ap₂ ◌||◌ (ne_eqb t (f i) (λ e. each_first i k _ h (sym e))) (stands_none t (suc i) k (each_next i k _ h))

  pub stands_one : (t i k j : ℕ) → i ≤ j → j < i + k → f j ≡ t → stands_in (run f i k) t ≡ true
  unfolding stands_in
  stands_one t i zero j l m q = absurd (let x : ⊥ = omega arith in x)
  stands_one t i (suc k) j l m q = by (ℕ_discrete j i) (λ ne. stands_one t (suc i) k j (omega arith) (omega arith) q)
    where
      by : Dec (j ≡ i) → (j ≢ i → list_any (eqb t) (run f (suc i) k) ≡ true) → (eqb t (f i) || list_any (eqb t) (run f (suc i) k)) ≡ true
      by (yes e) rest = ap (λ (b : Bool). b || list_any (eqb t) (run f (suc i) k)) (eq-eqb t (f i) (sym (subst (λ (x : ℕ). f x ≡ t) e q)))
      by (no ne) rest = or_right (eqb t (f i)) _ (rest ne)

  pub once : (i k : ℕ) → ((a b : ℕ) → i ≤ a → a < b → b < i + k → f a ≢ f b) → each_once (run f i k) ≡ true
  unfolding each_once
  once i zero h = refl
  once i (suc k) h =
      and_both (not (stands_in (run f (suc i) k) (f i))) _ (ap not (stands_none (f i) (suc i) k (λ j l m q. h i j (omega arith) (omega arith) (omega arith) (sym q))))
      (once (suc i) k (λ a b l m n. h a b (omega arith) m (omega arith)))

  pub twice : (i k a b : ℕ) → i ≤ a → a < b → b < i + k → f a ≡ f b → each_once (run f i k) ≡ false
  unfolding each_once
  twice i zero a b l m n q = absurd (let x : ⊥ = omega arith in x)
  twice i (suc k) a b l m n q = by (ℕ_discrete a i) (λ ne. twice (suc i) k a b (omega arith) m (omega arith) q)
    where
      by : Dec (a ≡ i) → (a ≢ i → each_once (run f (suc i) k) ≡ false) → (not (stands_in (run f (suc i) k) (f i)) && each_once (run f (suc i) k)) ≡ false
      by (yes e) rest =
          ap (λ (s : Bool). not s && each_once (run f (suc i) k)) (stands_one (f i) (suc i) k b (omega arith) (omega arith) (sym (subst (λ (x : ℕ). f x ≡ f b) e q)))
      by (no ne) rest = and_false (not (stands_in (run f (suc i) k) (f i))) _ (rest ne)

-- ---- rows

module _ (f g : ℕ → ℕ) where
  pub rows_whole : (i k : ℕ) → whole_rows (rows_by f g i k) ≡ true
  unfolding whole_rows
  rows_whole i zero = refl
  rows_whole i (suc k) = rows_whole (suc i) k

  pub rows_old : (i k : ℕ) → old_types (rows_by f g i k) ≡ run f i k
  unfolding old_types
  rows_old i zero = refl
  rows_old i (suc k) = ap (λ (l : List ℕ). f i ∷ l) (rows_old (suc i) k)

  pub rows_present : (i k : ℕ) → present_types (rows_by f g i k) ≡ run g i k
  unfolding present_types
  rows_present i zero = refl
  rows_present i (suc k) = ap (λ (l : List ℕ). g i ∷ l) (rows_present (suc i) k)

  -- a type without a row
  pub present_none : (t i k : ℕ) → Each i k (λ j. f j ≢ t) → present (rows_by f g i k) t ≡ t
  unfolding present
  present_none t i zero h = refl
  present_none t i (suc k) h =
      ap (λ (b : Bool). cond b (g i) (present (rows_by f g (suc i) k) t)) (ne_eqb (f i) t (each_first i k _ h)) ∙ present_none t (suc i) k (each_next i k _ h)

  -- a type whose first row is j
  pub present_at : (t i k j : ℕ) → i ≤ j → j < i + k → f j ≡ t → ((a : ℕ) → a < j → f a ≢ t) → present (rows_by f g i k) t ≡ g j
  unfolding present
  present_at t i zero j l m q h = absurd (let x : ⊥ = omega arith in x)
  present_at t i (suc k) j l m q h = by (ℕ_discrete j i) (λ ne. present_at t (suc i) k j (omega arith) (omega arith) q h)
    where
      by : Dec (j ≡ i) → (j ≢ i → present (rows_by f g (suc i) k) t ≡ g j) → cond (eqb (f i) t) (g i) (present (rows_by f g (suc i) k) t) ≡ g j
      by (yes e) rest =
          ap (λ (b : Bool). cond b (g i) (present (rows_by f g (suc i) k) t)) (eq-eqb (f i) t (subst (λ (x : ℕ). f x ≡ t) e q)) ∙ ap g (sym e)
      by (no ne) rest = ap (λ (b : Bool). cond b (g i) (present (rows_by f g (suc i) k) t)) (ne_eqb (f i) t (h i (omega arith))) ∙ rest ne

pub rows_same : (f g f' g' : ℕ → ℕ) (i k : ℕ) → Each i k (λ j. f j ≡ f' j) → Each i k (λ j. g j ≡ g' j) → rows_by f g i k ≡ rows_by f' g' i k
rows_same f g f' g' i zero p q = refl
rows_same f g f' g' i (suc k) p q =
    ap₂ (λ (x : ℕ) (l : List ℕ). x ∷ l) (each_first i k _ p)
    (ap₂ (λ (x : ℕ) (l : List ℕ). x ∷ l) (each_first i k _ q) (rows_same f g f' g' (suc i) k (each_next i k _ p) (each_next i k _ q)))

-- ---- lists of words

nothing_left_lem : (xs : List ℕ) (n : ℕ) → length xs ≡ n → drop n xs ≡ []
nothing_left_lem xs n e = ap (λ (m : ℕ). drop m xs) (sym e) ∙ drop-length xs

-- row i of a list of renamed types
pub two_words : (xs : List ℕ) (i : ℕ) → 2 * i + 1 < length xs → drop (2 * i) xs ≡ get_or xs (2 * i) 0 ∷ get_or xs (2 * i + 1) 0 ∷ drop (2 * suc i) xs
two_words xs i l =
    drop-cons xs (2 * i) 0 (omega arith)
    ∙ ap (λ (l : List ℕ). get_or xs (2 * i) 0 ∷ l)
    (drop-cons xs (suc (2 * i)) 0 (omega arith)
    ∙ ap₂ (λ (a b : ℕ). get_or xs a 0 ∷ drop b xs) (let q : suc (2 * i) ≡ 2 * i + 1 = omega arith in q) (let q : suc (suc (2 * i)) ≡ 2 * suc i = omega arith in q))

-- all its words
pub list_rows : (xs : List ℕ) (i k : ℕ) → length xs ≡ 2 * (i + k) → drop (2 * i) xs ≡ rows_by (λ j. get_or xs (2 * j) 0) (λ j. get_or xs (2 * j + 1) 0) i k
list_rows xs i zero e = nothing_left_lem xs (2 * i) (omega arith)
list_rows xs i (suc k) e =
    two_words xs i (omega arith) ∙ ap (λ (l : List ℕ). get_or xs (2 * i) 0 ∷ get_or xs (2 * i + 1) 0 ∷ l) (list_rows xs (suc i) k (omega arith))

-- the words of an index, behind its buckets
pub index_rows : (w : List ℕ) (i k : ℕ) → length w ≡ 64 + 3 * (i + k) → rows_in (drop (64 + 3 * i) w) ≡ rows_by (old_at w) (now_at w) i k
unfolding rows_in
index_rows w i zero e = ap rows_in (nothing_left_lem w (64 + 3 * i) (omega arith))
index_rows w i (suc k) e =
    ap rows_in three
    ∙ ap (λ (l : List ℕ). old_at w i ∷ now_at w i ∷ l) (index_rows w (suc i) k (omega arith))
  where
    at : (n m : ℕ) → m ≡ suc n → n < length w → drop n w ≡ get_or w n 0 ∷ drop m w
    at n m q l = drop-cons w n 0 l ∙ ap (λ (x : ℕ). get_or w n 0 ∷ drop x w) (sym q)

    three : drop (64 + 3 * i) w ≡ old_at w i ∷ now_at w i ∷ get_or w (66 + 3 * i) 0 ∷ drop (64 + 3 * suc i) w
    three =
        at (64 + 3 * i) (65 + 3 * i) (omega arith) (omega arith)
        ∙ ap (λ (l : List ℕ). old_at w i ∷ l)
        (at (65 + 3 * i) (66 + 3 * i) (omega arith) (omega arith)
        ∙ ap (λ (l : List ℕ). now_at w i ∷ l) (at (66 + 3 * i) (64 + 3 * suc i) (omega arith) (omega arith)))

-- a half row
pub half_row_lem : (xs : List ℕ) → (length xs % 2 ≡ 0 → ⊥) → whole_rows xs ≡ false
unfolding whole_rows
half_row_lem [] h = absurd (h refl)
half_row_lem (x ∷ []) h = refl
half_row_lem (x ∷ y ∷ xs) h = half_row_lem xs (λ e. h (omega arith))
