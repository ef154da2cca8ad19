-- A scan that tests entry by entry: what has passed so far, one entry more, and what the end of the scan says of the whole. Assumes nothing.
use Prim.Native.Nat.{ℕ, zero, suc, ◌+◌, ◌-◌, ◌<◌, ◌≤◌}
use native.Mathlib.Decide.{ℕ_discrete}
use native.Mathlib.Nat.{not-suc-le-zero}
use native.Mathlib.Omega.{arith}
use mathlib.Core.Bool.{Bool, true, false, ◌&&◌}
use mathlib.Core.List.{List, [], ◌∷◌}
use mathlib.Core.Path.{◌≡◌, refl, sym, ap, ap₂, subst, ◌∙◌}
use borrow.Author.Tests.{le-leb, lt-leb}
use lib.Dec.{eqb, leb}
use lib.ListN.{length, get_or, drop, length-drop}
use lib.Seq.{length-take-le, get_or-take, get_or-drop}
use Rattle.rules.specs.Lists.{every, all_below, same_list}
use Rattle.std.specs.List.{list_all}
use Rattle.rules.proofs.Basics.Tests.{and_both, all_at, all_below_at, all_below_of}
use Rattle.rules.proofs.Basics.Appended.{mem_get_d}
use Rattle.layout.specs.Columns.{Cols, at}
use Rattle.layout.specs.Reading.{slice}
use Rattle.layout.specs.Soundness.{owned, end_before}

-- the test passes at each number below i
abbrev pub Before : (ℕ → Bool) → ℕ → Type 0
Before p i = (k : ℕ) → k < i → p k ≡ true

pub before_zero : (p : ℕ → Bool) → Before p 0
before_zero p k h = absurd (not-suc-le-zero h)

pub before_next : (p : ℕ → Bool) (i : ℕ) → Before p i → p i ≡ true → Before p (i + 1)
before_next p i b h k l = go (ℕ_discrete k i)
  where
    go : Dec (k ≡ i) → p k ≡ true
    go (yes e) = subst (λ (j : ℕ). p j ≡ true) (sym e) h
    go (no ne) = b k (omega arith)

pub and_false : (a b : Bool) → b ≡ false → (a && b) ≡ false
and_false true b h = h
and_false false b h = refl

-- ---- numbers

pub below_all : (p : ℕ → Bool) (n i : ℕ) → n ≤ i → Before p i → all_below n p ≡ true
below_all p n i l b = all_below_of n p (λ k h. b k (omega arith))

pub below_fails : (p : ℕ → Bool) (n i : ℕ) → i < n → p i ≡ false → all_below n p ≡ false
unfolding all_below
below_fails p zero i l h = absurd (not-suc-le-zero l)
below_fails p (suc n) i l h = go (ℕ_discrete i n) (λ l'. below_fails p n i l' h)
  where
    go : Dec (i ≡ n) → (i < n → all_below n p ≡ false) → (p n && all_below n p) ≡ false
    go (yes e) rest = ap (λ (b : Bool). b && all_below n p) (subst (λ (j : ℕ). p j ≡ false) e h)
    go (no ne) rest = and_false (p n) (all_below n p) (rest (omega arith))

-- a scan has come to i: it tests each of `count` numbers, which the code has as `total`
pub record Scanned (p : ℕ → Bool) (count total i : ℕ) : Type 0 where
  pub counted : total ≡ count
  pub low : i ≤ total
  pub passed : Before p i

pub scan_starts : (p : ℕ → Bool) (count total : ℕ) → total ≡ count → Scanned p count total 0
scan_starts p count total e = record { counted = e; low = omega arith; passed = before_zero p }

module _ {p : ℕ → Bool} {count total i : ℕ} (g : Scanned p count total i) where
  pub scan_on : i < total → p i ≡ true → Scanned p count total (i + 1)
  scan_on l h = record { counted = g.counted; low = omega arith; passed = before_next p i g.passed h }

  pub scan_fails : i < total → p i ≡ false → false ≡ all_below count p
  scan_fails l h = sym (below_fails p count i (omega (arith, g.counted)) h)

  pub scan_done : total ≤ i → true ≡ all_below count p
  scan_done l = sym (below_all p count i (omega (arith, g.counted)) g.passed)

pub below_cong : (n : ℕ) (p q : ℕ → Bool) → ((i : ℕ) → i < n → p i ≡ q i) → all_below n p ≡ all_below n q
unfolding all_below
below_cong zero p q same = refl
below_cong (suc n) p q same = ap₂ ◌&&◌ (same n (omega arith)) (below_cong n p q (λ i l. same i (omega arith)))

-- ---- entries of a list

abbrev pub passes_at : (ℕ → Bool) → List ℕ → ℕ → Bool
passes_at p xs k = p (get_or xs k 0)

pub all_passes : (p : ℕ → Bool) (xs : List ℕ) → Before (passes_at p xs) (length xs) → list_all p xs ≡ true
all_passes p [] b = refl
all_passes p (x ∷ xs) b = and_both (p x) (list_all p xs) (b 0 (omega arith)) (all_passes p xs (λ k h. b (suc k) (omega arith)))

-- ---- lists of tests

pub stop : (t : Bool) (ts : List Bool) → t ≡ false → every (t ∷ ts) ≡ false
unfolding every
stop t ts h = ap (λ (b : Bool). b && every ts) h

pub next : (t : Bool) (ts : List Bool) {r : Bool} → t ≡ true → every ts ≡ r → every (t ∷ ts) ≡ r
unfolding every
next t ts h e = ap (λ (b : Bool). b && every ts) h ∙ e

-- a number that was read, and compared with the most it may be
module _ {r n m : ℕ} (e : r ≡ n) where
  pub above : m < r → leb n m ≡ false
  above l = lt-leb n m (omega (arith, e))

  pub within : r ≤ m → leb n m ≡ true
  within l = le-leb n m (omega (arith, e))

-- one that fails is enough
pub fails : (ts : List Bool) (i : ℕ) → get_or ts i true ≡ false → every ts ≡ false
unfolding every
fails [] zero h = h
fails [] (suc i) h = h
fails (t ∷ ts) zero h = stop t ts h
fails (t ∷ ts) (suc i) h = and_false t (every ts) (fails ts i h)

pub last : (t : Bool) {r : Bool} → t ≡ r → every (t ∷ []) ≡ r
unfolding every
last true e = e
last false e = e

-- ---- a slice of a list, entry by entry

-- two tests that pass together are the same
pub same_tests : (a b : Bool) → (a ≡ true → b ≡ true) → (b ≡ true → a ≡ true) → a ≡ b
same_tests true true f g = refl
same_tests true false f g = sym (f refl)
same_tests false true f g = g refl
same_tests false false f g = refl

pub all_below_lem : (p : ℕ → Bool) (xs : List ℕ) → list_all p xs ≡ all_below (length xs) (passes_at p xs)
all_below_lem p xs =
    same_tests (list_all p xs) (all_below (length xs) (passes_at p xs))
    (λ h. all_below_of (length xs) (passes_at p xs) (λ i l. all_at p xs h (mem_get_d xs i 0 l)))
    (λ h. all_passes p xs (all_below_at (length xs) (passes_at p xs) h))

-- a scan of the entries of a list
module _ (p : ℕ → Bool) (xs : List ℕ) {i : ℕ} (g : Scanned (passes_at p xs) (length xs) (length xs) i) where
  pub entry_fails : i < length xs → passes_at p xs i ≡ false → false ≡ list_all p xs
  entry_fails l h = scan_fails g l h ∙ sym (all_below_lem p xs)

  pub entries_done : length xs ≤ i → true ≡ list_all p xs
  entries_done l = scan_done g l ∙ sym (all_below_lem p xs)

pub slice_length : (xs : List ℕ) (a e : ℕ) → e ≤ length xs → length (slice xs a e) ≡ e - a
unfolding slice
slice_length xs a e h = length-take-le (e - a) (drop a xs) (omega (arith, length-drop a xs))

pub slice_at : (xs : List ℕ) (a e i : ℕ) → i < e - a → get_or (slice xs a e) i 0 ≡ get_or xs (a + i) 0
unfolding slice
slice_at xs a e i l = get_or-take (e - a) (drop a xs) i 0 l ∙ get_or-drop a xs i 0

-- the words of a column in a range are all w
pub owned_slice : (C : Cols) (k a e w : ℕ) → e ≤ length (C k) → list_all (λ (x : ℕ). eqb x w) (slice (C k) a e) ≡ owned C k a e w
unfolding owned at
owned_slice C k a e w h =
    all_below_lem (λ (x : ℕ). eqb x w) (slice (C k) a e)
    ∙ ap (λ (n : ℕ). all_below n (passes_at (λ (x : ℕ). eqb x w) (slice (C k) a e))) (slice_length (C k) a e h)
    ∙ below_cong (e - a) _ _ (λ i m. ap (λ (x : ℕ). eqb x w) (slice_at (C k) a e i m))

pub first_end_lem : (C : Cols) (k n : ℕ) → n ≡ 0 → 0 ≡ end_before C k n
unfolding end_before
first_end_lem C k zero h = refl
first_end_lem C k (suc n) h = absurd (let w : ⊥ = omega arith in w)

pub later_end : (C : Cols) (k n : ℕ) → (n ≡ 0 → ⊥) → at C k (n - 1) ≡ end_before C k n
unfolding end_before
later_end C k zero h = absurd (h refl)
later_end C k (suc n) h = ap (at C k) (let e : suc n - 1 ≡ n = omega arith in e)

-- ---- equal lists

pub same_length : (xs ys : List ℕ) → (length xs ≡ length ys → ⊥) → same_list eqb xs ys ≡ false
unfolding same_list
same_length [] [] ne = absurd (ne refl)
same_length [] (y ∷ ys) ne = refl
same_length (x ∷ xs) [] ne = refl
same_length (x ∷ xs) (y ∷ ys) ne = and_false (eqb x y) (same_list eqb xs ys) (same_length xs ys (λ e. ne (ap suc e)))
