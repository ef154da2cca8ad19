-- Lists of marks: which are set, counted anew, cut behind a mark, and the mark of a number. Assumes nothing.
use Prim.Native.Nat.{ℕ}
use mathlib.Core.Bool.{Bool, true, false, cond, not, ◌||◌}
use mathlib.Core.List.{List, [], ◌∷◌, ◌++◌, map-append}
use mathlib.Core.Path.{◌≡◌, refl, ap, ap₂, ◌∙◌}
use borrow.Author.Tests.{eqb-true}
use lib.Dec.{eqb}
use Rattle.std.specs.List.{list_all}
use Rattle.rules.specs.Marks.{Mark, has_number, is_set, with_since, recounted, without, up_to, mark_or}
use Rattle.rules.proofs.Basics.Tests.{and_left, and_right, and_both, or_false_left, or_false_right, or_neither, clash}
use Rattle.rules.proofs.Basics.Filtered.{any_append, none_kept, none_left}

-- what holds of no marks and of these holds wherever they are cut off or not
pub cut : (P : List Mark → Type 0) (b : Bool) (ms : List Mark) → P [] → P ms → P (cond b [] ms)
cut P true ms p q = p
cut P false ms p q = q

-- ---- what is set

pub set_recounted : (f : ℕ → ℕ) (k : ℕ) (ms : List Mark) → is_set k (recounted f ms) ≡ is_set k ms
unfolding is_set has_number recounted with_since
set_recounted f k [] = refl
set_recounted f k (m ∷ ms) = ap (λ (b : Bool). eqb m.number k || b) (set_recounted f k ms)

pub unset_without : (k j : ℕ) (ms : List Mark) → is_set k ms ≡ false → is_set k (without j ms) ≡ false
unfolding is_set without
unset_without k j ms h = none_kept (has_number k) (λ (m : Mark). not (has_number j m)) ms h

pub unset_itself : (k : ℕ) (ms : List Mark) → is_set k (without k ms) ≡ false
unfolding is_set without
unset_itself k ms = none_left (has_number k) ms

pub set_past : (k : ℕ) (xs ys : List Mark) → is_set k xs ≡ false → is_set k (xs ++ ys) ≡ is_set k ys
unfolding is_set
set_past k xs ys h = any_append (has_number k) xs ys ∙ rw h

pub unset_append : (k : ℕ) (ms : List Mark) (o : Mark) → is_set k ms ≡ false → has_number k o ≡ false → is_set k (ms ++ (o ∷ [])) ≡ false
unfolding is_set
unset_append k ms o h e = set_past k ms (o ∷ []) h ∙ or_neither (has_number k o) false e refl

pub unset_up_to : (k j : ℕ) (ms : List Mark) → is_set k ms ≡ false → is_set k (up_to j ms) ≡ false
unfolding is_set up_to
unset_up_to k j [] h = refl
unset_up_to k j (m ∷ ms) h =
    or_neither (has_number k m) _ (or_false_left (has_number k m) (is_set k ms) h)
    (cut (λ (l : List Mark). is_set k l ≡ false) (has_number j m) (up_to j ms) refl (unset_up_to k j ms (or_false_right (has_number k m) (is_set k ms) h)))

-- ---- marks counted anew

pub recounted_append : (f : ℕ → ℕ) (xs ys : List Mark) → recounted f (xs ++ ys) ≡ recounted f xs ++ recounted f ys
unfolding recounted
recounted_append f xs ys = map-append _ xs ys

pub recounted_twice : (f g h : ℕ → ℕ) → ((n : ℕ) → g (f n) ≡ h n) → (ms : List Mark) → recounted g (recounted f ms) ≡ recounted h ms
unfolding recounted with_since
recounted_twice f g h e [] = refl
recounted_twice f g h e (m ∷ ms) = ap₂ ◌∷◌ (ap (λ (n : ℕ). with_since n m) (e m.since)) (recounted_twice f g h e ms)

pub recounted_same : (f : ℕ → ℕ) → ((n : ℕ) → f n ≡ n) → (ms : List Mark) → recounted f ms ≡ ms
unfolding recounted with_since
recounted_same f e [] = refl
recounted_same f e (m ∷ ms) = ap₂ ◌∷◌ (ap (λ (n : ℕ). with_since n m) (e m.since)) (recounted_same f e ms)

pub without_recounted : (f : ℕ → ℕ) (j : ℕ) (ms : List Mark) → without j (recounted f ms) ≡ recounted f (without j ms)
unfolding without has_number recounted with_since
without_recounted f j [] = refl
without_recounted f j (m ∷ ms) = go (eqb m.number j) (without_recounted f j ms)
  where
    go : (b : Bool) → without j (recounted f ms) ≡ recounted f (without j ms)
        → cond (not b) (with_since (f m.since) m ∷ without j (recounted f ms)) (without j (recounted f ms)) ≡ recounted f (cond (not b) (m ∷ without j ms) (without j ms))
    go true e = e
    go false e = ap (λ (l : List Mark). with_since (f m.since) m ∷ l) e

-- a test of each mark that does not mind the new number, or goes with it
pub all_recounted : (p q : Mark → Bool) (f : ℕ → ℕ) → ((m : Mark) → p m ≡ true → q (with_since (f m.since) m) ≡ true) → (ms : List Mark) → list_all p ms ≡ true → list_all q (recounted f ms) ≡ true
unfolding recounted
all_recounted p q f keeps [] h = refl
all_recounted p q f keeps (m ∷ ms) h = and_both _ _ (keeps m (and_left (p m) (list_all p ms) h)) (all_recounted p q f keeps ms (and_right (p m) (list_all p ms) h))

-- ---- the mark of a number, among marks before and behind

pub up_to_past : (j : ℕ) (xs ys : List Mark) → is_set j xs ≡ false → up_to j (xs ++ ys) ≡ xs ++ up_to j ys
unfolding is_set up_to
up_to_past j [] ys h = refl
up_to_past j (x ∷ xs) ys h = rw (or_false_left (has_number j x) (is_set j xs) h) (ap (λ (l : List Mark). x ∷ l) (up_to_past j xs ys (or_false_right (has_number j x) (is_set j xs) h)))

pub up_to_within : (j : ℕ) (xs ys : List Mark) → is_set j xs ≡ true → up_to j (xs ++ ys) ≡ up_to j xs
unfolding is_set up_to
up_to_within j [] ys h = clash h refl
up_to_within j (x ∷ xs) ys h = ap (λ (l : List Mark). x ∷ l) (go (has_number j x) h (λ k. up_to_within j xs ys k))
  where
    go : (b : Bool) → (b || is_set j xs) ≡ true → (is_set j xs ≡ true → up_to j (xs ++ ys) ≡ up_to j xs) → cond b [] (up_to j (xs ++ ys)) ≡ cond b [] (up_to j xs)
    go true e r = refl
    go false e r = r e

pub mark_or_past : (other : Mark) (j : ℕ) (xs ys : List Mark) → is_set j xs ≡ false → mark_or other j (xs ++ ys) ≡ mark_or other j ys
unfolding is_set mark_or
mark_or_past other j [] ys h = refl
mark_or_past other j (x ∷ xs) ys h = rw (or_false_left (has_number j x) (is_set j xs) h) (mark_or_past other j xs ys (or_false_right (has_number j x) (is_set j xs) h))

pub mark_or_number : (other : Mark) (j : ℕ) → other.number ≡ j → (ms : List Mark) → (mark_or other j ms).number ≡ j
unfolding mark_or has_number
mark_or_number other j e [] = e
mark_or_number other j e (m ∷ ms) = go (eqb m.number j) refl (mark_or_number other j e ms)
  where
    go : (b : Bool) → eqb m.number j ≡ b → (mark_or other j ms).number ≡ j → (cond b m (mark_or other j ms)).number ≡ j
    go true f r = eqb-true m.number j f
    go false f r = r

-- what passes of each mark, of the one that is found too
pub mark_or_all : (p : Mark → Bool) (other : Mark) (j : ℕ) (ms : List Mark) → is_set j ms ≡ true → list_all p ms ≡ true → p (mark_or other j ms) ≡ true
unfolding is_set mark_or
mark_or_all p other j [] h a = clash h refl
mark_or_all p other j (m ∷ ms) h a = go (has_number j m) h (λ k. mark_or_all p other j ms k (and_right (p m) (list_all p ms) a))
  where
    go : (b : Bool) → (b || is_set j ms) ≡ true → (is_set j ms ≡ true → p (mark_or other j ms) ≡ true) → p (cond b m (mark_or other j ms)) ≡ true
    go true e r = and_left (p m) (list_all p ms) a
    go false e r = r e

pub all_up_to : (p : Mark → Bool) (j : ℕ) (ms : List Mark) → list_all p ms ≡ true → list_all p (up_to j ms) ≡ true
unfolding up_to
all_up_to p j [] h = refl
all_up_to p j (m ∷ ms) h =
    and_both (p m) _ (and_left (p m) (list_all p ms) h)
    (cut (λ (l : List Mark). list_all p l ≡ true) (has_number j m) (up_to j ms) refl (all_up_to p j ms (and_right (p m) (list_all p ms) h)))
