-- The order of marks, kept by every call: numbers from 1 to 8, none twice, and the younger a mark, the fewer replacements since. Assumes
-- nothing.
use Prim.Native.Nat.{ℕ, ◌+◌, ◌-◌, ◌<◌, ◌≤◌}
use native.Mathlib.Omega.{arith}
use mathlib.Core.Bool.{Bool, true, false, cond, not, ◌||◌}
use mathlib.Core.List.{List, [], ◌∷◌, ◌++◌, Memᴰ}
use mathlib.Core.Path.{◌≡◌, refl, sym, ap, subst, ◌∙◌}
use borrow.Author.Tests.{leb-true, le-leb, ltb-true, not-true}
use lib.Dec.{eqb, ltb}
use Rattle.rules.specs.Store.{Store}
use Rattle.rules.specs.Marks.{Mark, MarkedStore, MarkedCall, build, set_mark, go_back, copy, is_mark, has_number, is_set, replaces, max_remembered, remembered, can_remember, marked_tests, with_since, recounted, replaced_once, without, up_to, mark_or, new_mark, gone_back, marked_applied, marked, marks_hold}
use Rattle.rules.proofs.Basics.Tests.{passed, every_of, or_false_left, or_false_right, differ_back}
use Rattle.rules.proofs.Soundness.Accepted.{AllPassed}
use Rattle.rules.proofs.Marks.Accepted.{marked_cases, build_passed}
use Rattle.rules.proofs.Marks.Lists.{cut, set_recounted, unset_without, unset_itself, unset_append, unset_up_to}

-- what `marks_hold` says
abbrev pub Ordered : ℕ → List Mark → Type 0
Ordered most [] = Unit {0}
Ordered most (m ∷ ms) = (is_mark m.number ≡ true) × (is_set m.number ms ≡ false) × (m.since ≤ most) × Ordered m.since ms

pub ordered : (most : ℕ) (ms : List Mark) → marks_hold most ms ≡ true → Ordered most ms
unfolding marks_hold
ordered most [] h = tt
ordered most (m ∷ ms) h =
    let p = passed _ h in
    (p.0, not-true _ p.1.0, leb-true m.since most p.1.1.0, ordered m.since ms p.1.1.1.0)

pub marks_hold_lem : (most : ℕ) (ms : List Mark) → Ordered most ms → marks_hold most ms ≡ true
unfolding marks_hold
marks_hold_lem most [] p = refl
marks_hold_lem most (m ∷ ms) p = every_of _ (p.0, (ap not p.1, (le-leb m.since most p.2, (marks_hold_lem m.since ms p.3, tt))))

pub is_mark_lem : {m : Mark} (most : ℕ) (ms : List Mark) → Ordered most ms → Memᴰ m ms → is_mark m.number ≡ true
is_mark_lem most ms p (Memᴰ.head {x = y} {xs = ys} e) = subst (λ (o : Mark). is_mark o.number ≡ true) (sym e) p.0
is_mark_lem most ms p (Memᴰ.tail {x = y} {xs = ys} i) = is_mark_lem y.since ys p.3 i

-- the bound bears on the oldest alone
rebound : (most other : ℕ) (ms : List Mark) → remembered ms ≤ other → Ordered most ms → Ordered other ms
unfolding remembered
rebound most other [] l p = tt
rebound most other (m ∷ ms) l p = (p.0, p.1, l, p.3)

bounded : (most : ℕ) (ms : List Mark) → Ordered most ms → remembered ms ≤ most
unfolding remembered
bounded most [] p = omega arith
bounded most (m ∷ ms) p = p.2

-- ---- what is kept

recounted_ordered : (f : ℕ → ℕ) → ((a b : ℕ) → a ≤ b → f a ≤ f b) → (most : ℕ) (ms : List Mark) → Ordered most ms → Ordered (f most) (recounted f ms)
unfolding recounted with_since
recounted_ordered f rises most [] p = tt
recounted_ordered f rises most (m ∷ ms) p =
    (p.0, set_recounted f m.number ms ∙ p.1, rises m.since most p.2, recounted_ordered f rises m.since ms p.3)

without_ordered : (k most : ℕ) (ms : List Mark) → Ordered most ms → Ordered most (without k ms)
unfolding without
without_ordered k most [] p = tt
without_ordered k most (m ∷ ms) p = go (has_number k m) (without_ordered k m.since ms p.3)
  where
    go : (b : Bool) → Ordered m.since (without k ms) → Ordered most (cond (not b) (m ∷ without k ms) (without k ms))
    go true r = let l = bounded m.since (without k ms) r in let h : m.since ≤ most = p.2 in rebound m.since most (without k ms) (omega arith) r
    go false r = (p.0, unset_without m.number k ms p.1, p.2, r)

up_to_ordered : (k most : ℕ) (ms : List Mark) → Ordered most ms → Ordered most (up_to k ms)
unfolding up_to is_set
up_to_ordered k most [] p = tt
up_to_ordered k most (m ∷ ms) p =
    cut (λ (l : List Mark). Ordered most (m ∷ l)) (has_number k m) (up_to k ms) (p.0, refl, p.2, tt)
    (p.0, unset_up_to m.number k ms p.1, p.2, up_to_ordered k m.since ms p.3)

-- a mark that was not set, at the end
new_ordered : (k : ℕ) (s : Store) → is_mark k ≡ true → (most : ℕ) (ms : List Mark) → is_set k ms ≡ false → Ordered most ms → Ordered most (ms ++ (new_mark k s ∷ []))
unfolding new_mark is_set has_number
new_ordered k s h most [] u p = (h, refl, omega arith, tt)
new_ordered k s h most (m ∷ ms) u p = (
  p.0,
  unset_append m.number ms (new_mark k s) p.1 (differ_back m.number k (or_false_left (eqb m.number k) (is_set k ms) u)),
  p.2,
  new_ordered k s h m.since ms (or_false_right (eqb m.number k) (is_set k ms) u) p.3,
)

-- ---- a call

-- a replacement was counted only where there was room
replaced_ordered : (r : Bool) (ms : List Mark) → (not r || ltb (remembered ms) max_remembered) ≡ true → Ordered max_remembered ms → Ordered max_remembered (replaced_once r ms)
unfolding replaced_once recounted with_since remembered
replaced_ordered false ms h p = recounted_ordered (λ (n : ℕ). n) (λ a b l. l) max_remembered ms p
replaced_ordered true [] h p = tt
replaced_ordered true (m ∷ ms) h p =
    let l : m.since < max_remembered = ltb-true m.since max_remembered h in
    rebound (max_remembered + 1) max_remembered (recounted (λ (n : ℕ). n + 1) (m ∷ ms)) (omega arith) (recounted_ordered (λ (n : ℕ). n + 1) (λ a b l. omega arith) max_remembered (m ∷ ms) p)

back_ordered : (t : MarkedStore) (m : Mark) → Ordered max_remembered t.marks → Ordered max_remembered (gone_back m t).marks
unfolding gone_back
back_ordered t m p =
    let older = up_to m.number t.marks in
    let fewer : ℕ → ℕ = λ n. n - m.since in
    let q = recounted_ordered fewer (λ a b l. omega arith) max_remembered older (up_to_ordered m.number max_remembered t.marks p) in
    rebound (fewer max_remembered) max_remembered (recounted fewer older) (omega (arith, bounded (fewer max_remembered) (recounted fewer older) q)) q

pub marked_ordered : (t : MarkedStore) (c : MarkedCall) → Ordered max_remembered t.marks → Ordered max_remembered (marked t c).marks
unfolding marked_tests marked_applied can_remember
marked_ordered t c p = marked_cases (λ (u : MarkedStore). Ordered max_remembered u.marks) t c p (applied_ordered c)
  where
    applied_ordered : (d : MarkedCall) → AllPassed (marked_tests t d) → Ordered max_remembered (marked_applied t d).marks
    applied_ordered (build b) q = replaced_ordered (replaces t.store b) t.marks (build_passed t b q).1 p
    applied_ordered (set_mark k) q = new_ordered k t.store q.0 max_remembered (without k t.marks) (unset_itself k t.marks) (without_ordered k max_remembered t.marks p)
    applied_ordered (go_back k) q = back_ordered t (mark_or (new_mark k t.store) k t.marks) p
    applied_ordered (copy ok n place) q = p
