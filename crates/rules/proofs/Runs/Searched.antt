-- What the search for repeated runs finds: the smallest right start, and of it the smallest left. Assumes nothing.
use Prim.Native.Nat.{ℕ, zero, suc, ◌+◌, ◌<◌, ◌≤◌}
use native.Mathlib.Omega.{arith}
use native.Mathlib.Decide.{ℕ_discrete}
use mathlib.Core.Bool.{Bool, true, false}
use mathlib.Core.Logic.{◌⊎◌, inl, inr}
use Rattle.std.specs.Prelude.{Option, None, Some}
use mathlib.Core.Path.{◌≡◌, refl, sym, ap, subst, ◌∙◌}
use borrow.Author.Tests.{ltb-true, ltb-false}
use lib.Dec.{ltb}
use lib.ListN.{length}
use Rattle.rules.specs.Store.{Store, ops_of}
use Rattle.rules.specs.declared.types.Ignore.{Ignore}
use Rattle.rules.specs.Runs.{Run, first_of, left_start, or_later, first_run, same_runs, repeated}
use Rattle.rules.specs.RunLaws.{Apart, Same, Before, RepeatedFound, RepeatedNone}
use Rattle.rules.proofs.Basics.Tests.{decided, clash, impossible}

pub below_or : (a b : ℕ) → (a < b) ⊎ (b ≤ a)
below_or a b = go (decided (ltb a b))
  where
    go : (ltb a b ≡ true) ⊎ (ltb a b ≡ false) → (a < b) ⊎ (b ≤ a)
    go (inl e) = inl (ltb-true a b e)
    go (inr e) = inr (ltb-false a b e)

-- ---- the first that passes

pub record First (k i : ℕ) (p : ℕ → Bool) (v : ℕ) : Type 0 where
  pub low : i ≤ v
  pub high : v < i + k
  pub passes : p v ≡ true
  pub fails : (u : ℕ) → i ≤ u → u < v → p u ≡ false

-- none of them passes
abbrev pub AllFail : ℕ → ℕ → (ℕ → Bool) → Type 0
AllFail k i p = (u : ℕ) → i ≤ u → u < i + k → p u ≡ false

-- a number is i, or passed in the rest
module _ (i : ℕ) (p : ℕ → Bool) (e : p i ≡ false) where
  from_next : (u : ℕ) → i ≤ u → (suc i ≤ u → p u ≡ false) → p u ≡ false
  from_next u l h = go (ℕ_discrete i u)
    where
      go : Dec (i ≡ u) → p u ≡ false
      go (yes x) = subst (λ (w : ℕ). p w ≡ false) x e
      go (no x) = h (omega arith)

some_is : {i v : ℕ} → Some i ≡ Some v → i ≡ v
some_is e = cc

run_is : {r q : Run} → Some r ≡ Some q → r ≡ q
run_is {r} {q} e = cc

pub first_found : (k i : ℕ) (p : ℕ → Bool) (v : ℕ) → first_of k i p ≡ Some v → First k i p v
unfolding first_of
first_found zero i p v h = impossible cc
first_found (suc k) i p v h = go (decided (p i)) (first_found k (suc i) p v)
  where
    go : (p i ≡ true) ⊎ (p i ≡ false) → (first_of k (suc i) p ≡ Some v → First k (suc i) p v) → First (suc k) i p v
    go (inl e) rest =
        let same : i ≡ v = some_is (rw e at h) in
        record { low = omega arith; high = omega arith; passes = subst (λ (w : ℕ). p w ≡ true) same e; fails = λ u l m. absurd (omega arith) }
    go (inr e) rest =
        let f = rest (rw e at h) in
        let low : suc i ≤ v = f.low in
        let high : v < suc i + k = f.high in
        record { low = omega arith; high = omega arith; passes = f.passes; fails = λ u l m. from_next i p e u l (λ n. f.fails u n m) }

pub first_none : (k i : ℕ) (p : ℕ → Bool) → first_of k i p ≡ None → AllFail k i p
unfolding first_of
first_none zero i p h = λ u l m. absurd (omega arith)
first_none (suc k) i p h = go (decided (p i)) (first_none k (suc i) p)
  where
    go : (p i ≡ true) ⊎ (p i ≡ false) → (first_of k (suc i) p ≡ None → AllFail k (suc i) p) → AllFail (suc k) i p
    go (inl e) rest u l m = impossible (let c : Some i ≡ None = rw e at h in cc)
    go (inr e) rest u l m = from_next i p e u l (λ n. rest (rw e at h) u n (omega arith))

-- ---- the first right start that has a left one

record FirstRun (k j : ℕ) (lefts : ℕ → Option ℕ) (r : Run) : Type 0 where
  low : j ≤ r.right
  high : r.right < j + k
  has : lefts r.right ≡ Some r.left
  fails : (q : ℕ) → j ≤ q → q < r.right → lefts q ≡ None

abbrev NoneHas : ℕ → ℕ → (ℕ → Option ℕ) → Type 0
NoneHas k j lefts = (q : ℕ) → j ≤ q → q < j + k → lefts q ≡ None

module _ (j : ℕ) (lefts : ℕ → Option ℕ) (e : lefts j ≡ None) where
  later_too : (q : ℕ) → j ≤ q → (suc j ≤ q → lefts q ≡ None) → lefts q ≡ None
  later_too q l h = go (ℕ_discrete j q)
    where
      go : Dec (j ≡ q) → lefts q ≡ None
      go (yes x) = subst (λ (w : ℕ). lefts w ≡ None) x e
      go (no x) = h (omega arith)

run_found_lem : (k j : ℕ) (lefts : ℕ → Option ℕ) (r : Run) → first_run k j lefts ≡ Some r → FirstRun k j lefts r
unfolding first_run or_later
run_found_lem zero j lefts r h = impossible cc
run_found_lem (suc k) j lefts r h = go (lefts j) refl (run_found_lem k (suc j) lefts r) h
  where
    go : (o : Option ℕ) → lefts j ≡ o → (first_run k (suc j) lefts ≡ Some r → FirstRun k (suc j) lefts r)
        → or_later o j (first_run k (suc j) lefts) ≡ Some r → FirstRun (suc k) j lefts r
    go None e rest g =
        let f = rest g in
        let low : suc j ≤ r.right = f.low in
        let high : r.right < suc j + k = f.high in
        record { low = omega arith; high = omega arith; has = f.has; fails = λ q l m. later_too j lefts e q l (λ n. f.fails q n m) }
    go (Some i) e rest g =
        let right : j ≡ r.right = ap (λ (x : Run). x.right) (run_is g) in
        let left : i ≡ r.left = ap (λ (x : Run). x.left) (run_is g) in
        record {
          low = omega arith;
          high = omega arith;
          has = subst (λ (w : ℕ). lefts w ≡ Some r.left) right (e ∙ ap {B = Option ℕ} Some left);
          fails = λ q l m. absurd (omega arith);
        }

run_none : (k j : ℕ) (lefts : ℕ → Option ℕ) → first_run k j lefts ≡ None → NoneHas k j lefts
unfolding first_run or_later
run_none zero j lefts h = λ q l m. absurd (omega arith)
run_none (suc k) j lefts h = go (lefts j) refl (run_none k (suc j) lefts) h
  where
    go : (o : Option ℕ) → lefts j ≡ o → (first_run k (suc j) lefts ≡ None → NoneHas k (suc j) lefts)
        → or_later o j (first_run k (suc j) lefts) ≡ None → NoneHas (suc k) j lefts
    go None e rest g q l m = later_too j lefts e q l (λ n. rest g q n (omega arith))
    go (Some i) e rest g q l m = impossible cc

-- ---- the two together

module _ (s : Store) (ig : Ignore) (b n : ℕ) where
  abbrev many : ℕ
  many = length (ops_of s b)

  -- no left start for this right one: no run before it is the same
  none_left : (j : ℕ) → left_start s ig b n j ≡ None → (i : ℕ) → i + n ≤ j → same_runs s ig b n i j ≡ false
  unfolding left_start
  none_left j e i l = first_none _ 0 (λ (u : ℕ). same_runs s ig b n u j) e i (omega arith) (omega arith)

  none_found : repeated s ig b n ≡ None → (r : Run) → Apart s b n r → Same s ig b n r → ⊥
  unfolding repeated Apart Same
  none_found e r (l, m) h =
      let no = run_none _ 0 (left_start s ig b n) e r.right (omega arith) (omega arith) in
      clash h (none_left r.right no r.left l)

  -- two numbers, one after the other or not
  module _ (r q : Run) (l : q.left + n ≤ q.right) (h : same_runs s ig b n q.left q.right ≡ true)
      {j k : ℕ} (f : FirstRun j 0 (left_start s ig b n) r) (g : First k 0 (λ (u : ℕ). same_runs s ig b n u r.right) r.left) where
    -- with the same right start
    smallest_left : q.right ≡ r.right → (q.left < r.left) ⊎ (r.left ≤ q.left) → r.left ≤ q.left
    smallest_left e (inl y) = clash (subst (λ (w : ℕ). same_runs s ig b n q.left w ≡ true) e h) (g.fails q.left (omega arith) y)
    smallest_left e (inr y) = y

    smallest_right : (q.right < r.right) ⊎ (r.right ≤ q.right) → Dec (q.right ≡ r.right) → Before r q
    unfolding Before
    smallest_right (inl x) d = clash h (none_left q.right (f.fails q.right (omega arith) x) q.left l)
    smallest_right (inr x) (yes e) = inr (sym e, smallest_left e (below_or q.left r.left))
    smallest_right (inr x) (no e) = inl (omega arith)

  found : (r : Run) → repeated s ig b n ≡ Some r → Apart s b n r × Same s ig b n r × ((q : Run) → Apart s b n q → Same s ig b n q → Before r q)
  unfolding repeated left_start Apart Same
  found r e =
      let f = run_found_lem _ 0 (left_start s ig b n) r e in
      let g = first_found _ 0 (λ (u : ℕ). same_runs s ig b n u r.right) r.left f.has in
      ((omega (arith, g.high), omega (arith, f.high)), g.passes, λ q a h. smallest_right r q a.0 h f g (below_or q.right r.right) (ℕ_discrete q.right r.right))

pub repeated_found : RepeatedFound
unfolding RepeatedFound
repeated_found s ig b n r e = found s ig b n r e

pub repeated_none : RepeatedNone
unfolding RepeatedNone
repeated_none s ig b n = (none_found s ig b n, λ h. go (repeated s ig b n) refl h)
  where
    go : (o : Option Run) → repeated s ig b n ≡ o → ((r : Run) → Apart s b n r → Same s ig b n r → ⊥) → o ≡ None
    go None e h = refl
    go (Some r) e h = let f = found s ig b n r e in absurd (h r f.0 f.1)
