-- Merging is consistent: by the laws, and since the premise goes along with equality, being twins goes both ways and along, so that twins of one
-- operation are twins of each other, and the first of them has none. Assumes nothing.
use Prim.Native.Nat.{ℕ, ◌<◌, ◌≤◌}
use native.Mathlib.Omega.{arith}
use native.Mathlib.Decide.{ℕ_discrete}
use mathlib.Core.Bool.{true}
use mathlib.Core.Logic.{◌⊎◌, inl, inr}
use Rattle.std.specs.Prelude.{Option, None, Some}
use mathlib.Core.Path.{◌≡◌, refl, sym, ap}
use Rattle.rules.specs.Store.{Store, sound}
use Rattle.rules.specs.declared.types.Sort.TheVariants.{Op as op}
use Rattle.rules.specs.declared.types.Ignore.{Ignore}
use Rattle.rules.specs.Laws.{In, LawsOfSound}
use Rattle.rules.specs.Grouping.{twin_of}
use Rattle.rules.specs.GroupingLaws.{IndependentAlong, Twins, TwinFound, TwinNone, TwinStays, TwinsTogether, first_or, TwinsShare}
use Rattle.rules.proofs.Laws.{premise_back, laws_of_sound}
use Rattle.rules.proofs.Runs.Searched.{below_or}
use Rattle.rules.proofs.Grouping.Along.{independent_along}
use Rattle.rules.proofs.Grouping.Twins.{twin_found, twin_none, earlier_in}

module _ (s : Store) (h : sound s ≡ true) (ig : Ignore) where
  twins_back : (m n : ℕ) → In s op m → In s op n → Twins s ig m n → Twins s ig n m
  unfolding LawsOfSound
  twins_back m n im i t = (premise_back s op m n t.0, (laws_of_sound s h ig op).symmetric m n im i t.0 t.1)

  twins_along : (k m n : ℕ) → In s op k → In s op m → In s op n → Twins s ig k m → Twins s ig m n → Twins s ig k n
  unfolding LawsOfSound IndependentAlong
  twins_along k m n ik im i t u = (
    independent_along s h ig op k m n ik im i t.0 u.0 t.1 u.1,
    (laws_of_sound s h ig op).transitive k m n ik im i t.0 u.0 t.1 u.1,
  )

  -- the first twin before it is what is found
  twin_is : (n m : ℕ) → m < n → Twins s ig m n → ((k : ℕ) → k < m → Twins s ig k n → ⊥) → twin_of s ig n ≡ Some m
  unfolding TwinFound TwinNone
  twin_is n m l t first = go (twin_of s ig n) refl
    where
      same : (j : ℕ) → twin_of s ig n ≡ Some j → (j < m) ⊎ (m ≤ j) → Dec (m ≡ j) → m ≡ j
      same j e (inl x) d = absurd (first j x (twin_found s ig n j e).1)
      same j e (inr x) (yes d) = d
      same j e (inr x) (no d) = absurd ((twin_found s ig n j e).2 m (omega arith) t)

      go : (o : Option ℕ) → twin_of s ig n ≡ o → o ≡ Some m
      go None e = absurd ((twin_none s ig n).0 e m l t)
      go (Some j) e = ap {B = Option ℕ} Some (sym (same j e (below_or j m) (ℕ_discrete m j)))

  stays : (n m : ℕ) → In s op n → twin_of s ig n ≡ Some m → twin_of s ig m ≡ None
  unfolding TwinFound TwinNone
  stays n m i e =
      let t = twin_found s ig n m e in
      let im = earlier_in s n m i t.0 in
      (twin_none s ig m).1 (λ k l u. t.2 k l (twins_along k m n (earlier_in s m k im l) im i u t.1))

  together : (n k m : ℕ) → In s op n → In s op k → twin_of s ig n ≡ Some m → twin_of s ig k ≡ Some m → Twins s ig n k
  unfolding TwinFound
  together n k m i ik e g =
      let t = twin_found s ig n m e in
      let im = earlier_in s n m i t.0 in
      twins_along n m k i im ik (twins_back m n im i t.1) (twin_found s ig k m g).1

  shared : (n k : ℕ) → In s op n → In s op k → n < k → Twins s ig n k → twin_of s ig k ≡ first_or n (twin_of s ig n)
  unfolding TwinFound TwinNone first_or
  shared n k i ik l t = go (twin_of s ig n) refl
    where
      -- a twin of k is one of n
      of_n : (j : ℕ) → In s op j → Twins s ig j k → Twins s ig j n
      of_n j ij u = twins_along j k n ij ik i u (twins_back n k i ik t)

      go : (o : Option ℕ) → twin_of s ig n ≡ o → twin_of s ig k ≡ first_or n o
      go None e = twin_is k n l t (λ j x u. (twin_none s ig n).0 e j x (of_n j (earlier_in s n j i x) u))
      go (Some m) e =
          let f = twin_found s ig n m e in
          let im = earlier_in s n m i f.0 in
          let low : m < n = f.0 in
          twin_is k m (omega arith) (twins_along m n k im i ik f.1 t) (λ j x u. f.2 j x (of_n j (earlier_in s m j im x) u))

pub twin_stays : TwinStays
unfolding TwinStays
twin_stays s h ig n m i e = stays s h ig n m i e

pub twins_together : TwinsTogether
unfolding TwinsTogether
twins_together s h ig n k m i ik e g = together s h ig n k m i ik e g

pub twins_share : TwinsShare
unfolding TwinsShare
twins_share s h ig n k i ik l t = shared s h ig n k i ik l t
