-- What the plan says of an operation, in words: each fate comes by a search over the fates before it, and these are those at the end.
-- Assumes nothing.
use Prim.Native.Nat.{ℕ, zero, suc, ◌+◌, ◌<◌, ◌≤◌}
use native.Mathlib.Omega.{arith}
use native.Mathlib.Decide.{ℕ_discrete}
use mathlib.Core.Bool.{true, false}
use mathlib.Core.List.Memᴰ
use mathlib.Core.List.{List, [], ◌∷◌, ◌++◌, Memᴰ}
use mathlib.Core.Logic.{◌⊎◌, ◌↔◌, inl, inr}
use Rattle.std.specs.Prelude.{Option, None, Some}
use mathlib.Core.Path.{◌≡◌, refl, sym, subst, ◌∙◌}
use borrow.Author.Tests.{eqb-true, eq-eqb}
use lib.Dec.{eqb}
use lib.ListN.{length, get_or, length-append}
use Rattle.std.proofs.lemmas.List.{get_or_append_left, get_or_push, get_or_past}
use Rattle.rules.specs.Store.{Store}
use Rattle.rules.specs.Fragments.{fragment_ops}
use Rattle.rules.specs.declared.types.Sort.TheVariants.{Op as op}
use Rattle.rules.specs.declared.types.Ignore.{Ignore}
use Rattle.rules.specs.Runs.{first_of}
use Rattle.rules.specs.Independence.{independent}
use Rattle.rules.specs.Grouping.{is_twin}
use Rattle.rules.specs.GroupingLaws.{IndependentIs, Twins}
use Rattle.rules.proofs.Basics.Tests.{and_left, and_right, and_both, clash}
use Rattle.rules.proofs.Basics.Filtered.{any_at, any_where}
use Rattle.rules.proofs.Runs.Searched.{below_or, first_found, first_none}
use Rattle.rules.proofs.Grouping.Independent.{independent_is}
use Rattle.planning.specs.Plan.{Fate, kept, merged, inside, is_kept, is_merged, fate_in, goes_with, stands_for, merged_or_kept, inside_or, next_fate, with_next, plan_below, merge_plan, fate_of}
use Rattle.planning.specs.PlanLaws.{Merged, PlanWhole}

-- the test of one operation for another
twins_are : (s : Store) (ig : Ignore) (n m : ℕ) → (is_twin s ig n m ≡ true) ↔ Twins s ig m n
unfolding is_twin IndependentIs
twins_are s ig n m =
    let premise = independent_is s op m n in (
      λ h. (premise.0 (and_left _ _ h), and_right (independent s op m n) _ h),
      λ t. and_both _ _ (premise.1 t.0) t.1,
    )

-- ---- tests of fates

pub merged_is : (f : Fate) → is_merged f ≡ true → (m : ℕ) × (f ≡ merged m)
unfolding is_merged
merged_is kept h = clash h refl
merged_is (merged m) h = (m, refl)
merged_is (inside r) h = clash h refl

pub kept_is : (f : Fate) → is_kept f ≡ true → f ≡ kept
unfolding is_kept
kept_is kept h = refl
kept_is (merged m) h = clash h refl
kept_is (inside r) h = clash h refl

merged_passes : (f : Fate) (m : ℕ) → f ≡ merged m → is_merged f ≡ true
unfolding is_merged
merged_passes f m e = rw e refl

kept_passes : (f : Fate) → f ≡ kept → is_kept f ≡ true
unfolding is_kept
kept_passes f e = rw e refl

module _ (s : Store) (ig : Ignore) where
  -- ---- the fates stay

  pub below_length : (n : ℕ) → length (plan_below n s ig) ≡ n
  unfolding plan_below with_next
  below_length zero = refl
  below_length (suc n) =
      let e : length (plan_below n s ig) ≡ n = below_length n in
      omega (arith, length-append (plan_below n s ig) (next_fate s ig (plan_below n s ig) n ∷ []))

  -- what is said of an operation as it is come to
  pub told : ℕ → Fate
  told n = next_fate s ig (plan_below n s ig) n

  below_told : (n k : ℕ) → k < n → fate_in (plan_below n s ig) k ≡ told k
  unfolding plan_below with_next fate_in told
  below_told zero k l = absurd (omega arith)
  below_told (suc n) k l = go (below_told n k) (ℕ_discrete n k)
    where
      go : (k < n → fate_in (plan_below n s ig) k ≡ told k) → Dec (n ≡ k) → fate_in (plan_below (suc n) s ig) k ≡ told k
      go before (yes e) = subst (λ (j : ℕ). get_or (plan_below n s ig ++ (told n ∷ [])) j kept ≡ told j) e (get_or_push (plan_below n s ig) (told n) kept n (below_length n))
      go before (no ne) =
          let h : k < length (plan_below n s ig) = omega (arith, below_length n) in
          get_or_append_left (plan_below n s ig) (told n ∷ []) kept k h ∙ before (omega arith)

  pub fate_told : (n : ℕ) → n < length s.ops → fate_of s ig n ≡ told n
  unfolding fate_of merge_plan
  fate_told n l = below_told (length s.ops) n l

  -- one that is not kept is in the store
  pub fate_past : (n : ℕ) → length s.ops ≤ n → fate_of s ig n ≡ kept
  unfolding fate_of merge_plan fate_in
  fate_past n l = get_or_past (plan_below (length s.ops) s ig) n kept (omega (arith, below_length (length s.ops)))

  below_same : (n k : ℕ) → n < length s.ops → k < n → fate_in (plan_below n s ig) k ≡ fate_of s ig k
  below_same n k l b = below_told n k b ∙ sym (fate_told k (omega arith))

  -- ---- what each fate says

  -- n is inside no merged one before it
  abbrev pub Out : ℕ → Type 0
  Out n = (r : ℕ) → r < n → Merged s ig r → Memᴰ n (fragment_ops s op r) → ⊥

  -- no twin of n below m is kept
  abbrev pub NoneKept : ℕ → ℕ → Type 0
  NoneKept n m = (k : ℕ) → k < m → fate_of s ig k ≡ kept → Twins s ig k n → ⊥

  abbrev pub Says : ℕ → Fate → Type 0
  Says n kept = Out n × NoneKept n n
  Says n (merged m) = Out n × (m < n) × (fate_of s ig m ≡ kept) × Twins s ig m n × NoneKept n m
  Says n (inside r) = (r < n) × Merged s ig r × Memᴰ n (fragment_ops s op r)

  module _ (n : ℕ) (l : n < length s.ops) where
    before : List Fate
    before = plan_below n s ig

    out : ((r : ℕ) → r < n → goes_with s before n r ≡ false) → Out n
    unfolding goes_with before
    out none_goes r b (m, e) i =
        clash (and_both (is_merged (fate_in before r)) _ (merged_passes _ m (below_same n r l b ∙ e)) (any_at (eqb n) i (eq-eqb n n refl))) (none_goes r b)

    none_kept : (m : ℕ) → m ≤ n → ((k : ℕ) → k < m → stands_for s ig before n k ≡ false) → NoneKept n m
    unfolding stands_for before
    none_kept m c none_stands k b e t =
        let d : k < n = omega arith in
        clash (and_both (is_kept (fate_in before k)) _ (kept_passes _ (below_same n k l d ∙ e)) ((twins_are s ig n k).1 t)) (none_stands k b)

    goes : (r : ℕ) → r < n → goes_with s before n r ≡ true → Says n (inside r)
    unfolding goes_with before
    goes r b h =
        let m = merged_is (fate_in before r) (and_left _ _ h) in
        let w = any_where (eqb n) (fragment_ops s op r) (and_right (is_merged (fate_in before r)) _ h) in
        (b, (m.0, sym (below_same n r l b) ∙ m.1), Memᴰ.cast (eqb-true n w.0 w.2) w.1)

    stands : (m : ℕ) → m < n → stands_for s ig before n m ≡ true → (fate_of s ig m ≡ kept) × Twins s ig m n
    unfolding stands_for before
    stands m b h = (
      sym (below_same n m l b) ∙ kept_is (fate_in before m) (and_left _ _ h),
      (twins_are s ig n m).0 (and_right (is_kept (fate_in before m)) _ h),
    )

    by_twin : Out n → (o : Option ℕ) → first_of n 0 (stands_for s ig before n) ≡ o → Says n (merged_or_kept o)
    unfolding merged_or_kept
    by_twin free None e = (free, none_kept n (omega arith) (λ k b. first_none n 0 (stands_for s ig before n) e k (omega arith) (omega arith)))
    by_twin free (Some m) e =
        let f = first_found n 0 (stands_for s ig before n) m e in
        let high : m < 0 + n = f.high in
        let b : m < n = omega arith in
        let t = stands m b f.passes in
        (free, b, t.0, t.1, none_kept m (omega arith) (λ k c. f.fails k (omega arith) c))

    by_root : (o : Option ℕ) → first_of n 0 (goes_with s before n) ≡ o
        → Says n (inside_or o (merged_or_kept (first_of n 0 (stands_for s ig before n))))
    unfolding inside_or
    by_root None e =
        by_twin (out (λ r b. first_none n 0 (goes_with s before n) e r (omega arith) (omega arith)))
        (first_of n 0 (stands_for s ig before n)) refl
    by_root (Some r) e =
        let f = first_found n 0 (goes_with s before n) r e in
        let high : r < 0 + n = f.high in
        goes r (omega arith) f.passes

    told_says : Says n (told n)
    unfolding told next_fate before
    told_says = by_root (first_of n 0 (goes_with s before n)) refl

    pub says_here : Says n (fate_of s ig n)
    says_here = subst (Says n) (sym (fate_told n l)) told_says

  -- an operation that isn't kept is in the store
  pub in_store : (n : ℕ) → (fate_of s ig n ≡ kept → ⊥) → n < length s.ops
  in_store n ne = go (below_or n (length s.ops))
    where
      go : (n < length s.ops) ⊎ (length s.ops ≤ n) → n < length s.ops
      go (inl l) = l
      go (inr l) = absurd (ne (fate_past n l))

  pub says : (n : ℕ) (f : Fate) → (f ≡ kept → ⊥) → fate_of s ig n ≡ f → Says n f
  says n f ne e = subst (Says n) e (says_here n (in_store n (λ k. ne (sym e ∙ k))))

pub plan_whole : PlanWhole
unfolding PlanWhole merge_plan
plan_whole s ig = below_length s ig (length s.ops)
