-- The search for the first start that passes a test, among starts that are chained by the buckets of their sums: what is left to try, from a
-- start on, is the whole. A start whose sum is another than the one that is looked for doesn't pass. Assumes nothing.
use Prim.Native.Nat.{ℕ, zero, suc, ◌+◌, ◌-◌, ◌<◌, ◌≤◌}
use native.Mathlib.Decide.{dec_lt}
use native.Mathlib.Omega.{arith}
use mathlib.Core.Bool.{Bool, true, false}
use mathlib.Core.List.{List}
use Rattle.std.specs.Prelude.{Option, None, Some}
use mathlib.Core.Path.{◌≡◌, refl, sym, ap, subst, ◌∙◌}
use lib.ListN.{length, get_or}
use Rattle.std.specs.Prelude as std
use Rattle.rules.specs.Runs.{first_of}
use Rattle.hashing.specs.Chains.{bucket_of, Without, FirstFrom, Follows}

-- ---- the first that passes

module _ (p : ℕ → Bool) (i k : ℕ) where
  first_here : p i ≡ true → first_of (suc k) i p ≡ Some i
  unfolding first_of
  first_here e = rw e refl

  first_later : p i ≡ false → first_of (suc k) i p ≡ first_of k (suc i) p
  unfolding first_of
  first_later e = rw e refl

-- what is left to try from i on, of starts of n that end before j
module _ (p : ℕ → Bool) (n j i : ℕ) where
  abbrev pub left_on : Option ℕ
  left_on = first_of (suc j - n - i) i p

  left_here_lem : i + n ≤ j → p i ≡ true → left_on ≡ Some i
  left_here_lem l e =
      let k : suc j - n - i ≡ suc (suc j - n - (i + 1)) = omega arith in
      ap (λ (m : ℕ). first_of m i p) k ∙ first_here p i (suc j - n - (i + 1)) e

  left_later : i + n ≤ j → p i ≡ false → left_on ≡ first_of (suc j - n - (i + 1)) (i + 1) p
  left_later l e =
      let k : suc j - n - i ≡ suc (suc j - n - (i + 1)) = omega arith in
      let next : suc i ≡ i + 1 = omega arith in
      ap (λ (m : ℕ). first_of m i p) k ∙ first_later p i (suc j - n - (i + 1)) e ∙ ap (λ (m : ℕ). first_of (suc j - n - (i + 1)) m p) next

  left_over : j < i + n → left_on ≡ None
  unfolding first_of
  left_over l = let k : suc j - n - i ≡ 0 = omega arith in ap (λ (m : ℕ). first_of m i p) k

-- starts that don't pass are passed over
left_skips : (p : ℕ → Bool) (n j m i : ℕ) → ((k : ℕ) → i ≤ k → k < i + m → k + n ≤ j → p k ≡ false) → left_on p n j i ≡ left_on p n j (i + m)
left_skips p n j zero i h = let e : i ≡ i + 0 = omega arith in ap (left_on p n j) e
left_skips p n j (suc m) i h = go (dec_lt j (i + n)) (λ e. left_skips p n j m (i + 1) (λ k a b c. h k (omega arith) (omega arith) c))
  where
    go : Dec (j < i + n) → (i + n ≤ j → left_on p n j (i + 1) ≡ left_on p n j (i + 1 + m)) → left_on p n j i ≡ left_on p n j (i + suc m)
    go (yes g) later = left_over p n j i g ∙ sym (left_over p n j (i + suc m) (omega arith))
    go (no g) later =
        let l : i + n ≤ j = omega arith in
        let e : i + 1 + m ≡ i + suc m = omega arith in
        left_later p n j i l (h i (omega arith) (omega arith) l) ∙ later l ∙ ap (left_on p n j) e

-- from a start on to a later one
left_on_lem : (p : ℕ → Bool) (n j i e : ℕ) → i ≤ e → ((k : ℕ) → i ≤ k → k < e → k + n ≤ j → p k ≡ false) → left_on p n j i ≡ left_on p n j e
left_on_lem p n j i e l h =
    let there : i + (e - i) ≡ e = omega arith in
    left_skips p n j (e - i) i (λ k a b c. h k a (omega arith) c) ∙ ap (left_on p n j) there

-- ---- starts by their buckets

-- how many starts are left to try, from the next one on
unfoldable pub to_go : ℕ → std.Option ℕ → ℕ
to_go many (std.Some i) = suc (many - i)
to_go many std.None = 0

pub fewer_to_go : (sums : List ℕ) (b i : ℕ) (next : std.Option ℕ) → i < length sums → Follows sums b (suc i) next → to_go (length sums) next < to_go (length sums) (std.Some i)
unfolding to_go Follows
fewer_to_go sums b i (std.Some e) l f = omega (arith, f.from, f.bound)
fewer_to_go sums b i std.None l f = omega arith

module _ (sums : List ℕ) (sum : ℕ) (test : ℕ → Bool) (n right : ℕ) where
  -- all starts before a are tried, and from a on the next one to try is this
  pub record Tried (a : ℕ) (next : std.Option ℕ) : Type 0 where
    pub left : left_on test n right 0 ≡ left_on test n right a
    pub follows : Follows sums (bucket_of sum) a next

  pub tried_none : (next : std.Option ℕ) → Follows sums (bucket_of sum) 0 next → Tried 0 next
  tried_none next f = record { left = refl; follows = f }

  module _ (few : right < length sums + n) (unlike : (i : ℕ) → i + n ≤ right → (get_or sums i 0 ≡ sum → ⊥) → test i ≡ false) (a : ℕ) where
    -- a start of another bucket doesn't pass
    apart : (e : ℕ) → Without sums (bucket_of sum) a e → (k : ℕ) → a ≤ k → k < e → k + n ≤ right → test k ≡ false
    apart e w k m l r = unlike k r (λ q. w k m l (ap bucket_of q))

    -- no start is left
    pub tried_all : Tried a std.None → left_on test n right 0 ≡ None
    unfolding Follows
    tried_all t =
        t.left
        ∙ left_on_lem test n right a (a + suc right) (omega arith) (λ k m l r. apart (length sums) t.follows k m (omega arith) r)
        ∙ left_over test n right (a + suc right) (omega arith)

    module _ (i : ℕ) (t : Tried a (std.Some i)) where
      next_is : FirstFrom sums (bucket_of sum) a i
      unfolding Follows
      next_is = t.follows

      up_to : left_on test n right 0 ≡ left_on test n right i
      up_to = t.left ∙ left_on_lem test n right a i next_is.from (apart i next_is.none)

      pub tried_here : i < length sums
      tried_here = next_is.bound

      -- it doesn't end before the right one begins
      pub tried_over : right < i + n → left_on test n right 0 ≡ None
      tried_over l = up_to ∙ left_over test n right i l

      pub tried_found : i + n ≤ right → test i ≡ true → left_on test n right 0 ≡ Some i
      tried_found l e = up_to ∙ left_here_lem test n right i l e

      pub tried_next : i + n ≤ right → test i ≡ false → (next : std.Option ℕ) → Follows sums (bucket_of (get_or sums i 0)) (suc i) next → Tried (i + 1) next
      tried_next l e next f =
          let one : suc i ≡ i + 1 = omega arith in
          record {
            left = up_to ∙ left_later test n right i l e;
            follows = subst (λ (x : ℕ). Follows sums x (i + 1) next) next_is.own (subst (λ (x : ℕ). Follows sums (bucket_of (get_or sums i 0)) x next) one f);
          }
