-- An owner's regions, results and arguments are a range of numbers: each names its owner exactly where it lies in the owner's range. Assumes nothing.
use Prim.Native.Nat.{ℕ, zero, suc, ◌+◌, ◌-◌, ◌*◌, ◌/◌, ◌%◌, ◌<◌, ◌≤◌, max}
use native.Mathlib.Decide.{dec_lt}
use native.Mathlib.Omega.{arith}
use mathlib.Core.Bool.{Bool, true, false, cond}
use mathlib.Core.List.{List, [], ◌∷◌, Memᴰ}
use mathlib.Core.Path.{◌≡◌, refl, sym, ap, ap₂, subst, ◌∙◌}
use borrow.Author.Tests.{eqb-true, eq-eqb}
use lib.Dec.{eqb, ltb}
use lib.ListN.{length}
use Rattle.rules.specs.Lists.{numbers_from, numbers_where}
use Rattle.rules.specs.Store.{Value, same_owner, regions_of, values_of}
use Rattle.rules.specs.declared.types.Owner.{Owner}
use Rattle.rules.specs.declared.types.Owner.TheVariants.{Op as of_op, Block as of_block}
use Rattle.rules.proofs.Basics.Tests.{clash, and_right}
use Rattle.rules.proofs.Soundness.Children.{same_owner_lem}
use Rattle.rules.proofs.Soundness.NewValues.{same_self}
use Rattle.layout.specs.Columns.{Cols, at, op_region_first, op_region_end, op_result_first, op_result_end, region_op, block_argument_first, block_argument_end, value_owner}
use Rattle.layout.specs.Reading.{tabulate_from, tabulate, op_count, block_count, region_count, value_count, owner_from, owner_code, value_of, store_of}
use Rattle.layout.specs.Soundness.{in_owner, value_laid}
use Rattle.layout.proofs.Laid.{Laid, InRange, Owned, within_facts}
use Rattle.layout.proofs.Tabulate.{length_from}

-- the numbers from a on, up to e
unfoldable pub range : ℕ → ℕ → List ℕ
range a e = tabulate_from a (e - a) (λ (i : ℕ). i)

pub length_range : (a e : ℕ) → length (range a e) ≡ e - a
unfolding range
length_range a e = length_from a (e - a) (λ (i : ℕ). i)

pub range_empty : (a e : ℕ) → e ≤ a → range a e ≡ []
unfolding range tabulate_from
range_empty a e h = let k : e - a ≡ 0 = omega arith in ap (λ (n : ℕ). tabulate_from a n (λ (i : ℕ). i)) k

pub range_first : (a e : ℕ) → a < e → range a e ≡ a ∷ range (suc a) e
unfolding range tabulate_from
range_first a e h = let k : e - a ≡ suc (e - suc a) = omega arith in ap (λ (n : ℕ). tabulate_from a n (λ (i : ℕ). i)) k

in_from : (a n k : ℕ) → a ≤ k → k < a + n → Memᴰ k (tabulate_from a n (λ (i : ℕ). i))
unfolding tabulate_from
in_from a zero k l h = absurd (omega arith)
in_from a (suc n) k l h = go (dec_lt a k) (in_from (suc a) n k)
  where
    go : Dec (a < k) → (suc a ≤ k → k < suc a + n → Memᴰ k (tabulate_from (suc a) n (λ (i : ℕ). i))) → Memᴰ k (a ∷ tabulate_from (suc a) n (λ (i : ℕ). i))
    go (yes m) rest = Memᴰ.tail (rest (omega arith) (omega arith))
    go (no m) rest = let e : k ≡ a = omega arith in Memᴰ.head e

module _ {A : Type 0} (p : A → Bool) (f : ℕ → A) where
  numbers_from_lem : (i n a e : ℕ) → a ≤ e → e ≤ i + n → ((j : ℕ) → i ≤ j → j < i + n → p (f j) ≡ true → InRange a e j) → ((j : ℕ) → InRange a e j → p (f j) ≡ true)
      → numbers_from i p (tabulate_from i n f) ≡ range (max i a) e
  unfolding numbers_from tabulate_from
  numbers_from_lem i zero a e rises fits only each = sym (range_empty (max i a) e (omega arith))
  numbers_from_lem i (suc n) a e rises fits only each =
      go (p (f i)) refl (numbers_from_lem (suc i) n a e rises (omega arith) (λ j h l t. only j (omega arith) (omega arith) t) each)
    where
      past : Dec (i < e) → (InRange a e i → ⊥) → a ≤ i → e ≤ i
      past (yes h) out l = absurd (out (record { from = l; below = h }))
      past (no h) out l = omega arith

      later : Dec (i < a) → (InRange a e i → ⊥) → range (max (suc i) a) e ≡ range (max i a) e
      later (yes h) out = let k : max (suc i) a ≡ max i a = omega arith in ap (λ (x : ℕ). range x e) k
      later (no h) out =
          let l : e ≤ i = past (dec_lt i e) out (omega arith) in
          range_empty (max (suc i) a) e (omega arith) ∙ sym (range_empty (max i a) e (omega arith))

      go : (b : Bool) → p (f i) ≡ b → numbers_from (suc i) p (tabulate_from (suc i) n f) ≡ range (max (suc i) a) e
          → cond b (i ∷ numbers_from (suc i) p (tabulate_from (suc i) n f)) (numbers_from (suc i) p (tabulate_from (suc i) n f)) ≡ range (max i a) e
      go true t rest =
          let w : InRange a e i = only i (omega arith) (omega arith) t in
          let k : max (suc i) a ≡ suc (max i a) = omega arith in
          let m : max i a ≡ i = omega arith in
          ap₂ ◌∷◌ (sym m) (rest ∙ ap (λ (x : ℕ). range x e) k) ∙ sym (range_first (max i a) e (omega arith))
      go false t rest = rest ∙ later (dec_lt i a) (λ w. clash (each i w) t)

  -- the test passes exactly in the range
  pub numbers_range : (n a e : ℕ) → a ≤ e → e ≤ n → ((j : ℕ) → j < n → p (f j) ≡ true → InRange a e j) → ((j : ℕ) → InRange a e j → p (f j) ≡ true)
      → numbers_where p (tabulate n f) ≡ range a e
  unfolding numbers_where tabulate
  numbers_range n a e rises fits only each =
      numbers_from_lem 0 n a e rises (omega arith) (λ j h l t. only j (omega arith) t) each
      ∙ (let k : max 0 a ≡ a = omega arith in ap (λ (x : ℕ). range x e) k)

pub owner_read_lem : (w : Owner) → owner_from (owner_code w) ≡ w
unfolding owner_from owner_code
owner_read_lem (of_op n) = let r : (2 * n) % 2 ≡ 0 = omega arith in let q : (2 * n) / 2 ≡ n = omega arith in rw (r, q) refl
owner_read_lem (of_block b) = let r : (2 * b + 1) % 2 ≡ 1 = omega arith in let q : (2 * b + 1) / 2 ≡ b = omega arith in rw (r, q) refl

-- the words of a range, by their own number
owned_at : (C : Cols) (k a e n w : ℕ) → Owned C k a e n w → (j : ℕ) → InRange a e j → at C k j ≡ w
owned_at C k a e n w h j l = let i : a + (j - a) ≡ j = omega arith in subst (λ (x : ℕ). at C k x ≡ w) i (h.words (j - a) (omega arith))

module _ (C : Cols) (h : Laid C) where
  pub regions_range : (n : ℕ) → n < op_count C → regions_of (store_of C) n ≡ range (at C op_region_first n) (at C op_region_end n)
  unfolding regions_of store_of
  regions_range n l =
      let o = (h.op n l).regions in
      numbers_range (λ (x : ℕ). eqb x n) (at C region_op) (region_count C) _ _ o.range.rises o.range.fits
      (λ r l' t. subst (λ (x : ℕ). InRange (at C op_region_first x) (at C op_region_end x) r) (eqb-true _ n t) (h.region r l').place)
      (λ r w. eq-eqb _ n (owned_at C region_op _ _ _ n o r w))

  values_range : (w : Owner) (a e : ℕ) → Owned C value_owner a e (value_count C) (owner_code w) → ((v : ℕ) → in_owner C v w ≡ true → InRange a e v) → values_of (store_of C) w ≡ range a e
  unfolding values_of store_of value_of value_laid
  values_range w a e o only =
      numbers_range (λ (v : Value). same_owner v.owner w) (value_of C) (value_count C) a e o.range.rises o.range.fits
      (λ v l t. only v (subst (λ (x : Owner). in_owner C v x ≡ true) (same_owner_lem _ w t) (h.value v l)))
      (λ v l. subst (λ (x : Owner). same_owner x w ≡ true) (sym (ap owner_from (owned_at C value_owner a e _ _ o v l) ∙ owner_read_lem w)) (same_self w))

  pub results_range : (n : ℕ) → n < op_count C → values_of (store_of C) (of_op n) ≡ range (at C op_result_first n) (at C op_result_end n)
  unfolding in_owner
  results_range n l = values_range (of_op n) _ _ (h.op n l).results (λ v t. within_facts _ _ _ (and_right (ltb n (op_count C)) _ t))

  pub arguments_range : (m : ℕ) → m < block_count C → values_of (store_of C) (of_block m) ≡ range (at C block_argument_first m) (at C block_argument_end m)
  unfolding in_owner
  arguments_range m l = values_range (of_block m) _ _ (h.block m l).arguments (λ v t. within_facts _ _ _ (and_right (ltb m (block_count C)) _ t))
