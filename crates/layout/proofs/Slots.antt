-- The attributes of an owner, slot by slot: what a key that was looked at leaves to look at, and the kinds as a slice of their column. Assumes nothing.
use Prim.Native.Nat.{ℕ, zero, suc, ◌+◌, ◌-◌, ◌<◌, ◌≤◌}
use native.Mathlib.Decide.{dec_le}
use native.Mathlib.Omega.{arith}
use mathlib.Core.Bool.{Bool, true, false, cond, ◌&&◌}
use mathlib.Core.Path.{◌≡◌, refl, sym, ap, subst, ◌∙◌}
use borrow.Author.Tests.{leb-true, le-leb, lt-leb, ltb-true, lt-ltb, le-ltb}
use lib.Dec.{leb, ltb}
use lib.ListN.{length}
use Rattle.std.specs.List.{list_all}
use Rattle.rules.specs.Lists.{all_below}
use Rattle.rules.specs.Store.{keys_rise, keys_rise_after, max_own_keys, max_attribute_kind, block_after}
use Rattle.rules.specs.declared.types.Attribute.{Attribute}
use Rattle.rules.proofs.Basics.Tests.{all_at, all_below_at, all_below_of}
use Rattle.rules.proofs.Basics.Appended.{mem_get_d}
use Rattle.layout.specs.Columns.{Cols, at, slot_key, slot_kind}
use Rattle.layout.specs.Reading.{tabulate_from, tabulate, slice, parent_from, kind_from, attribute_at, attributes_from}
use Rattle.layout.proofs.Tabulate.{length_tabulate, get_d_tabulate}
use Rattle.layout.proofs.Scans.{passes_at, same_tests, all_below_lem, below_cong, slice_length, slice_at}
use Rattle.layout.proofs.Rules.{all_tabulate}

-- ---- the keys

-- the keys behind slot i rise, and are larger than its own
unfoldable pub keys_from : Cols → ℕ → ℕ → ℕ → Bool
keys_from C first count i = keys_rise_after (at C slot_key (first + i)) (tabulate_from (suc i) (count - suc i) (λ (j : ℕ). attribute_at C (first + j)))

module _ (C : Cols) (first count : ℕ) where
  begin_at : (n : ℕ) → keys_rise (tabulate_from 0 n (λ (j : ℕ). attribute_at C (first + j))) ≡ keys_rise_after (at C slot_key (first + 0)) (tabulate_from 1 (n - 1) (λ (j : ℕ). attribute_at C (first + j)))
  unfolding tabulate_from keys_rise keys_rise_after attribute_at
  begin_at zero = refl
  begin_at (suc n) = ap (λ (k : ℕ). keys_rise_after (at C slot_key (first + 0)) (tabulate_from 1 k (λ (j : ℕ). attribute_at C (first + j)))) (let e : n ≡ suc n - 1 = omega arith in e)

  pub keys_begin : keys_rise (attributes_from C first count) ≡ keys_from C first count 0
  unfolding keys_from attributes_from tabulate
  keys_begin = begin_at count

  keys_step : (i : ℕ) → i + 1 < count → keys_from C first count i ≡ (ltb (at C slot_key (first + i)) (at C slot_key (first + (i + 1))) && keys_from C first count (i + 1))
  unfolding keys_from tabulate_from keys_rise_after attribute_at
  keys_step i l =
      let e : count - suc i ≡ suc (count - suc (i + 1)) = omega arith in
      let s : suc i ≡ i + 1 = omega arith in
      ap (λ (n : ℕ). keys_rise_after (at C slot_key (first + i)) (tabulate_from (suc i) n (λ (j : ℕ). attribute_at C (first + j)))) e
      ∙ ap (λ (k : ℕ). ltb (at C slot_key (first + i)) (at C slot_key (first + k)) && keys_rise_after (at C slot_key (first + k)) (tabulate_from (suc k) (count - suc (i + 1)) (λ (j : ℕ). attribute_at C (first + j)))) s

  pub keys_next : (i : ℕ) → i + 1 < count → at C slot_key (first + i) < at C slot_key (first + (i + 1)) → keys_from C first count i ≡ keys_from C first count (i + 1)
  keys_next i l h = keys_step i l ∙ ap (λ (b : Bool). b && keys_from C first count (i + 1)) (lt-ltb _ _ h)

  pub keys_fall : (i : ℕ) → i + 1 < count → at C slot_key (first + (i + 1)) ≤ at C slot_key (first + i) → keys_from C first count i ≡ false
  keys_fall i l h = keys_step i l ∙ ap (λ (b : Bool). b && keys_from C first count (i + 1)) (le-ltb _ _ h)

  pub keys_end : (i : ℕ) → count ≤ i + 1 → keys_from C first count i ≡ true
  unfolding keys_from tabulate_from keys_rise_after
  keys_end i l = ap (λ (n : ℕ). keys_rise_after (at C slot_key (first + i)) (tabulate_from (suc i) n (λ (j : ℕ). attribute_at C (first + j)))) (let e : count - suc i ≡ 0 = omega arith in e)

pub keys_few : (C : Cols) (first count : ℕ) → count ≤ max_own_keys → leb (length (attributes_from C first count)) max_own_keys ≡ true
unfolding attributes_from
keys_few C first count h = ap (λ (n : ℕ). leb n max_own_keys) (length_tabulate count _) ∙ le-leb count max_own_keys h

-- ---- the kinds

module _ {A : Type 0} (p : A → Bool) (f : ℕ → A) where
  tabulate_tests : (n : ℕ) → list_all p (tabulate n f) ≡ all_below n (λ (k : ℕ). p (f k))
  tabulate_tests n =
      same_tests (list_all p (tabulate n f)) (all_below n (λ (k : ℕ). p (f k)))
      (λ h. all_below_of n _ (λ k l. subst (λ (x : A). p x ≡ true) (get_d_tabulate n f k (f 0) l) (all_at p (tabulate n f) h (mem_get_d (tabulate n f) k (f 0) (omega (arith, length_tabulate n f))))))
      (λ h. all_tabulate p f n (all_below_at n _ h))

-- a word below 128 has a kind of at most 63, and no other word has
kind_test : (w : ℕ) → ltb w 128 ≡ leb (kind_from w) max_attribute_kind
unfolding kind_from
kind_test w = go (dec_le 64 w)
  where
    go : Dec (64 ≤ w) → ltb w 128 ≡ leb (cond (leb 64 w) (w - 64) w) 63
    go (yes l) = rw (le-leb 64 w l) (same_tests (ltb w 128) (leb (w - 64) 63) (λ t. let m = ltb-true w 128 t in le-leb (w - 64) 63 (omega arith)) (λ t. let m = leb-true (w - 64) 63 t in lt-ltb w 128 (omega arith)))
    go (no n) = rw (lt-leb 64 w (omega arith)) (lt-ltb w 128 (omega arith) ∙ sym (le-leb w 63 (omega arith)))

pub kinds_slice : (C : Cols) (first count : ℕ) → first + count ≤ length (C slot_kind) → list_all (λ (x : ℕ). ltb x 128) (slice (C slot_kind) first (first + count)) ≡ list_all (λ (a : Attribute). leb a.kind max_attribute_kind) (attributes_from C first count)
unfolding attributes_from attribute_at at
kinds_slice C first count h =
    let e : (first + count) - first ≡ count = omega arith in
    all_below_lem (λ (x : ℕ). ltb x 128) (slice (C slot_kind) first (first + count))
    ∙ ap (λ (n : ℕ). all_below n (passes_at (λ (x : ℕ). ltb x 128) (slice (C slot_kind) first (first + count)))) (slice_length (C slot_kind) first (first + count) h ∙ e)
    ∙ below_cong count _ _ (λ i l. ap (λ (x : ℕ). ltb x 128) (slice_at (C slot_kind) first (first + count) i (omega arith)) ∙ kind_test (at C slot_kind (first + i)))
    ∙ sym (tabulate_tests (λ (a : Attribute). leb a.kind max_attribute_kind) (λ (i : ℕ). attribute_at C (first + i)) count)

-- ---- a block around a block

pub after_word : (m w : ℕ) → leb w m ≡ block_after m (parent_from w)
unfolding block_after parent_from
after_word m zero = le-leb 0 m (omega arith)
after_word m (suc b) = same_tests (leb (suc b) m) (ltb b m) (λ t. let l = leb-true (suc b) m t in lt-ltb b m (omega arith)) (λ t. let l = ltb-true b m t in le-leb (suc b) m (omega arith))
