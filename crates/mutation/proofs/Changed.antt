-- A list made of the numbers below n, changed at one of them: the others stay, so the list is the old one with that entry changed. Assumes nothing.
use Prim.Native.Nat.{ℕ, zero, suc, ◌+◌, ◌-◌, ◌<◌, ◌≤◌}
use native.Mathlib.Decide.{ℕ_discrete, dec_le}
use native.Mathlib.Omega.{arith}
use mathlib.Core.List.{List, [], ◌∷◌, map-id}
use mathlib.Core.Logic.{◌⊎◌, inl, inr}
use mathlib.Core.Path.{◌≡◌, refl, sym, ap, ap₂, subst, ◌∙◌}
use lib.ListN.{get_or, set, take, drop}
use lib.Seq.{ext_get_or, take-set-le, take-set-lt, drop-set-lt, drop-set-add}
use Rattle.rules.specs.Lists.{sum, update_at}
use Rattle.rules.specs.Store.{Op, Block}
use Rattle.rules.specs.declared.types.Attribute.{Attribute}
use Rattle.rules.proofs.Basics.Appended.{length_update, get_d_update, sum_update}
use Rattle.rules.proofs.Soundness.Room.{update_there}
use Rattle.layout.specs.Reading.{tabulate, slice, attribute_read}
use Rattle.layout.proofs.Tabulate.{length_tabulate, get_d_tabulate}

module _ {A : Type 0} where
  pub update_other : (g : A → A) (n i : ℕ) (xs : List A) (d : A) → (i ≡ n → ⊥) → get_or (update_at g n xs) i d ≡ get_or xs i d
  update_other g n i xs d ne = get_d_update (λ (x : A). x ≡ get_or xs i d) g n i xs d refl (λ e. absurd (ne e))

  pub update_tabulate : (g : A → A) (n N : ℕ) (f f' : ℕ → A) → n < N → ((k : ℕ) → k < N → (k ≡ n → ⊥) → f' k ≡ f k) → f' n ≡ g (f n) → tabulate N f' ≡ update_at g n (tabulate N f)
  update_tabulate g n N f f' l other here =
      ext_get_or (f 0) _ _ (length_tabulate N f' ∙ sym (length_tabulate N f) ∙ sym (length_update g n (tabulate N f)))
      (λ i h. let u : i < N = subst (λ (k : ℕ). i < k) (length_tabulate N f') h in get_d_tabulate N f' i (f 0) u ∙ go i u (ℕ_discrete i n))
    where
      go : (i : ℕ) → i < N → Dec (i ≡ n) → f' i ≡ get_or (update_at g n (tabulate N f)) i (f 0)
      go i u (yes e) =
          subst (λ (k : ℕ). f' k ≡ get_or (update_at g n (tabulate N f)) k (f 0)) (sym e)
          (here ∙ ap g (sym (get_d_tabulate N f n (f 0) l)) ∙ sym (update_there g n (tabulate N f) (f 0) (subst (λ (k : ℕ). n < k) (sym (length_tabulate N f)) l)))
      go i u (no ne) = other i u ne ∙ sym (get_d_tabulate N f i (f 0) u) ∙ sym (update_other g n i (tabulate N f) (f 0) ne)

  pub set_update : (xs : List A) (n : ℕ) (a : A) → set xs n a ≡ update_at (λ (x : A). a) n xs
  unfolding update_at
  set_update [] n a = refl
  set_update (x ∷ xs) zero a = refl
  set_update (x ∷ xs) (suc n) a = ap (λ (l : List A). x ∷ l) (set_update xs n a)

-- the sum goes by what the one entry went by
pub sum_changed : (n N : ℕ) (f f' : ℕ → ℕ) → n < N → ((k : ℕ) → k < N → (k ≡ n → ⊥) → f' k ≡ f k) → sum (tabulate N f') + f n ≡ sum (tabulate N f) + f' n
sum_changed n N f f' l other =
    let g : ℕ → ℕ = λ (x : ℕ). f' n in
    let xs : List ℕ = tabulate N f in
    let e : tabulate N f' ≡ update_at g n xs = update_tabulate g n N f f' l other refl in
    let s = sum_update (λ (x : ℕ). x) g n xs (f 0) (subst (λ (k : ℕ). n < k) (sym (length_tabulate N f)) l) in
    ap₂ ◌+◌ (ap sum (e ∙ sym (map-id (update_at g n xs)))) (sym (get_d_tabulate N f n (f 0) l)) ∙ s ∙ ap (λ (ys : List ℕ). sum ys + f' n) (map-id xs)

-- ---- an operation, a block, an attribute, by what of it changes

abbrev pub op_with : Op → List ℕ → List Attribute → Op
op_with o xs bs = record { kind = o.kind; parent = o.parent; location = o.location; operands = xs; successors = o.successors; attributes = bs }

abbrev pub block_with : Block → List Attribute → Block
block_with o bs = record { region = o.region; location = o.location; attributes = bs }

-- the same three words are read as the same attribute
pub attribute_same : {key key' word word' content content' : ℕ} → key ≡ key' → word ≡ word' → content ≡ content' → attribute_read key word content ≡ attribute_read key' word' content'
attribute_same p q r = λ i. attribute_read (p i) (q i) (r i)

-- ---- a slice of a list in which one word is written

pub slice_other : (xs : List ℕ) (a e p v : ℕ) → (p < a) ⊎ (e ≤ p) → slice (set xs p v) a e ≡ slice xs a e
unfolding slice
slice_other xs a e p v (inl l) = ap (λ (l : List ℕ). take (e - a) l) (drop-set-lt a xs p v l)
slice_other xs a e p v (inr l) = go (dec_le a p)
  where
    go : Dec (a ≤ p) → slice (set xs p v) a e ≡ slice xs a e
    go (yes u) =
        ap (λ (k : ℕ). take (e - a) (drop a (set xs k v))) (omega arith) ∙ ap (λ (l : List ℕ). take (e - a) l) (drop-set-add a xs (p - a) v)
        ∙ take-set-le (e - a) (drop a xs) (p - a) v (omega arith)
    go (no u) = ap (λ (l : List ℕ). take (e - a) l) (drop-set-lt a xs p v (omega arith))

pub slice_same : (xs : List ℕ) (a e i v : ℕ) → i < e - a → slice (set xs (a + i) v) a e ≡ set (slice xs a e) i v
unfolding slice
slice_same xs a e i v l = ap (λ (l : List ℕ). take (e - a) l) (drop-set-add a xs i v) ∙ take-set-lt (e - a) (drop a xs) i v l
