-- A tabulated list: its length, its entries, and one entry more at its end; so the store that the columns are read as is told by their rows. Assumes nothing.
use Prim.Native.Nat.{ℕ, zero, suc, ◌+◌, ◌<◌}
use native.Mathlib.Nat.{add-zero, zero-add, add-suc, suc-add, not-suc-le-zero, le_of_suc-le-suc}
use native.Mathlib.Omega.{arith}
use mathlib.Core.Bool.{true}
use mathlib.Core.List.{List, [], ◌∷◌, ◌++◌, map, append-nil, append_assoc}
use mathlib.Core.Path.{◌≡◌, refl, sym, ap, ap₂, subst, ◌∙◌}
use borrow.Author.Tests.{ltb-true}
use lib.Dec.{ltb}
use lib.ListN.{length, get_or}
use Rattle.rules.specs.Store.{Op, Block, no_op, no_block, no_value, op_at, block_at, value_at, parent_of, op_around, op_exists, block_exists, region_exists, value_exists}
use Rattle.layout.specs.Columns.{Cols, at, op_parent, region_op, block_region}
use Rattle.layout.specs.Reading.{tabulate_from, tabulate, op_count, block_count, region_count, value_count, around, parent_from, op_of, block_of, value_of, store_of}

module _ {A : Type 0} where
  pub length_from : (i n : ℕ) (f : ℕ → A) → length (tabulate_from i n f) ≡ n
  unfolding tabulate_from
  length_from i zero f = refl
  length_from i (suc n) f = ap suc (length_from (suc i) n f)

  pub get_d_from : (i n : ℕ) (f : ℕ → A) (k : ℕ) (d : A) → k < n → get_or (tabulate_from i n f) k d ≡ f (i + k)
  unfolding tabulate_from
  get_d_from i zero f k d h = absurd (not-suc-le-zero h)
  get_d_from i (suc n) f zero d h = ap f (sym (add-zero i))
  get_d_from i (suc n) f (suc k) d h = get_d_from (suc i) n f k d (le_of_suc-le-suc h) ∙ ap f (suc-add i k ∙ sym (add-suc i k))

  cong_from : (i n : ℕ) (f g : ℕ → A) → ((k : ℕ) → k < n → f (i + k) ≡ g (i + k)) → tabulate_from i n f ≡ tabulate_from i n g
  unfolding tabulate_from
  cong_from i zero f g same = refl
  cong_from i (suc n) f g same =
      ap₂ ◌∷◌ (subst (λ (k : ℕ). f k ≡ g k) (add-zero i) (same 0 (omega arith)))
      (cong_from (suc i) n f g (λ k h. subst (λ (j : ℕ). f j ≡ g j) (add-suc i k ∙ sym (suc-add i k)) (same (suc k) (omega arith))))

  snoc_from : (i n : ℕ) (f : ℕ → A) → tabulate_from i (suc n) f ≡ tabulate_from i n f ++ (f (i + n) ∷ [])
  unfolding tabulate_from
  snoc_from i zero f = ap (λ (k : ℕ). f k ∷ []) (sym (add-zero i))
  snoc_from i (suc n) f = ap (λ (l : List A). f i ∷ l) (snoc_from (suc i) n f ∙ ap (λ (k : ℕ). tabulate_from (suc i) n f ++ (f k ∷ [])) (suc-add i n ∙ sym (add-suc i n)))

  pub length_tabulate : (n : ℕ) (f : ℕ → A) → length (tabulate n f) ≡ n
  unfolding tabulate
  length_tabulate n f = length_from 0 n f

  pub get_d_tabulate : (n : ℕ) (f : ℕ → A) (k : ℕ) (d : A) → k < n → get_or (tabulate n f) k d ≡ f k
  unfolding tabulate
  get_d_tabulate n f k d h = get_d_from 0 n f k d h ∙ ap f (zero-add k)

  pub tabulate_cong : (n : ℕ) (f g : ℕ → A) → ((k : ℕ) → k < n → f k ≡ g k) → tabulate n f ≡ tabulate n g
  unfolding tabulate
  tabulate_cong n f g same = cong_from 0 n f g (λ k h. subst (λ (j : ℕ). f j ≡ g j) (sym (zero-add k)) (same k h))

  pub tabulate_suc : (n : ℕ) (f : ℕ → A) → tabulate (suc n) f ≡ tabulate n f ++ (f n ∷ [])
  unfolding tabulate
  tabulate_suc n f = snoc_from 0 n f ∙ ap (λ (k : ℕ). tabulate_from 0 n f ++ (f k ∷ [])) (zero-add n)

  pub tabulate_add : (n m : ℕ) (f : ℕ → A) → tabulate (n + m) f ≡ tabulate n f ++ tabulate m (λ (i : ℕ). f (n + i))
  unfolding tabulate tabulate_from
  tabulate_add n zero f = ap (λ (k : ℕ). tabulate k f) (add-zero n) ∙ sym (append-nil (tabulate n f))
  tabulate_add n (suc m) f =
      ap (λ (k : ℕ). tabulate k f) (add-suc n m) ∙ tabulate_suc (n + m) f
      ∙ ap (λ (l : List A). l ++ (f (n + m) ∷ [])) (tabulate_add n m f)
      ∙ append_assoc (tabulate n f) (tabulate m (λ (i : ℕ). f (n + i))) (f (n + m) ∷ [])
      ∙ ap (λ (l : List A). tabulate n f ++ l) (sym (tabulate_suc m (λ (i : ℕ). f (n + i))))

pub map_from : {A B : Type 0} (g : A → B) (f : ℕ → A) (i n : ℕ) → map g (tabulate_from i n f) ≡ tabulate_from i n (λ (k : ℕ). g (f k))
unfolding tabulate_from
map_from g f i zero = refl
map_from {B = B} g f i (suc n) = ap (λ (l : List B). g (f i) ∷ l) (map_from g f (suc i) n)

-- ---- the store that the columns are read as

module _ (C : Cols) where
  pub ops_length : length (store_of C).ops ≡ op_count C
  unfolding store_of
  ops_length = length_tabulate (op_count C) (op_of C)

  pub blocks_length : length (store_of C).blocks ≡ block_count C
  unfolding store_of
  blocks_length = length_tabulate (block_count C) (block_of C)

  pub regions_length : length (store_of C).regions ≡ region_count C
  unfolding store_of
  regions_length = length_tabulate (region_count C) (at C region_op)

  pub values_length : length (store_of C).values ≡ value_count C
  unfolding store_of
  values_length = length_tabulate (value_count C) (value_of C)

  pub op_exists_lem : (n : ℕ) → op_exists (store_of C) n ≡ ltb n (op_count C)
  unfolding op_exists
  op_exists_lem n = ap (ltb n) ops_length

  pub block_exists_lem : (n : ℕ) → block_exists (store_of C) n ≡ ltb n (block_count C)
  unfolding block_exists
  block_exists_lem n = ap (ltb n) blocks_length

  pub op_in_lem : (n : ℕ) → op_exists (store_of C) n ≡ true → n < op_count C
  op_in_lem n e = ltb-true n _ (sym (op_exists_lem n) ∙ e)

  pub block_in_lem : (n : ℕ) → block_exists (store_of C) n ≡ true → n < block_count C
  block_in_lem n e = ltb-true n _ (sym (block_exists_lem n) ∙ e)

  pub region_exists_lem : (n : ℕ) → region_exists (store_of C) n ≡ ltb n (region_count C)
  unfolding region_exists
  region_exists_lem n = ap (ltb n) regions_length

  pub value_exists_lem : (n : ℕ) → value_exists (store_of C) n ≡ ltb n (value_count C)
  unfolding value_exists
  value_exists_lem n = ap (ltb n) values_length

  pub op_read : (n : ℕ) → n < op_count C → op_at (store_of C) n ≡ op_of C n
  unfolding op_at store_of
  op_read n h = get_d_tabulate (op_count C) (op_of C) n no_op h

  pub block_read : (m : ℕ) → m < block_count C → block_at (store_of C) m ≡ block_of C m
  unfolding block_at store_of
  block_read m h = get_d_tabulate (block_count C) (block_of C) m no_block h

  pub value_read : (v : ℕ) → v < value_count C → value_at (store_of C) v ≡ value_of C v
  unfolding value_at store_of
  value_read v h = get_d_tabulate (value_count C) (value_of C) v no_value h

  pub region_read_lem : (r : ℕ) → r < region_count C → get_or (store_of C).regions r 0 ≡ at C region_op r
  unfolding store_of
  region_read_lem r h = get_d_tabulate (region_count C) (at C region_op) r 0 h

  pub parent_read_lem : (n : ℕ) → n < op_count C → parent_of (store_of C) n ≡ parent_from (at C op_parent n)
  unfolding parent_of op_of
  parent_read_lem n h = ap (λ (o : Op). o.parent) (op_read n h)

  pub around_read : (b : ℕ) → b < block_count C → at C block_region b < region_count C → op_around (store_of C) b ≡ around C b
  unfolding op_around block_of
  around_read b h l = ap (λ (o : Block). get_or (store_of C).regions o.region 0) (block_read b h) ∙ region_read_lem (at C block_region b) l
