-- A child list by its column: a child's word names its owner, and lies in the owner's range, so to look for the next child is to look at the words of the range one by one. Assumes nothing.
use Prim.Native.Nat.{ℕ, zero, suc, ◌+◌, ◌<◌, ◌≤◌}
use native.Mathlib.Numerals.{add-one}
use native.Mathlib.Decide.{ℕ_discrete, dec_lt}
use native.Mathlib.Omega.{arith}
use mathlib.Core.Bool.{Bool, true, false, cond}
use mathlib.Core.List.{List, ◌∷◌, Memᴰ}
use mathlib.Core.Logic.{◌↔◌}
use Rattle.std.specs.Prelude.{Option, None, Some}
use mathlib.Core.Path.{◌≡◌, refl, sym, ap, subst, ◌∙◌}
use borrow.Author.Tests.{eqb-true, eq-eqb, le-leb, lt-leb}
use lib.Dec.{eqb}
use Rattle.rules.specs.Lists.{numbers_from, numbers_where}
use Rattle.rules.specs.Store.{Op, Block, is_parent, ops_of, blocks_of}
use Rattle.rules.proofs.Basics.Tests.{clash}
use Rattle.rules.proofs.Soundness.Children.{ops_in_lem, blocks_in_lem}
use Rattle.layout.specs.Columns.{Cols, at, op_parent, region_block_first, region_block_end, block_region, block_op_first, block_op_end}
use Rattle.layout.specs.Reading.{tabulate_from, tabulate, op_count, block_count, region_count, parent_from, op_of, block_of, store_of}
use Rattle.layout.specs.Soundness.{placed}
use Rattle.layout.specs.Children.{first_from}
use Rattle.layout.proofs.Laid.{Laid, InRange}
use Rattle.layout.proofs.Tabulate.{ops_length, blocks_length, parent_read_lem, block_read}
use Rattle.layout.proofs.Nesting.{placed_facts}

-- to look from n on for the first word that is c, up to the range's end, is to look for the list's first entry from n on
pub record Scan (word : ℕ → ℕ) (c end : ℕ) (xs : List ℕ) : Type 0 where
  pub found : (n m : ℕ) → n ≤ m → m < end → word m ≡ c → ((i : ℕ) → n ≤ i → i < m → word i ≡ c → ⊥) → first_from n xs ≡ Some m
  pub missing : (n : ℕ) → ((i : ℕ) → n ≤ i → i < end → word i ≡ c → ⊥) → first_from n xs ≡ None

-- ---- an entry passes the test exactly where its word is c

module _ {A : Type 0} (p : A → Bool) (f : ℕ → A) (word : ℕ → ℕ) (c : ℕ) (same : (i : ℕ) → (p (f i) ≡ true) ↔ (word i ≡ c)) where
  mem_from : (i n v : ℕ) → i ≤ v → v < i + n → word v ≡ c → Memᴰ v (numbers_from i p (tabulate_from i n f))
  unfolding numbers_from tabulate_from
  mem_from i zero v h l e = absurd (omega arith)
  mem_from i (suc n) v h l e = go (p (f i)) refl (ℕ_discrete v i) (λ h'. mem_from (suc i) n v h' (omega arith) e)
    where
      go : (b : Bool) → p (f i) ≡ b → Dec (v ≡ i) → (suc i ≤ v → Memᴰ v (numbers_from (suc i) p (tabulate_from (suc i) n f)))
          → Memᴰ v (cond b (i ∷ numbers_from (suc i) p (tabulate_from (suc i) n f)) (numbers_from (suc i) p (tabulate_from (suc i) n f)))
      go true t (yes k) rest = Memᴰ.head k
      go true t (no ne) rest = Memᴰ.tail (rest (omega arith))
      go false t (yes k) rest = clash ((same i).1 (subst (λ (j : ℕ). word j ≡ c) k e)) t
      go false t (no ne) rest = rest (omega arith)

  -- a number below n, or whose word is not c, is not the first
  skipped : (i n : ℕ) (xs : List ℕ) → (n ≤ i → word i ≡ c → ⊥) → first_from n (cond (p (f i)) (i ∷ xs) xs) ≡ first_from n xs
  unfolding first_from
  skipped i n xs out = go (p (f i)) refl (dec_lt i n)
    where
      go : (b : Bool) → p (f i) ≡ b → Dec (i < n) → first_from n (cond b (i ∷ xs) xs) ≡ first_from n xs
      go true t (yes l) = rw (lt-leb n i l) refl
      go true t (no l) = absurd (out (omega arith) ((same i).0 t))
      go false t d = refl

  found_from : (i k n m : ℕ) → n ≤ m → i ≤ m → m < i + k → word m ≡ c → ((j : ℕ) → n ≤ j → j < m → word j ≡ c → ⊥)
      → first_from n (numbers_from i p (tabulate_from i k f)) ≡ Some m
  unfolding numbers_from tabulate_from first_from
  found_from i zero n m h h' l e before = absurd (omega arith)
  found_from i (suc k) n m h h' l e before = go (ℕ_discrete i m) (λ l'. found_from (suc i) k n m h l' (omega arith) e before)
    where
      rest : List ℕ
      rest = numbers_from (suc i) p (tabulate_from (suc i) k f)

      go : Dec (i ≡ m) → (suc i ≤ m → first_from n rest ≡ Some m) → first_from n (cond (p (f i)) (i ∷ rest) rest) ≡ Some m
      go (yes q) later = rw ((same i).1 (subst (λ (j : ℕ). word j ≡ c) (sym q) e), le-leb n i (omega arith)) (ap {B = Option ℕ} Some q)
      go (no ne) later = skipped i n rest (λ a. before i a (omega arith)) ∙ later (omega arith)

  none_from : (i k n : ℕ) → ((j : ℕ) → n ≤ j → j < i + k → word j ≡ c → ⊥) → first_from n (numbers_from i p (tabulate_from i k f)) ≡ None
  unfolding numbers_from tabulate_from first_from
  none_from i zero n out = refl
  none_from i (suc k) n out = skipped i n _ (λ a. out i a (omega arith)) ∙ none_from (suc i) k n (λ j a l. out j a (omega arith))

  child_mem : (count v : ℕ) → v < count → word v ≡ c → Memᴰ v (numbers_where p (tabulate count f))
  unfolding numbers_where tabulate
  child_mem count v l e = mem_from 0 count v (omega arith) (omega arith) e

  -- the entries lie in the range
  child_scan : (first end count : ℕ) → end ≤ count → ((i : ℕ) → i < count → word i ≡ c → InRange first end i) → Scan word c end (numbers_where p (tabulate count f))
  unfolding numbers_where tabulate
  child_scan first end count fits inside =
      record {
        found = λ n m h l e before. found_from 0 count n m h (omega arith) (omega arith) e before;
        missing = λ n out. none_from 0 count n (λ i a l e. out i a (inside i (omega arith) e).below e);
      }

-- ---- the operations of a block

parent_word_lem : (b w : ℕ) → (is_parent b (parent_from w) ≡ true) ↔ (w ≡ b + 1)
unfolding is_parent parent_from
parent_word_lem b zero = (λ t. clash t refl, λ e. absurd (omega arith))
parent_word_lem b (suc q) = (λ t. let e : q ≡ b = eqb-true q b t in omega arith, λ e. eq-eqb q b (omega arith))

-- what stands in the list of a block's operations: an operation in the block's range, whose word names the block
pub record OpChild (C : Cols) (b n : ℕ) : Type 0 where
  pub exists : n < op_count C
  pub word : at C op_parent n ≡ suc b
  pub place : InRange (at C block_op_first b) (at C block_op_end b) n

-- and of a region's blocks
pub record BlockChild (C : Cols) (r m : ℕ) : Type 0 where
  pub exists : m < block_count C
  pub word : at C block_region m ≡ r
  pub place : InRange (at C region_block_first r) (at C region_block_end r) m

module _ (C : Cols) where
  pub ops_scan_all : (b : ℕ) → Scan (at C op_parent) (b + 1) (op_count C) (ops_of (store_of C) b)
  unfolding ops_of store_of op_of
  ops_scan_all b =
      child_scan (λ (o : Op). is_parent b o.parent) (op_of C) (at C op_parent) (b + 1) (λ i. parent_word_lem b (at C op_parent i))
      0 (op_count C) (op_count C) (omega arith) (λ i l e. record { from = omega arith; below = l })

  pub blocks_scan_all : (r : ℕ) → Scan (at C block_region) r (block_count C) (blocks_of (store_of C) r)
  unfolding blocks_of store_of block_of
  blocks_scan_all r =
      child_scan (λ (x : Block). eqb x.region r) (block_of C) (at C block_region) r (λ i. (eqb-true _ r, eq-eqb _ r))
      0 (block_count C) (block_count C) (omega arith) (λ i l e. record { from = omega arith; below = l })

module _ (C : Cols) (h : Laid C) where
  pub op_inside : (b n : ℕ) → n < op_count C → at C op_parent n ≡ suc b → InRange (at C block_op_first b) (at C block_op_end b) n
  unfolding parent_from
  op_inside b n l e = (placed_facts C n b (subst (λ (w : ℕ). placed C n (parent_from w) ≡ true) e (h.op n l).place)).place

  pub ops_facts : (b : ℕ) {n : ℕ} → Memᴰ n (ops_of (store_of C) b) → OpChild C b n
  unfolding is_parent
  ops_facts b {n} m =
      let (l, e) = ops_in_lem (store_of C) b m in
      let l' : n < op_count C = subst (λ (k : ℕ). n < k) (ops_length C) l in
      let w : at C op_parent n ≡ b + 1 = (parent_word_lem b _).0 (ap (is_parent b) (sym (parent_read_lem C n l') ∙ e) ∙ eq-eqb b b refl) in
      record { exists = l'; word = w ∙ add-one b; place = op_inside b n l' (w ∙ add-one b) }

  pub ops_mem : (b n : ℕ) → n < op_count C → at C op_parent n ≡ suc b → Memᴰ n (ops_of (store_of C) b)
  unfolding ops_of store_of op_of
  ops_mem b n l e =
      child_mem (λ (o : Op). is_parent b o.parent) (op_of C) (at C op_parent) (b + 1) (λ i. parent_word_lem b (at C op_parent i)) (op_count C) n l (e ∙ sym (add-one b))

  pub ops_scan : (b : ℕ) → b < block_count C → Scan (at C op_parent) (b + 1) (at C block_op_end b) (ops_of (store_of C) b)
  unfolding ops_of store_of op_of
  ops_scan b l =
      child_scan (λ (o : Op). is_parent b o.parent) (op_of C) (at C op_parent) (b + 1) (λ i. parent_word_lem b (at C op_parent i))
      (at C block_op_first b) (at C block_op_end b) (op_count C) (h.block b l).ops (λ i l' e. op_inside b i l' (e ∙ add-one b))

  -- ---- the blocks of a region

  pub block_inside : (r m : ℕ) → m < block_count C → at C block_region m ≡ r → InRange (at C region_block_first r) (at C region_block_end r) m
  block_inside r m l e = subst (λ (x : ℕ). InRange (at C region_block_first x) (at C region_block_end x) m) e (h.block m l).place

  pub blocks_facts : (r : ℕ) {m : ℕ} → Memᴰ m (blocks_of (store_of C) r) → BlockChild C r m
  unfolding block_of
  blocks_facts r {m} k =
      let (l, e) = blocks_in_lem (store_of C) r k in
      let l' : m < block_count C = subst (λ (x : ℕ). m < x) (blocks_length C) l in
      let w : at C block_region m ≡ r = sym (ap (λ (x : Block). x.region) (block_read C m l')) ∙ e in
      record { exists = l'; word = w; place = block_inside r m l' w }

  pub blocks_mem : (r m : ℕ) → m < block_count C → at C block_region m ≡ r → Memᴰ m (blocks_of (store_of C) r)
  unfolding blocks_of store_of block_of
  blocks_mem r = child_mem (λ (x : Block). eqb x.region r) (block_of C) (at C block_region) r (λ i. (eqb-true _ r, eq-eqb _ r)) (block_count C)

  pub blocks_scan : (r : ℕ) → r < region_count C → Scan (at C block_region) r (at C region_block_end r) (blocks_of (store_of C) r)
  unfolding blocks_of store_of block_of
  blocks_scan r l =
      child_scan (λ (x : Block). eqb x.region r) (block_of C) (at C block_region) r (λ i. (eqb-true _ r, eq-eqb _ r))
      (at C region_block_first r) (at C region_block_end r) (block_count C) (h.region r l).blocks (block_inside r)
