-- A key taken out is read as the rules take it, and the columns stay laid out: owners' slots are apart, and what the owner's count falls by the total falls by.
-- Assumes nothing.
use Prim.Native.Nat.{ℕ, ◌+◌, ◌<◌, ◌≤◌}
use native.Mathlib.Omega.{arith}
use mathlib.Core.List.{List}
use mathlib.Core.Logic.{◌⊎◌, inl, inr}
use mathlib.Core.Path.{◌≡◌, sym, ap, ap₂, subst, ◌∙◌}
use Rattle.rules.specs.Lists.{sum}
use Rattle.rules.specs.Store.{max_own_keys}
use Rattle.rules.specs.declared.types.Owner.{Owner}
use Rattle.rules.specs.declared.types.Owner.TheVariants.{Op as of_op, Block as of_block}
use Rattle.layout.specs.Columns.{Cols, at, op_attributes, op_operand_first, op_operand_end, block_attributes}
use Rattle.layout.specs.Reading.{slice, op_count, block_count, region_count, value_count, attribute_count, slots_of, attribute_at, attributes_from, op_of, block_of, value_of, store_of}
use Rattle.layout.specs.Soundness.{attribute_sum}
use Rattle.layout.specs.Owners.{key_count, count_column, owner_number}
use Rattle.layout.proofs.Laid.{Laid}
use Rattle.layout.proofs.Tabulate.{tabulate_cong}
use Rattle.layout.proofs.OwnerKeys.{OwnerIn, owner_keys}
use Rattle.layout.specs.Journal.{op_without_key, block_without_key, key_taken}
use Rattle.mutation.proofs.Changed.{update_tabulate, op_with, block_with, sum_changed}
use Rattle.mutation.proofs.Patched.{touched, patched, patched_counts, kept_path, laid_patched}
use Rattle.mutation.proofs.Written.{op_block, owner_same, slots_apart}
use Rattle.undo_log.proofs.KeyTaken.{Taken}

module _ (C D : Cols) (w : Owner) (k : ℕ) (h : Laid C) (l : OwnerIn C w) (p : Taken C D w k) where
  -- another owner's attributes
  listed : (u : Owner) → OwnerIn C u → (u ≡ w → ⊥) → attributes_from D (slots_of u) (key_count D u) ≡ attributes_from C (slots_of u) (key_count C u)
  unfolding attributes_from
  listed u b ne =
      ap (attributes_from D (slots_of u)) (p.others u ne)
      ∙ tabulate_cong (key_count C u) _ _ (λ i c. p.theirs (slots_of u + i) (go i c (slots_apart C u w h b l ne)))
    where
      go : (i : ℕ) → i < key_count C u → (slots_of u + 8 ≤ slots_of w) ⊎ (slots_of w + 8 ≤ slots_of u) → (slots_of u + i < slots_of w) ⊎ (slots_of w + 8 ≤ slots_of u + i)
      go i c (inl q) = inl (omega (arith, owner_keys C u h b))
      go i c (inr q) = inr (omega arith)

  op_same : (n : ℕ) → n < op_count C → (of_op n ≡ w → ⊥) → op_of (patched C D) n ≡ op_of C n
  unfolding op_of patched touched at attribute_at attributes_from key_count count_column owner_number
  op_same n b ne = ap₂ (op_with (op_of C n)) (ap (λ (xs : List ℕ). slice xs (at C op_operand_first n) (at C op_operand_end n)) p.operands) (listed (of_op n) b ne)

  block_same : (m : ℕ) → m < block_count C → (of_block m ≡ w → ⊥) → block_of (patched C D) m ≡ block_of C m
  unfolding block_of patched touched at attribute_at attributes_from key_count count_column owner_number
  block_same m b ne = ap (block_with (block_of C m)) (listed (of_block m) b ne)

  keys_kept : (u : Owner) → OwnerIn C u → key_count D u ≤ max_own_keys
  keys_kept u b = go (owner_same u w)
    where
      go : Dec (u ≡ w) → key_count D u ≤ max_own_keys
      go (yes e) = subst (λ (v : Owner). key_count D v ≤ max_own_keys) (sym e) p.keys
      go (no ne) = omega (arith, p.others u ne, owner_keys C u h b)

op_mine : (C D : Cols) (n k : ℕ) → Taken C D (of_op n) k → op_of (patched C D) n ≡ op_without_key k (op_of C n)
unfolding op_of op_without_key patched touched at attribute_at attributes_from key_count count_column owner_number
op_mine C D n k p = ap₂ (op_with (op_of C n)) (ap (λ (xs : List ℕ). slice xs (at C op_operand_first n) (at C op_operand_end n)) p.operands) p.mine

block_mine : (C D : Cols) (m k : ℕ) → Taken C D (of_block m) k → block_of (patched C D) m ≡ block_without_key k (block_of C m)
unfolding block_of block_without_key patched touched at attribute_at attributes_from key_count count_column owner_number
block_mine C D m k p = ap (block_with (block_of C m)) p.mine

pub taken_reads : (C D : Cols) (w : Owner) (k : ℕ) → Laid C → OwnerIn C w → Taken C D w k → store_of D ≡ key_taken (store_of C) w k
unfolding store_of key_taken patched patched_counts touched op_count block_count region_count value_count value_of at
taken_reads C D (of_op n) k h l p =
    ap store_of (kept_path C D p.kept)
    ∙ λ j. record {
      ops = update_tabulate (op_without_key k) n (op_count C) (op_of C) (op_of (patched C D)) l (λ i b ne. op_same C D (of_op n) k h l p i b (λ e. ne (cc))) (op_mine C D n k p) j;
      blocks = tabulate_cong (block_count C) (block_of (patched C D)) (block_of C) (λ m b. block_same C D (of_op n) k h l p m b (λ e. op_block n m (sym e))) j;
      regions = (store_of C).regions;
      values = (store_of C).values;
    }
taken_reads C D (of_block m) k h l p =
    ap store_of (kept_path C D p.kept)
    ∙ λ j. record {
      ops = tabulate_cong (op_count C) (op_of (patched C D)) (op_of C) (λ i b. op_same C D (of_block m) k h l p i b (op_block i m)) j;
      blocks = update_tabulate (block_without_key k) m (block_count C) (block_of C) (block_of (patched C D)) l (λ i b ne. block_same C D (of_block m) k h l p i b (λ e. ne (cc))) (block_mine C D m k p) j;
      regions = (store_of C).regions;
      values = (store_of C).values;
    }

-- the owners' counts sum up to the total
sum_kept : (C D : Cols) (w : Owner) (k : ℕ) → Laid C → OwnerIn C w → Taken C D w k → attribute_sum (patched C D) ≡ attribute_count D
unfolding attribute_sum key_count count_column owner_number patched patched_counts touched op_count block_count at
sum_kept C D (of_op n) k h l p =
    omega (
      arith,
      p.total,
      h.attributes,
      sum_changed n (op_count C) (at C op_attributes) (at D op_attributes) l (λ i b ne. p.others (of_op i) (λ e. ne (cc))),
      ap sum (tabulate_cong (block_count C) (at D block_attributes) (at C block_attributes) (λ m b. p.others (of_block m) (λ e. op_block n m (sym e)))),
    )
sum_kept C D (of_block m) k h l p =
    omega (
      arith,
      p.total,
      h.attributes,
      sum_changed m (block_count C) (at C block_attributes) (at D block_attributes) l (λ i b ne. p.others (of_block i) (λ e. ne (cc))),
      ap sum (tabulate_cong (op_count C) (at D op_attributes) (at C op_attributes) (λ i b. p.others (of_op i) (op_block i m))),
    )

pub taken_laid : (C D : Cols) (w : Owner) (k : ℕ) → Laid C → OwnerIn C w → Taken C D w k → Laid D
unfolding key_count count_column owner_number
taken_laid C D w k h l p =
    subst Laid (sym (kept_path C D p.kept))
    (laid_patched C D h (λ n b. keys_kept C D w k h l p (of_op n) b) (λ m b. keys_kept C D w k h l p (of_block m) b) p.most (sum_kept C D w k h l p))
