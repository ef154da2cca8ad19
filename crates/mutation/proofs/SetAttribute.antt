-- A set attribute is read as the rules put it, and the columns stay laid out: owners' slots are apart, and what the owner's count grows by the total grows by. Assumes nothing.
use Prim.Native.Nat.{ℕ, ◌+◌, ◌<◌, ◌≤◌}
use native.Mathlib.Omega.{arith}
use mathlib.Core.Bool.{Bool, true, false, cond}
use mathlib.Core.List.{List}
use mathlib.Core.Logic.{◌⊎◌, inl, inr}
use mathlib.Core.Path.{◌≡◌, refl, sym, ap, ap₂, subst, ◌∙◌}
use Rattle.rules.specs.Lists.{sum}
use Rattle.rules.specs.Store.{max_own_keys, max_attributes, max_attribute_kind}
use Rattle.rules.specs.declared.types.Attribute.{Attribute}
use Rattle.rules.specs.declared.types.Owner.{Owner}
use Rattle.rules.specs.declared.types.Owner.TheVariants.{Op as of_op, Block as of_block}
use Rattle.rules.specs.Building.{set_attribute, op_with_attribute, block_with_attribute, applied}
use Rattle.layout.specs.Columns.{Cols, at, op_attributes, op_operand_first, op_operand_end, block_attributes}
use Rattle.layout.specs.Reading.{slice, op_count, block_count, region_count, value_count, attribute_count, slots_of, attribute_at, attributes_from, op_of, block_of, value_of, store_of}
use Rattle.layout.specs.Soundness.{attribute_sum}
use Rattle.layout.specs.Owners.{key_count, count_column, owner_number}
use Rattle.layout.proofs.Laid.{Shaped, Laid}
use Rattle.layout.proofs.Tabulate.{tabulate_cong}
use Rattle.layout.proofs.OwnerKeys.{OwnerIn, owner_keys}
use Rattle.mutation.specs.SetWrites.{slot_for, key_there, replaced, added, with_attribute}
use Rattle.mutation.specs.Doing.{Behind}
use Rattle.mutation.proofs.SetBehind.{kept_behind}
use Rattle.mutation.proofs.Changed.{update_tabulate, op_with, block_with, sum_changed}
use Rattle.mutation.proofs.Patched.{touched, patched, patched_counts, kept_path, laid_patched}
use Rattle.mutation.proofs.Written.{Written, op_block, owner_same, slots_apart}
use Rattle.mutation.proofs.Replaced.{replaced_written}
use Rattle.mutation.proofs.Added.{added_written}

module _ (C D : Cols) (w : Owner) (a : Attribute) (h : Laid C) (l : OwnerIn C w) (p : Written C D w a) where
  -- another owner's attributes
  listed : (u : Owner) → OwnerIn C u → (u ≡ w → ⊥) → attributes_from D (slots_of u) (key_count D u) ≡ attributes_from C (slots_of u) (key_count C u)
  unfolding attributes_from
  listed u b ne =
      ap (attributes_from D (slots_of u)) (p.others u ne)
      ∙ tabulate_cong (key_count C u) _ _ (λ i c. p.theirs (slots_of u + i) (go i c (slots_apart C u w h b l ne)))
    where
      go : (i : ℕ) → i < key_count C u → (slots_of u + 8 ≤ slots_of w) ⊎ (slots_of w + 8 ≤ slots_of u) → (slots_of u + i < slots_of w) ⊎ (slots_of w + 8 ≤ slots_of u + i)
      go i c (inl q) = inl (omega (arith, owner_keys C u h b))
      go i c (inr q) = inr (omega arith)

  op_same : (k : ℕ) → k < op_count C → (of_op k ≡ w → ⊥) → op_of (patched C D) k ≡ op_of C k
  unfolding op_of patched touched at attribute_at attributes_from key_count count_column owner_number
  op_same k b ne = ap₂ (op_with (op_of C k)) (ap (λ (xs : List ℕ). slice xs (at C op_operand_first k) (at C op_operand_end k)) p.operands) (listed (of_op k) b ne)

  block_same : (m : ℕ) → m < block_count C → (of_block m ≡ w → ⊥) → block_of (patched C D) m ≡ block_of C m
  unfolding block_of patched touched at attribute_at attributes_from key_count count_column owner_number
  block_same m b ne = ap (block_with (block_of C m)) (listed (of_block m) b ne)

  keys_kept : (u : Owner) → OwnerIn C u → key_count D u ≤ max_own_keys
  keys_kept u b = go (owner_same u w)
    where
      go : Dec (u ≡ w) → key_count D u ≤ max_own_keys
      go (yes e) = subst (λ (v : Owner). key_count D v ≤ max_own_keys) (sym e) p.keys
      go (no ne) = omega (arith, p.others u ne, owner_keys C u h b)

op_mine : (C D : Cols) (n : ℕ) (a : Attribute) → Written C D (of_op n) a → op_of (patched C D) n ≡ op_with_attribute a (op_of C n)
unfolding op_of op_with_attribute patched touched at attribute_at attributes_from key_count count_column owner_number
op_mine C D n a p = ap₂ (op_with (op_of C n)) (ap (λ (xs : List ℕ). slice xs (at C op_operand_first n) (at C op_operand_end n)) p.operands) p.mine

block_mine : (C D : Cols) (m : ℕ) (a : Attribute) → Written C D (of_block m) a → block_of (patched C D) m ≡ block_with_attribute a (block_of C m)
unfolding block_of block_with_attribute patched touched at attribute_at attributes_from key_count count_column owner_number
block_mine C D m a p = ap (block_with (block_of C m)) p.mine

written_reads : (C D : Cols) (w : Owner) (a : Attribute) → Laid C → OwnerIn C w → Written C D w a → store_of D ≡ applied (store_of C) (set_attribute w a)
unfolding store_of applied patched patched_counts touched op_count block_count region_count value_count value_of at
written_reads C D (of_op n) a h l p =
    ap store_of (kept_path C D p.kept)
    ∙ λ j. record {
      ops = update_tabulate (op_with_attribute a) n (op_count C) (op_of C) (op_of (patched C D)) l (λ k b ne. op_same C D (of_op n) a h l p k b (λ e. ne (cc))) (op_mine C D n a p) j;
      blocks = tabulate_cong (block_count C) (block_of (patched C D)) (block_of C) (λ m b. block_same C D (of_op n) a h l p m b (λ e. op_block n m (sym e))) j;
      regions = (store_of C).regions;
      values = (store_of C).values;
    }
written_reads C D (of_block m) a h l p =
    ap store_of (kept_path C D p.kept)
    ∙ λ j. record {
      ops = tabulate_cong (op_count C) (op_of (patched C D)) (op_of C) (λ k b. op_same C D (of_block m) a h l p k b (op_block k m)) j;
      blocks = update_tabulate (block_with_attribute a) m (block_count C) (block_of C) (block_of (patched C D)) l (λ k b ne. block_same C D (of_block m) a h l p k b (λ e. ne (cc))) (block_mine C D m a p) j;
      regions = (store_of C).regions;
      values = (store_of C).values;
    }

-- the owners' counts sum up to the total
sum_kept : (C D : Cols) (w : Owner) (a : Attribute) → Laid C → OwnerIn C w → Written C D w a → attribute_sum (patched C D) ≡ attribute_count D
unfolding attribute_sum key_count count_column owner_number patched patched_counts touched op_count block_count at
sum_kept C D (of_op n) a h l p =
    omega (
      arith,
      p.total,
      h.attributes,
      sum_changed n (op_count C) (at C op_attributes) (at D op_attributes) l (λ k b ne. p.others (of_op k) (λ e. ne (cc))),
      ap sum (tabulate_cong (block_count C) (at D block_attributes) (at C block_attributes) (λ m b. p.others (of_block m) (λ e. op_block n m (sym e)))),
    )
sum_kept C D (of_block m) a h l p =
    omega (
      arith,
      p.total,
      h.attributes,
      sum_changed m (block_count C) (at C block_attributes) (at D block_attributes) l (λ k b ne. p.others (of_block k) (λ e. ne (cc))),
      ap sum (tabulate_cong (op_count C) (at D op_attributes) (at C op_attributes) (λ k b. p.others (of_op k) (op_block k m))),
    )

written_laid : (C D : Cols) (w : Owner) (a : Attribute) → Laid C → OwnerIn C w → Written C D w a → Laid D
unfolding key_count count_column owner_number
written_laid C D w a h l p =
    subst Laid (sym (kept_path C D p.kept))
    (laid_patched C D h (λ n b. keys_kept C D w a h l p (of_op n) b) (λ m b. keys_kept C D w a h l p (of_block m) b) p.most (sum_kept C D w a h l p))

-- ---- the call

-- a new key finds room with its owner and in the total
abbrev pub KeyRoom : Cols → Owner → ℕ → Type 0
KeyRoom C w key = key_there C w key ≡ false → (key_count C w + 1 ≤ max_own_keys) × (attribute_count C + 1 ≤ max_attributes)

module _ (C : Cols) (w : Owner) (a : Attribute) (sh : Shaped C) (h : Laid C) (l : OwnerIn C w) (fits : a.kind ≤ max_attribute_kind) (room : KeyRoom C w a.key) where
  attribute_written : Written C (with_attribute C w a) w a
  unfolding with_attribute
  attribute_written = go (key_there C w a.key) refl
    where
      go : (b : Bool) → key_there C w a.key ≡ b → Written C (cond b (replaced C (slot_for C w a.key) a) (added C w (slot_for C w a.key) a)) w a
      go true t = replaced_written C w a sh h l fits t
      go false t = added_written C w a sh h l fits t (room t).0 (room t).1

  pub attribute_reads : store_of (with_attribute C w a) ≡ applied (store_of C) (set_attribute w a)
  attribute_reads = written_reads C (with_attribute C w a) w a h l attribute_written

  pub attribute_behind : Behind C (with_attribute C w a)
  attribute_behind = kept_behind C (with_attribute C w a) attribute_written.kept

  pub attribute_laid : Laid (with_attribute C w a)
  attribute_laid = written_laid C (with_attribute C w a) w a h l attribute_written
