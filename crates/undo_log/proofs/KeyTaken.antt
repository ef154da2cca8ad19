-- A key's slot taken out: the owner's attributes behind it go one slot down, and the owner's count and the total fall by one. Assumes nothing.
use Prim.Native.Nat.{ℕ, suc, ◌+◌, ◌-◌, ◌<◌, ◌≤◌}
use native.Mathlib.Nat.{add-suc}
use native.Mathlib.Omega.{arith}
use mathlib.Core.Bool.{true, false}
use mathlib.Core.List.{List, ◌++◌}
use mathlib.Core.Logic.{◌⊎◌, inl, inr}
use mathlib.Core.Path.{◌≡◌, refl, sym, ap, ◌∙◌}
use lib.Dec.{eqb}
use lib.ListN.{length, get_or, set, take, drop, length-set}
use lib.Seq.{get_or-set_same, get_or-set_other}
use Rattle.rules.specs.Store.{keys_rise, max_own_keys, max_attributes}
use Rattle.rules.specs.declared.types.Attribute.{Attribute}
use Rattle.rules.specs.declared.types.Owner.{Owner}
use Rattle.rules.specs.declared.types.Owner.TheVariants.{Op as of_op, Block as of_block}
use Rattle.layout.specs.Columns.{Cols, at, write, write_range, column_size, counts, op_attributes, block_attributes, operand_words, slot_key, slot_kind, slot_content, slot_count}
use Rattle.layout.specs.Reading.{slots_of, attribute_count, attribute_read, attribute_at, attributes_from}
use Rattle.layout.specs.Owners.{key_count, count_column, owner_number}
use Rattle.layout.proofs.Laid.{Shaped, Laid}
use Rattle.layout.proofs.Buffer.{write_other, write_range_other}
use Rattle.layout.proofs.OwnerKeys.{OwnerIn, owner_keys, slots_fit}
use Rattle.layout.proofs.Tabulate.{length_tabulate, get_d_tabulate}
use Rattle.layout.specs.Journal.{without_key}
use Rattle.mutation.specs.SetWrites.{slot_for, key_there}
use Rattle.mutation.proofs.Changed.{attribute_same}
use Rattle.mutation.proofs.Patched.{OnlyTouched, touched, untouched}
use Rattle.mutation.proofs.KeySlot.{own, place, slot_found, slot_among, there_within, there_key}
use Rattle.undo_log.specs.KeyRemoval.{removed, without_slot}
use Rattle.undo_log.proofs.KeysCounted.{keys_within}
use Rattle.undo_log.proofs.WithoutKey.{taken_there}
use Rattle.undo_log.proofs.Shrunk.{remove_tabulate, shrunk, shrunk_before, shrunk_behind, shrunk_past}

-- what a key that is taken out comes to: the owner's slots read as without it, the others' slots and counts stay
pub record Taken (C D : Cols) (w : Owner) (k : ℕ) : Type 0 where
  pub kept : OnlyTouched C D
  pub operands : D operand_words ≡ C operand_words
  pub mine : attributes_from D (slots_of w) (key_count D w) ≡ without_key k (own C w)
  pub theirs : (j : ℕ) → (j < slots_of w) ⊎ (slots_of w + 8 ≤ j) → attribute_at D j ≡ attribute_at C j
  pub others : (u : Owner) → (u ≡ w → ⊥) → key_count D u ≡ key_count C u
  pub total : attribute_count D + key_count C w ≡ attribute_count C + key_count D w
  pub keys : key_count D w ≤ max_own_keys
  pub most : attribute_count D ≤ max_attributes

-- ---- the columns after it

abbrev shrunk_at : Cols → ℕ → ℕ → ℕ → Attribute
shrunk_at C s e j =
    attribute_read (get_or (shrunk (C slot_key) s e) j 0) (get_or (shrunk (C slot_kind) s e) j 0) (get_or (shrunk (C slot_content) s e) j 0)

column_touched : (w : Owner) → touched (count_column w) ≡ true
unfolding touched count_column
column_touched (of_op n) = refl
column_touched (of_block m) = refl

module _ (C : Cols) (s : ℕ) where
  removed_at : (w : Owner) (j : ℕ) → attribute_at (without_slot C w s) j ≡ shrunk_at C s (slots_of w + key_count C w) j
  unfolding attribute_at without_slot removed write write_range at count_column
  removed_at (of_op n) j = refl
  removed_at (of_block m) j = refl

  removed_counts : (w : Owner) → without_slot C w s counts ≡ set (C counts) 6 (attribute_count C - 1)
  unfolding without_slot removed write write_range at count_column
  removed_counts (of_op n) = refl
  removed_counts (of_block m) = refl

  removed_operands : (w : Owner) → without_slot C w s operand_words ≡ C operand_words
  unfolding without_slot removed write write_range at count_column
  removed_operands (of_op n) = refl
  removed_operands (of_block m) = refl

  removed_keys : (w : Owner) → Shaped C → Laid C → OwnerIn C w → key_count (without_slot C w s) w ≡ key_count C w - 1
  unfolding key_count without_slot removed write write_range at count_column owner_number
  removed_keys (of_op n) sh h l = get_or-set_same (C op_attributes) n _ 0 (omega (arith, sh op_attributes, h.counts.ops))
  removed_keys (of_block m) sh h l = get_or-set_same (C block_attributes) m _ 0 (omega (arith, sh block_attributes, h.counts.blocks))

  keys_other : (w u : Owner) → (u ≡ w → ⊥) → key_count (without_slot C w s) u ≡ key_count C u
  unfolding key_count without_slot removed write write_range at count_column owner_number
  keys_other (of_op n) (of_op m) ne = get_or-set_other (C op_attributes) n m _ 0 (λ e. ne (ap of_op e))
  keys_other (of_op n) (of_block m) ne = refl
  keys_other (of_block n) (of_op m) ne = refl
  keys_other (of_block n) (of_block m) ne = get_or-set_other (C block_attributes) n m _ 0 (λ e. ne (ap of_block e))

  removed_same : (w : Owner) (j : ℕ) → eqb j counts ≡ false → touched j ≡ false → without_slot C w s j ≡ C j
  unfolding without_slot removed touched
  removed_same w j e u =
      write_other _ counts 6 _ j e ∙ write_other _ (count_column w) _ _ j (untouched j (count_column w) (column_touched w) u)
      ∙ write_range_other _ slot_content s _ j (untouched j slot_content refl u) ∙ write_range_other _ slot_kind s _ j (untouched j slot_kind refl u)
      ∙ write_range_other C slot_key s _ j (untouched j slot_key refl u)

-- ---- what they are read as

module _ (C : Cols) (w : Owner) (k : ℕ) (sh : Shaped C) (h : Laid C) (l : OwnerIn C w) (t : key_there C w k ≡ true) (rise : keys_rise (own C w) ≡ true) where
  abbrev s : ℕ
  s = slot_for C w k

  abbrev e : ℕ
  e = slots_of w + key_count C w

  abbrev D : Cols
  D = without_slot C w s

  low : s < e
  low = slot_among C w k t

  high : (j : ℕ) → column_size j ≡ slot_count → e ≤ length (C j)
  high j z = omega (arith, sh j, z, slots_fit C w h l, owner_keys C w h l)

  -- the three columns go alike
  alike : (i j : ℕ) → ((xs : List ℕ) → e ≤ length xs → get_or (shrunk xs s e) i 0 ≡ get_or xs j 0) → attribute_at D i ≡ attribute_at C j
  unfolding attribute_at at
  alike i j f = removed_at C s w i ∙ attribute_same
      (f (C slot_key) (high slot_key refl)) (f (C slot_kind) (high slot_kind refl)) (f (C slot_content) (high slot_content refl))

  own_there : without_key k (own C w) ≡ take (place C w k) (own C w) ++ drop (suc (place C w k)) (own C w)
  unfolding attributes_from attribute_at
  own_there =
      let p : ℕ = place C w k in
      let within : p < key_count C w = there_within C w k t in
      let d : Attribute = attribute_at C (slots_of w + p) in
      taken_there k (own C w) p d rise (omega (arith, length_tabulate (key_count C w) (λ (i : ℕ). attribute_at C (slots_of w + i))))
      (ap (λ (b : Attribute). b.key) (get_d_tabulate (key_count C w) (λ (i : ℕ). attribute_at C (slots_of w + i)) p d within) ∙ there_key C w k t)

  mine : attributes_from D (slots_of w) (key_count D w) ≡ without_key k (own C w)
  unfolding attributes_from
  mine =
      let p : ℕ = place C w k in
      let at_place : s ≡ slots_of w + p = slot_found C w k in
      ap (attributes_from D (slots_of w)) (removed_keys C s w sh h l)
      ∙ remove_tabulate (key_count C w) p (λ (i : ℕ). attribute_at C (slots_of w + i)) (λ (i : ℕ). attribute_at D (slots_of w + i)) (there_within C w k t)
      (λ i b. alike (slots_of w + i) (slots_of w + i) (λ xs m. shrunk_before xs s e low m (slots_of w + i) (omega arith)))
      (λ i b c. alike (slots_of w + i) (suc (slots_of w + i)) (λ xs m. shrunk_behind xs s e low m (slots_of w + i) (omega arith) (omega arith)) ∙ ap (attribute_at C) (sym (add-suc (slots_of w) i)))
      ∙ sym own_there

  outside : (j : ℕ) → (j < slots_of w) ⊎ (slots_of w + 8 ≤ j) → attribute_at D j ≡ attribute_at C j
  outside j (inl b) = alike j j (λ xs m. shrunk_before xs s e low m j (omega (arith, slot_found C w k)))
  outside j (inr b) = alike j j (λ xs m. shrunk_past xs s e low m j (omega (arith, owner_keys C w h l)))

  kept : OnlyTouched C D
  unfolding at
  kept =
      record {
        same = removed_same C s w;
        words = ap length (removed_counts C s w) ∙ length-set (C counts) 6 _ ∙ sh counts;
        counts_same = λ i ne. ap (λ (xs : List ℕ). get_or xs i 0) (removed_counts C s w) ∙ get_or-set_other (C counts) 6 i _ 0 ne;
      }

  total_fallen : attribute_count D ≡ attribute_count C - 1
  unfolding at attribute_count
  total_fallen = ap (λ (xs : List ℕ). get_or xs 6 0) (removed_counts C s w) ∙ get_or-set_same (C counts) 6 _ 0 (omega (arith, sh counts))

  pub key_taken_lem : Taken C D w k
  key_taken_lem =
      record {
        kept = kept;
        operands = removed_operands C s w;
        mine = mine;
        theirs = outside;
        others = keys_other C s w;
        total = omega (arith, total_fallen, removed_keys C s w sh h l, keys_within C w h l, there_within C w k t);
        keys = omega (arith, removed_keys C s w sh h l, owner_keys C w h l);
        most = omega (arith, total_fallen, h.counts.attributes);
      }
