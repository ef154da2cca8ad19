-- A new key: the attributes from its place on go one slot further, it takes the free slot, and the owner's count and the total grow by one. Assumes nothing.
use Prim.Native.Nat.{ℕ, suc, ◌+◌, ◌<◌, ◌≤◌}
use native.Mathlib.Nat.{add-suc}
use native.Mathlib.Omega.{arith}
use mathlib.Core.Bool.{true, false}
use mathlib.Core.List.{List}
use mathlib.Core.Logic.{◌⊎◌, inl, inr}
use mathlib.Core.Path.{◌≡◌, refl, sym, ap, ◌∙◌}
use lib.Dec.{eqb}
use lib.ListN.{length, get_or, set, length-set}
use lib.Seq.{get_or-set_same, get_or-set_other}
use Rattle.rules.specs.Store.{max_own_keys, max_attributes, max_attribute_kind}
use Rattle.rules.specs.declared.types.Attribute.{Attribute}
use Rattle.rules.specs.declared.types.Owner.{Owner}
use Rattle.rules.specs.declared.types.Owner.TheVariants.{Op as of_op, Block as of_block}
use Rattle.rules.specs.Building.{put_attribute}
use Rattle.layout.specs.Columns.{Cols, at, write, write_range, column_size, counts, op_attributes, block_attributes, operand_words, slot_key, slot_kind, slot_content, slot_count}
use Rattle.layout.specs.Reading.{slots_of, kind_code, attribute_read, attribute_count, attribute_at, attributes_from}
use Rattle.layout.specs.Owners.{key_count, count_column, owner_number}
use Rattle.layout.proofs.Laid.{Shaped, Laid}
use Rattle.layout.proofs.Buffer.{write_other, write_range_other}
use Rattle.layout.proofs.KindWords.{attribute_read_lem}
use Rattle.layout.proofs.OwnerKeys.{OwnerIn, slots_fit}
use Rattle.mutation.specs.SetWrites.{slot_for, key_there, inserted, added}
use Rattle.mutation.proofs.Changed.{attribute_same}
use Rattle.mutation.proofs.Inserted.{insert_tabulate, grown, grown_before, grown_there, grown_behind, grown_past}
use Rattle.mutation.proofs.Patched.{OnlyTouched, touched, untouched}
use Rattle.mutation.proofs.KeySlot.{own, place, place_found, slot_found, slot_low, new_put}
use Rattle.mutation.proofs.Written.{Written}

-- ---- the columns after it

-- an attribute that is grown into the slots
abbrev grown_at : Cols → ℕ → ℕ → Attribute → ℕ → Attribute
grown_at C s e a j =
    attribute_read
    (get_or (grown (C slot_key) s e a.key) j 0)
    (get_or (grown (C slot_kind) s e (kind_code a.kind a.inherent)) j 0)
    (get_or (grown (C slot_content) s e a.content) j 0)

column_touched : (w : Owner) → touched (count_column w) ≡ true
unfolding touched count_column
column_touched (of_op n) = refl
column_touched (of_block m) = refl

module _ (C : Cols) (s : ℕ) (a : Attribute) where
  added_at : (w : Owner) (j : ℕ) → attribute_at (added C w s a) j ≡ grown_at C s (slots_of w + key_count C w) a j
  unfolding attribute_at added inserted write write_range at count_column
  added_at (of_op n) j = refl
  added_at (of_block m) j = refl

  added_counts : (w : Owner) → added C w s a counts ≡ set (C counts) 6 (attribute_count C + 1)
  unfolding added inserted write write_range at count_column
  added_counts (of_op n) = refl
  added_counts (of_block m) = refl

  added_operands : (w : Owner) → added C w s a operand_words ≡ C operand_words
  unfolding added inserted write write_range at count_column
  added_operands (of_op n) = refl
  added_operands (of_block m) = refl

  added_keys : (w : Owner) → Shaped C → Laid C → OwnerIn C w → key_count (added C w s a) w ≡ key_count C w + 1
  unfolding key_count added inserted write write_range at count_column owner_number
  added_keys (of_op n) sh h l = get_or-set_same (C op_attributes) n _ 0 (omega (arith, sh op_attributes, h.counts.ops))
  added_keys (of_block m) sh h l = get_or-set_same (C block_attributes) m _ 0 (omega (arith, sh block_attributes, h.counts.blocks))

  keys_other : (w u : Owner) → (u ≡ w → ⊥) → key_count (added C w s a) u ≡ key_count C u
  unfolding key_count added inserted write write_range at count_column owner_number
  keys_other (of_op n) (of_op m) ne = get_or-set_other (C op_attributes) n m _ 0 (λ e. ne (ap of_op e))
  keys_other (of_op n) (of_block m) ne = refl
  keys_other (of_block n) (of_op m) ne = refl
  keys_other (of_block n) (of_block m) ne = get_or-set_other (C block_attributes) n m _ 0 (λ e. ne (ap of_block e))

  added_same : (w : Owner) (j : ℕ) → eqb j counts ≡ false → touched j ≡ false → added C w s a j ≡ C j
  unfolding added inserted touched
  added_same w j e u =
      write_other _ counts 6 _ j e ∙ write_other _ (count_column w) _ _ j (untouched j (count_column w) (column_touched w) u)
      ∙ write_range_other _ slot_content s _ j (untouched j slot_content refl u) ∙ write_range_other _ slot_kind s _ j (untouched j slot_kind refl u)
      ∙ write_range_other C slot_key s _ j (untouched j slot_key refl u)

-- ---- what they are read as

module _ (C : Cols) (w : Owner) (a : Attribute) (sh : Shaped C) (h : Laid C) (l : OwnerIn C w) (fits : a.kind ≤ max_attribute_kind) (t : key_there C w a.key ≡ false) (room : key_count C w + 1 ≤ max_own_keys) where
  abbrev s : ℕ
  s = slot_for C w a.key

  abbrev e : ℕ
  e = slots_of w + key_count C w

  abbrev D : Cols
  D = added C w s a

  low : s ≤ e
  low = slot_low C w a.key

  high : (k : ℕ) → column_size k ≡ slot_count → e < length (C k)
  high k z = omega (arith, sh k, z, slots_fit C w h l)

  -- the three columns go alike
  alike :
      (i j : ℕ)
      → ((xs : List ℕ) (v : ℕ) → e < length xs → get_or (grown xs s e v) i 0 ≡ get_or xs j 0)
      → attribute_at D i ≡ attribute_at C j
  unfolding attribute_at at
  alike i j f = added_at C s a w i ∙ attribute_same
      (f (C slot_key) a.key (high slot_key refl)) (f (C slot_kind) _ (high slot_kind refl)) (f (C slot_content) a.content (high slot_content refl))

  slot_there : attribute_at D s ≡ a
  slot_there =
      added_at C s a w s ∙ attribute_same
      (grown_there (C slot_key) s e a.key low (high slot_key refl))
      (grown_there (C slot_kind) s e _ low (high slot_kind refl))
      (grown_there (C slot_content) s e a.content low (high slot_content refl))
      ∙ attribute_read_lem a fits

  mine : attributes_from D (slots_of w) (key_count D w) ≡ put_attribute a (own C w)
  unfolding attributes_from
  mine =
      let p : ℕ = place C w a.key in
      let at_place : s ≡ slots_of w + p = slot_found C w a.key in
      ap (attributes_from D (slots_of w)) (added_keys C s a w sh h l)
      ∙ insert_tabulate (key_count C w) p (λ (i : ℕ). attribute_at C (slots_of w + i)) (λ (i : ℕ). attribute_at D (slots_of w + i)) a (place_found C w a.key).fits
      (λ i b. alike (slots_of w + i) (slots_of w + i) (λ xs v m. grown_before xs s e v low m (slots_of w + i) (omega arith)))
      (ap (attribute_at D) (sym at_place) ∙ slot_there)
      (λ i b c. ap (attribute_at D) (add-suc (slots_of w) i) ∙ alike (suc (slots_of w + i)) (slots_of w + i) (λ xs v m. grown_behind xs s e v low m (slots_of w + i) (omega arith) (omega arith)))
      ∙ sym (new_put C w a t)

  outside : (j : ℕ) → (j < slots_of w) ⊎ (slots_of w + 8 ≤ j) → attribute_at D j ≡ attribute_at C j
  outside j (inl b) = alike j j (λ xs v m. grown_before xs s e v low m j (omega (arith, slot_found C w a.key)))
  outside j (inr b) = alike j j (λ xs v m. grown_past xs s e v low m j (omega arith))

  kept : OnlyTouched C D
  unfolding at
  kept =
      record {
        same = added_same C s a w;
        words = ap length (added_counts C s a w) ∙ length-set (C counts) 6 _ ∙ sh counts;
        counts_same = λ i ne. ap (λ (xs : List ℕ). get_or xs i 0) (added_counts C s a w) ∙ get_or-set_other (C counts) 6 i _ 0 ne;
      }

  total_grown : attribute_count D ≡ attribute_count C + 1
  unfolding at attribute_count
  total_grown = ap (λ (xs : List ℕ). get_or xs 6 0) (added_counts C s a w) ∙ get_or-set_same (C counts) 6 _ 0 (omega (arith, sh counts))

  pub added_written : attribute_count C + 1 ≤ max_attributes → Written C D w a
  added_written most =
      record {
        kept = kept;
        operands = added_operands C s a w;
        mine = mine;
        theirs = outside;
        others = keys_other C s a w;
        total = omega (arith, total_grown, added_keys C s a w sh h l);
        keys = omega (arith, added_keys C s a w sh h l);
        most = omega (arith, total_grown);
      }
