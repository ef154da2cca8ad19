-- A key that is there: its slot's kind, flag and content are written, so that attribute alone is another. Assumes nothing.
use Prim.Native.Nat.{ℕ, ◌+◌, ◌<◌, ◌≤◌}
use native.Mathlib.Omega.{arith}
use mathlib.Core.Bool.{true}
use mathlib.Core.Logic.{◌⊎◌, inl, inr}
use mathlib.Core.Path.{◌≡◌, refl, sym, ap, ◌∙◌}
use lib.Seq.{get_or-set_same, get_or-set_other}
use Rattle.rules.specs.Store.{max_attribute_kind}
use Rattle.rules.specs.declared.types.Attribute.{Attribute}
use Rattle.rules.specs.declared.types.Owner.{Owner}
use Rattle.rules.specs.declared.types.Owner.TheVariants.{Op as of_op, Block as of_block}
use Rattle.rules.specs.Building.{put_attribute}
use Rattle.layout.specs.Columns.{Cols, at, write, counts, slot_key, slot_kind, slot_content, slot_count}
use Rattle.layout.specs.Reading.{slots_of, kind_code, attribute_count, attribute_at, attributes_from}
use Rattle.layout.specs.Owners.{key_count, count_column, owner_number}
use Rattle.layout.proofs.Laid.{Shaped, Laid}
use Rattle.layout.proofs.Buffer.{write_other}
use Rattle.layout.proofs.KindWords.{attribute_read_lem}
use Rattle.layout.proofs.OwnerKeys.{OwnerIn, owner_keys, slots_fit}
use Rattle.mutation.specs.SetWrites.{slot_for, key_there, replaced}
use Rattle.mutation.proofs.Changed.{update_tabulate, attribute_same, set_update}
use Rattle.mutation.proofs.Patched.{OnlyTouched, touched, untouched}
use Rattle.mutation.proofs.KeySlot.{own, place, slot_found, there_within, there_key, there_put}
use Rattle.mutation.proofs.Written.{Written}

module _ (C : Cols) (w : Owner) (a : Attribute) (sh : Shaped C) (h : Laid C) (l : OwnerIn C w) (fits : a.kind ≤ max_attribute_kind) (t : key_there C w a.key ≡ true) where
  abbrev word : ℕ
  word = kind_code a.kind a.inherent

  abbrev s : ℕ
  s = slot_for C w a.key

  abbrev D : Cols
  D = replaced C s a

  keys_same : (u : Owner) → key_count D u ≡ key_count C u
  unfolding key_count count_column owner_number replaced write at
  keys_same (of_op n) = refl
  keys_same (of_block m) = refl

  slot_from : slots_of w ≤ s
  slot_from = omega (arith, slot_found C w a.key)

  slot_high : s < slots_of w + 8
  slot_high = omega (arith, slot_found C w a.key, there_within C w a.key t, owner_keys C w h l)

  slot_other : (j : ℕ) → (j ≡ s → ⊥) → attribute_at D j ≡ attribute_at C j
  unfolding attribute_at replaced write at
  slot_other j ne = attribute_same refl (get_or-set_other (C slot_kind) s j word 0 ne) (get_or-set_other (C slot_content) s j a.content 0 ne)

  slot_there : attribute_at D s ≡ a
  unfolding attribute_at replaced write at
  slot_there =
      let reached : s < slot_count = omega (arith, slot_high, slots_fit C w h l) in
      attribute_same (ap (at C slot_key) (slot_found C w a.key) ∙ there_key C w a.key t)
      (get_or-set_same (C slot_kind) s word 0 (omega (arith, sh slot_kind)))
      (get_or-set_same (C slot_content) s a.content 0 (omega (arith, sh slot_content)))
      ∙ attribute_read_lem a fits

  mine : attributes_from D (slots_of w) (key_count D w) ≡ put_attribute a (own C w)
  unfolding attributes_from
  mine =
      let p : ℕ = place C w a.key in
      let e : s ≡ slots_of w + p = slot_found C w a.key in
      ap (attributes_from D (slots_of w)) (keys_same w)
      ∙ update_tabulate (λ (x : Attribute). a) p (key_count C w) (λ (i : ℕ). attribute_at C (slots_of w + i)) (λ (i : ℕ). attribute_at D (slots_of w + i)) (there_within C w a.key t)
      (λ k m ne. slot_other (slots_of w + k) (omega arith))
      (ap (attribute_at D) (sym e) ∙ slot_there)
      ∙ sym (set_update (own C w) p a) ∙ sym (there_put C w a t)

  outside : (j : ℕ) → (j < slots_of w) ⊎ (slots_of w + 8 ≤ j) → attribute_at D j ≡ attribute_at C j
  outside j (inl b) = slot_other j (omega (arith, slot_from))
  outside j (inr b) = slot_other j (omega (arith, slot_high))

  kept : OnlyTouched C D
  unfolding replaced write touched at
  kept =
      record {
        same = λ j e u. write_other (write C slot_kind s word) slot_content s a.content j (untouched j slot_content refl u) ∙ write_other C slot_kind s word j (untouched j slot_kind refl u);
        words = sh counts;
        counts_same = λ i ne. refl;
      }

  pub replaced_written : Written C D w a
  unfolding replaced write at attribute_count
  replaced_written =
      record {
        kept = kept;
        operands = refl;
        mine = mine;
        theirs = outside;
        others = λ u ne. keys_same u;
        total = omega (arith, keys_same w);
        keys = omega (arith, keys_same w, owner_keys C w h l);
        most = h.counts.attributes;
      }
