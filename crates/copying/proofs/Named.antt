-- The entries of a mapping's words are those of its lists; so the image of a name is looked up in the words. Assumes nothing.
use Rattle.std.proofs.Common.{◌≡◌, ℕ, suc, ◌+◌, ◌<◌, true, List, length, get_or, drop, sym, ap, subst, ◌∙◌, arith, get_or-take, get_or-drop}
use Rattle.std.specs.Prelude.{Option, None, Some}
use borrow.Author.Tests.{eq-eqb, ne_eqb, ltb-true}
use Rattle.rules.specs.Store.{Store}
use Rattle.rules.specs.Mapping.{Mapping, no_image, image, or_self}
use Rattle.rules.specs.Copying.{inner}
use Rattle.layout.specs.Columns.{Cols, at, op_parent}
use Rattle.layout.specs.Reading.{op_count, block_count, parent_from, store_of}
use Rattle.layout.proofs.Laid.{Laid}
use Rattle.layout.proofs.Tabulate.{parent_read_lem}
use Rattle.equivalence.specs.MappingWords.{mapping_length, mapping_of}
use Rattle.std.proofs.lemmas.List.{get_or_default}
use Rattle.rules.proofs.Basics.Tests.{passed}
use Rattle.layout.specs.Soundness.{placed}
use Rattle.copying.specs.Written.{parent_by}

module _ (w : List ℕ) (len : length w ≡ mapping_length) where
  pub value_image : (v : ℕ) → v < 2048 → or_self (get_or w (0 + v) 0) v ≡ image (mapping_of w).values v
  unfolding image mapping_of
  value_image v l =
      let e : 0 + v ≡ v = omega arith in
      let f : v < length w = omega arith in
      ap (λ (x : ℕ). or_self x v) (ap (λ (k : ℕ). get_or w k 0) e ∙ get_or_default w v 0 no_image f ∙ sym (get_or-take 2048 w v no_image l))

  pub block_image : (b : ℕ) → b < 256 → or_self (get_or w (2048 + b) 0) b ≡ image (mapping_of w).blocks b
  unfolding image mapping_of
  block_image b l =
      let f : 2048 + b < length w = omega arith in
      ap (λ (x : ℕ). or_self x b) (get_or_default w (2048 + b) 0 no_image f ∙ sym (get_or-drop 2048 w b no_image) ∙ sym (get_or-take 256 (drop 2048 w) b no_image l))

  pub op_image : (m : ℕ) → m < 512 → or_self (get_or w (2304 + m) 0) m ≡ image (mapping_of w).ops m
  unfolding image mapping_of
  op_image m l =
      let f : 2304 + m < length w = omega arith in
      ap (λ (x : ℕ). or_self x m) (get_or_default w (2304 + m) 0 no_image f ∙ sym (get_or-drop 2304 w m no_image))

-- ---- the parent

pub parent_root : (s : Store) (M : Mapping) (n : ℕ) (place : Option ℕ) (m : ℕ) → m ≡ n → place ≡ parent_by s M n place m
unfolding parent_by
parent_root s M n place m e = rw (eq-eqb m n e)

module _ (C : Cols) (M : Mapping) (n : ℕ) (place : Option ℕ) (m : ℕ) (l : m < op_count C) where
  pub parent_inner : (m ≡ n → ⊥) → inner (image M.blocks) (parent_from (at C op_parent m)) ≡ parent_by (store_of C) M n place m
  unfolding parent_by
  parent_inner ne = rw (ne_eqb m n ne) (ap (inner (image M.blocks)) (sym (parent_read_lem C m l)))

  pub parent_none : (m ≡ n → ⊥) → at C op_parent m ≡ 0 → None ≡ parent_by (store_of C) M n place m
  unfolding inner parent_from
  parent_none ne e = ap (λ (w : ℕ). inner (image M.blocks) (parent_from w)) (sym e) ∙ parent_inner ne

  pub parent_some : (m ≡ n → ⊥) → (b : ℕ) → at C op_parent m ≡ suc b → Some (image M.blocks b) ≡ parent_by (store_of C) M n place m
  unfolding inner parent_from
  parent_some ne b e = ap (λ (w : ℕ). inner (image M.blocks) (parent_from w)) (sym e) ∙ parent_inner ne

  pub parent_here : Laid C → (b : ℕ) → at C op_parent m ≡ suc b → b < block_count C
  unfolding placed parent_from
  parent_here h b e = ltb-true b (block_count C) (passed _ (subst (λ (w : ℕ). placed C m (parent_from w) ≡ true) e (h.op m l).place)).0
