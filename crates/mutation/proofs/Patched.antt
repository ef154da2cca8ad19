-- Columns that differ from laid out ones only in the operands, the attributes and their counts are laid out if the counts are right: every other fact of the layout is about words that stayed. Assumes nothing.
use Prim.Native.Nat.{ℕ, zero, suc, ◌<◌, ◌≤◌}
use native.Mathlib.Omega.{arith}
use mathlib.Core.Bool.{Bool, true, false, cond}
use mathlib.Core.List.{List, [], ◌∷◌, ◌++◌}
use Rattle.std.specs.Prelude.{Option, None, Some}
use mathlib.Core.Path.{◌≡◌, refl, sym, ap, subst, ◌∙◌}
use borrow.Author.Tests.{eqb-true}
use lib.Dec.{eqb}
use lib.ListN.{length, get_or}
use lib.Seq.{ext_get_or}
use Rattle.std.specs.List.{list_any}
use Rattle.rules.specs.Store.{max_attributes, max_own_keys}
use Rattle.rules.specs.declared.types.Owner.{Owner}
use Rattle.rules.specs.declared.types.Owner.TheVariants.{Op as of_op, Block as of_block}
use Rattle.rules.proofs.Basics.Tests.{clash}
use Rattle.layout.specs.Columns.{Cols, at, counts, op_parent, op_attributes, op_operand_end, op_successor_end, block_attributes, operand_words, slot_key, slot_kind, slot_content}
use Rattle.layout.specs.Reading.{tabulate_from, tabulate, op_count, block_count, region_count, value_count, operand_count, successor_count, attribute_count, parent_from}
use Rattle.layout.specs.Soundness.{end_before, placed, in_owner, value_laid, attribute_sum}
use Rattle.layout.proofs.Laid.{Laid, OpLaid, BlockLaid}
use Rattle.layout.proofs.Tabulate.{length_tabulate, get_d_tabulate, tabulate_cong}
use Rattle.mutation.proofs.LinksKept.{op_links_kept, block_links_kept}

-- the columns that may change, but for the counts
unfoldable pub touched : ℕ → Bool
touched j = list_any (eqb j) (op_attributes ∷ block_attributes ∷ operand_words ∷ slot_key ∷ slot_kind ∷ slot_content ∷ [])

unfoldable pub patched_counts : Cols → Cols → List ℕ
patched_counts C D =
    op_count C ∷ block_count C ∷ region_count C ∷ value_count C ∷ operand_count C ∷ successor_count C ∷ attribute_count D ∷ at D counts 7 ∷ []

-- the columns C, but for those of D that may have changed
unfoldable pub patched : Cols → Cols → Cols
patched C D j = cond (eqb j counts) (patched_counts C D) (cond (touched j) (D j) (C j))

-- D differs from C only where it may
pub record OnlyTouched (C D : Cols) : Type 0 where
  pub same : (j : ℕ) → eqb j counts ≡ false → touched j ≡ false → D j ≡ C j
  pub words : length (D counts) ≡ 8
  pub counts_same : (i : ℕ) → (i ≡ 6 → ⊥) → at D counts i ≡ at C counts i

pub untouched : (j k : ℕ) → touched k ≡ true → touched j ≡ false → eqb j k ≡ false
untouched j k t u = go (eqb j k) refl
  where
    go : (b : Bool) → eqb j k ≡ b → b ≡ false
    go true e = clash (ap touched (eqb-true j k e) ∙ t) u
    go false e = refl

-- a list is its entries, one by one
spelled : (l : List ℕ) (n : ℕ) → length l ≡ n → l ≡ tabulate n (λ (i : ℕ). get_or l i 0)
spelled l n e =
    ext_get_or 0 l (tabulate n (λ (i : ℕ). get_or l i 0)) (e ∙ sym (length_tabulate n (λ (i : ℕ). get_or l i 0)))
    (λ i h. sym (get_d_tabulate n (λ (j : ℕ). get_or l j 0) i 0 (subst (λ (k : ℕ). i < k) e h)))

pub kept_path : (C D : Cols) → OnlyTouched C D → D ≡ patched C D
unfolding patched patched_counts tabulate tabulate_from op_count block_count region_count value_count operand_count successor_count attribute_count at
kept_path C D h = λ i j. go j (eqb j counts) (touched j) refl refl i
  where
    eight : D counts ≡ patched_counts C D
    eight = spelled (D counts) 8 h.words ∙ ap (λ (xs : List ℕ). xs ++ (attribute_count D ∷ at D counts 7 ∷ [])) (tabulate_cong 6 (at D counts) (at C counts) (λ i l. h.counts_same i (λ q. omega arith)))

    go : (j : ℕ) (b t : Bool) → eqb j counts ≡ b → touched j ≡ t → D j ≡ cond b (patched_counts C D) (cond t (D j) (C j))
    go j true t e u = ap D (eqb-true j counts e) ∙ eight
    go j false true e u = refl
    go j false false e u = h.same j e u

-- ---- the layout

module _ (C D : Cols) where
  placed_same : (n : ℕ) (p : Option ℕ) → placed (patched C D) n p ≡ placed C n p
  unfolding placed patched patched_counts touched op_count block_count region_count at
  placed_same n None = refl
  placed_same n (Some b) = refl

  in_owner_same : (v : ℕ) (w : Owner) → in_owner (patched C D) v w ≡ in_owner C v w
  unfolding in_owner patched patched_counts touched op_count block_count at
  in_owner_same v (of_op n) = refl
  in_owner_same v (of_block b) = refl

  before_same : (k n : ℕ) → eqb k counts ≡ false → touched k ≡ false → end_before (patched C D) k n ≡ end_before C k n
  unfolding end_before patched at
  before_same k zero e u = refl
  before_same k (suc n) e u = rw (e, u) refl

  op_patched : (n : ℕ) → OpLaid C n → at D op_attributes n ≤ max_own_keys → OpLaid (patched C D) n
  unfolding patched patched_counts touched op_count block_count region_count value_count operand_count successor_count attribute_count at
  op_patched n h keys =
      record {
        place = placed_same n (parent_from (at C op_parent n)) ∙ h.place;
        regions = record { range = h.regions.range; words = h.regions.words };
        results = record { range = h.results.range; words = h.results.words };
        operands = record { follows = h.operands.follows ∙ sym (before_same op_operand_end n refl refl); range = h.operands.range };
        successors = record { follows = h.successors.follows ∙ sym (before_same op_successor_end n refl refl); range = h.successors.range };
        keys = keys;
      }

  block_patched : (m : ℕ) → BlockLaid C m → at D block_attributes m ≤ max_own_keys → BlockLaid (patched C D) m
  unfolding patched patched_counts touched op_count block_count region_count value_count at
  block_patched m h keys =
      record {
        region_in = h.region_in;
        place = h.place;
        arguments = record { range = h.arguments.range; words = h.arguments.words };
        ops = h.ops;
        keys = keys;
      }

  pub laid_patched :
      Laid C
      → ((n : ℕ) → n < op_count C → at D op_attributes n ≤ max_own_keys)
      → ((m : ℕ) → m < block_count C → at D block_attributes m ≤ max_own_keys)
      → attribute_count D ≤ max_attributes
      → attribute_sum (patched C D) ≡ attribute_count D
      → Laid (patched C D)
  unfolding patched patched_counts touched op_count block_count region_count value_count operand_count successor_count attribute_count at value_laid
  laid_patched h op_keys block_keys most total =
      record {
        counts =
            record {
              ops = h.counts.ops;
              blocks = h.counts.blocks;
              regions = h.counts.regions;
              values = h.counts.values;
              operands = h.counts.operands;
              successors = h.counts.successors;
              attributes = most;
            };
        op = λ n l. op_patched n (h.op n l) (op_keys n l);
        block = λ m l. block_patched m (h.block m l) (block_keys m l);
        region = λ r l. record { op_in = (h.region r l).op_in; place = (h.region r l).place; blocks = (h.region r l).blocks };
        value = λ v l. in_owner_same v _ ∙ h.value v l;
        operand_end = before_same op_operand_end (op_count C) refl refl ∙ h.operand_end;
        successor_end = before_same op_successor_end (op_count C) refl refl ∙ h.successor_end;
        attributes = total;
        op_link = op_links_kept C (patched C D) h refl (λ i l. refl) (λ i l. refl) (λ i l. refl);
        block_link = block_links_kept C (patched C D) h refl (λ i l. refl) (λ i l. refl) (λ i l. refl);
      }
