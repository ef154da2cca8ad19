-- Columns that differ only behind the tables, in the marks, the journal and how many marks are set, are read as the same store, and are laid
-- out alike. Assumes nothing.
use Prim.Native.Nat.{ℕ, zero, suc, ◌+◌, ◌<◌, ◌≤◌}
use native.Mathlib.Omega.{arith}
use mathlib.Core.Bool.{Bool, true, false, cond}
use mathlib.Core.List.{List, [], ◌∷◌, ◌++◌}
use Rattle.std.specs.Prelude.{Option, None, Some}
use mathlib.Core.Path.{◌≡◌, refl, sym, ap, subst, ◌∙◌}
use borrow.Author.Tests.{eqb-true, ne_eqb, ltb-true}
use lib.Dec.{eqb, ltb}
use lib.ListN.{length, get_or}
use lib.Seq.{ext_get_or, get_or-set_other}
use Rattle.rules.specs.Store.{sound}
use Rattle.rules.specs.declared.types.Owner.{Owner}
use Rattle.rules.specs.declared.types.Owner.TheVariants.{Op as of_op, Block as of_block}
use Rattle.layout.specs.Columns.{Cols, columns, column_size, buffer_length, at, write, write_range, counts, op_parent, op_operand_end, op_successor_end, mark_number}
use Rattle.layout.specs.Reading.{tabulate_from, tabulate, op_count, block_count, region_count, value_count, operand_count, successor_count, attribute_count, parent_from, attribute_at, attributes_from, op_of, block_of, value_of, store_of}
use Rattle.layout.specs.Soundness.{end_before, placed, in_owner, value_laid, attribute_sum, IsSound}
use Rattle.layout.proofs.Laid.{Shaped, Laid, OpLaid, BlockLaid, laid_facts, laid_of}
use Rattle.layout.proofs.Buffer.{write_at, write_other, write_range_other, write_shaped, write_range_shaped}
use Rattle.layout.proofs.Tabulate.{length_tabulate, get_d_tabulate, tabulate_cong}
use Rattle.mutation.proofs.LinksKept.{op_links_kept, block_links_kept}
use Rattle.layout.specs.Journal.{Counts}
use Rattle.layout.specs.MarkedReading.{ranges_end}

-- D differs from C only behind the tables
pub record TablesKept (C D : Cols) : Type 0 where
  pub same : (j : ℕ) → eqb j counts ≡ false → ltb j mark_number ≡ true → D j ≡ C j
  pub words : length (D counts) ≡ 8
  pub counts_same : (i : ℕ) → i < 7 → at D counts i ≡ at C counts i

-- ---- what is written there

pub kept_same : (C : Cols) → Shaped C → TablesKept C C
kept_same C shaped = record { same = λ j e l. refl; words = shaped counts; counts_same = λ i l. refl }

pub kept_then : (B C D : Cols) → TablesKept B C → TablesKept C D → TablesKept B D
kept_then B C D p q =
    record {
      same = λ j e l. q.same j e l ∙ p.same j e l;
      words = q.words;
      counts_same = λ i l. q.counts_same i l ∙ p.counts_same i l;
    }

apart : (j k : ℕ) → ltb j mark_number ≡ true → mark_number ≤ k → eqb j k ≡ false
apart j k l h = ne_eqb j k (λ e. omega (arith, ltb-true j mark_number l))

module _ (C : Cols) (shaped : Shaped C) where
  pub kept_write : (k n v : ℕ) → mark_number ≤ k → TablesKept C (write C k n v)
  unfolding at
  kept_write k n v h =
      record {
        same = λ j e l. write_other C k n v j (apart j k l h);
        words = write_shaped C k n v shaped counts;
        counts_same = λ i l. ap (λ (xs : List ℕ). get_or xs i 0) (write_other C k n v counts (apart counts k refl h));
      }

  pub kept_range : (k n : ℕ) (vs : List ℕ) → mark_number ≤ k → n + length vs ≤ column_size k → TablesKept C (write_range C k n vs)
  unfolding at
  kept_range k n vs h fits =
      record {
        same = λ j e l. write_range_other C k n vs j (apart j k l h);
        words = write_range_shaped C k n vs shaped fits counts;
        counts_same = λ i l. ap (λ (xs : List ℕ). get_or xs i 0) (write_range_other C k n vs counts (apart counts k refl h));
      }

  pub kept_count : (v : ℕ) → TablesKept C (write C counts 7 v)
  unfolding at
  kept_count v =
      record {
        same = λ j e l. write_other C counts 7 v j e;
        words = write_shaped C counts 7 v shaped counts;
        counts_same = λ i l. ap (λ (xs : List ℕ). get_or xs i 0) (write_at C counts 7 v) ∙ get_or-set_other (C counts) 7 i v 0 (λ e. omega arith);
      }

-- ---- what is read

-- the words that tables are read from, of C, and the others of D
unfoldable pub behind_by : Cols → Cols → Cols
behind_by C D j =
    cond (eqb j counts)
    (op_count C ∷ block_count C ∷ region_count C ∷ value_count C ∷ operand_count C ∷ successor_count C ∷ attribute_count C ∷ at D counts 7 ∷ [])
    (cond (ltb j mark_number) (C j) (D j))

-- a list is its entries, one by one
spelled : (l : List ℕ) (n : ℕ) → length l ≡ n → l ≡ tabulate n (λ (i : ℕ). get_or l i 0)
spelled l n e =
    ext_get_or 0 l (tabulate n (λ (i : ℕ). get_or l i 0)) (e ∙ sym (length_tabulate n (λ (i : ℕ). get_or l i 0)))
    (λ i h. sym (get_d_tabulate n (λ (j : ℕ). get_or l j 0) i 0 (subst (λ (k : ℕ). i < k) e h)))

kept_path : (C D : Cols) → TablesKept C D → D ≡ behind_by C D
unfolding behind_by tabulate tabulate_from op_count block_count region_count value_count operand_count successor_count attribute_count at
kept_path C D h = λ i j. go j (eqb j counts) (ltb j mark_number) refl refl i
  where
    eight : D counts ≡ behind_by C D counts
    eight = spelled (D counts) 8 h.words ∙ ap (λ (xs : List ℕ). xs ++ (at D counts 7 ∷ [])) (tabulate_cong 7 (at D counts) (at C counts) h.counts_same)

    go : (j : ℕ) (b t : Bool) → eqb j counts ≡ b → ltb j mark_number ≡ t → D j ≡ cond b (behind_by C D counts) (cond t (C j) (D j))
    go j true t e u = ap D (eqb-true j counts e) ∙ eight
    go j false true e u = h.same j e u
    go j false false e u = refl

module _ (C D : Cols) where
  store_same : store_of (behind_by C D) ≡ store_of C
  unfolding store_of op_of block_of value_of attributes_from attribute_at behind_by op_count block_count region_count value_count at
  store_same = refl

  ranges_same : (k : Counts) → ranges_end (behind_by C D) k ≡ ranges_end C k
  unfolding ranges_end behind_by at
  ranges_same k = refl

  placed_same : (n : ℕ) (p : Option ℕ) → placed (behind_by C D) n p ≡ placed C n p
  unfolding placed behind_by op_count block_count region_count at
  placed_same n None = refl
  placed_same n (Some b) = refl

  in_owner_same : (v : ℕ) (w : Owner) → in_owner (behind_by C D) v w ≡ in_owner C v w
  unfolding in_owner behind_by op_count block_count at
  in_owner_same v (of_op n) = refl
  in_owner_same v (of_block b) = refl

  before_same : (k n : ℕ) → eqb k counts ≡ false → ltb k mark_number ≡ true → end_before (behind_by C D) k n ≡ end_before C k n
  unfolding end_before behind_by at
  before_same k zero e u = refl
  before_same k (suc n) e u = rw (e, u) refl

  op_same : (n : ℕ) → OpLaid C n → OpLaid (behind_by C D) n
  unfolding behind_by op_count block_count region_count value_count operand_count successor_count attribute_count at
  op_same n h =
      record {
        place = placed_same n (parent_from (at C op_parent n)) ∙ h.place;
        regions = record { range = h.regions.range; words = h.regions.words };
        results = record { range = h.results.range; words = h.results.words };
        operands = record { follows = h.operands.follows ∙ sym (before_same op_operand_end n refl refl); range = h.operands.range };
        successors = record { follows = h.successors.follows ∙ sym (before_same op_successor_end n refl refl); range = h.successors.range };
        keys = h.keys;
      }

  block_same : (m : ℕ) → BlockLaid C m → BlockLaid (behind_by C D) m
  unfolding behind_by op_count block_count region_count value_count at
  block_same m h =
      record {
        region_in = h.region_in;
        place = h.place;
        arguments = record { range = h.arguments.range; words = h.arguments.words };
        ops = h.ops;
        keys = h.keys;
      }

  laid_same : Laid C → Laid (behind_by C D)
  unfolding behind_by op_count block_count region_count value_count operand_count successor_count attribute_count at value_laid attribute_sum
  laid_same h =
      record {
        counts =
            record {
              ops = h.counts.ops;
              blocks = h.counts.blocks;
              regions = h.counts.regions;
              values = h.counts.values;
              operands = h.counts.operands;
              successors = h.counts.successors;
              attributes = h.counts.attributes;
            };
        op = λ n l. op_same n (h.op n l);
        block = λ m l. block_same m (h.block m l);
        region = λ r l. record { op_in = (h.region r l).op_in; place = (h.region r l).place; blocks = (h.region r l).blocks };
        value = λ v l. in_owner_same v _ ∙ h.value v l;
        operand_end = before_same op_operand_end (op_count C) refl refl ∙ h.operand_end;
        successor_end = before_same op_successor_end (op_count C) refl refl ∙ h.successor_end;
        attributes = h.attributes;
        op_link = op_links_kept C (behind_by C D) h refl (λ i l. refl) (λ i l. refl) (λ i l. refl);
        block_link = block_links_kept C (behind_by C D) h refl (λ i l. refl) (λ i l. refl) (λ i l. refl);
      }

  module _ (h : TablesKept C D) where
    pub store_kept : store_of D ≡ store_of C
    store_kept = ap store_of (kept_path C D h) ∙ store_same

    pub ranges_kept : (k : Counts) → ranges_end D k ≡ ranges_end C k
    ranges_kept k = ap (λ (E : Cols). ranges_end E k) (kept_path C D h) ∙ ranges_same k

    pub laid_kept : Laid C → Laid D
    laid_kept l = subst Laid (sym (kept_path C D h)) (laid_same l)

-- ---- a buffer

pub sound_kept : (b exit : List ℕ) → IsSound b → length exit ≡ buffer_length → TablesKept (columns b) (columns exit) → IsSound exit
sound_kept b exit h long kept =
    record {
      sized = long;
      laid = laid_of (columns exit) (laid_kept (columns b) (columns exit) kept (laid_facts (columns b) h.laid));
      ruled = ap sound (store_kept (columns b) (columns exit) kept) ∙ h.ruled;
    }
