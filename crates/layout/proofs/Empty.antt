-- A buffer of the right length whose counts are all 0 is sound and reads as the empty store, whatever its other words; the buffer of zeros
-- is one. Assumes nothing.
use Prim.Native.Nat.{ℕ, zero, suc, ◌+◌, ◌<◌}
use native.Mathlib.Nat.{not-suc-le-zero}
use native.Mathlib.Omega.{arith}
use mathlib.Core.Bool.{true}
use mathlib.Core.List.{List}
use mathlib.Core.Path.{◌≡◌, refl, sym, ap, ap₂, subst, ◌∙◌}
use borrow.Author.Tests.{eqb-true, eq-eqb}
use lib.ListN.{get_or, replicate, length-replicate}
use Rattle.rules.specs.Lists.{sum}
use Rattle.rules.specs.Store.{Store, empty_store, sound}
use Rattle.rules.proofs.Basics.Tests.{passed, every_of}
use Rattle.rules.proofs.Soundness.Kept.{empty_sound}
use Rattle.layout.specs.Columns.{Cols, columns, at, base, buffer_length, empty_buffer, counts, op_operand_end, op_successor_end, op_attributes, block_attributes}
use Rattle.layout.specs.Reading.{op_count, block_count, region_count, value_count, operand_count, successor_count, attribute_count, tabulate, tabulate_from, store_of}
use Rattle.layout.specs.Soundness.{end_before, attribute_sum, sound_buffer, IsSound}
use Rattle.layout.proofs.Laid.{Laid, laid_of}
use Rattle.layout.proofs.Buffer.{at_columns}

-- ---- soundness as a test, and as facts

pub sound_facts : (b : List ℕ) → sound_buffer b ≡ true → IsSound b
unfolding sound_buffer
sound_facts b h = let p = passed _ h in record { sized = eqb-true _ _ p.0; laid = p.1.0; ruled = p.1.1.0 }

pub sound_of : (b : List ℕ) → IsSound b → sound_buffer b ≡ true
unfolding sound_buffer
sound_of b h = every_of _ (eq-eqb _ _ h.sized, (h.laid, (h.ruled, tt)))

-- ---- empty columns

none_below : {A : Type 0} (n k : ℕ) → k ≡ 0 → n < k → A
none_below n k e h = absurd (not-suc-le-zero (subst (λ (m : ℕ). n < m) e h))

module _ (C : Cols) (z : (i : ℕ) → i < 8 → at C counts i ≡ 0) where
  ops : op_count C ≡ 0
  unfolding op_count
  ops = z 0 (omega arith)

  blocks : block_count C ≡ 0
  unfolding block_count
  blocks = z 1 (omega arith)

  regions : region_count C ≡ 0
  unfolding region_count
  regions = z 2 (omega arith)

  values : value_count C ≡ 0
  unfolding value_count
  values = z 3 (omega arith)

  operands : operand_count C ≡ 0
  unfolding operand_count
  operands = z 4 (omega arith)

  successors : successor_count C ≡ 0
  unfolding successor_count
  successors = z 5 (omega arith)

  attributes : attribute_count C ≡ 0
  unfolding attribute_count
  attributes = z 6 (omega arith)

  pub empty_reads : store_of C ≡ empty_store
  unfolding store_of empty_store tabulate tabulate_from
  empty_reads = rw (ops, blocks, regions, values) refl

  ends : (k : ℕ) → end_before C k (op_count C) ≡ 0
  unfolding end_before
  ends k = ap (end_before C k) ops

  pub empty_laid : Laid C
  unfolding attribute_sum tabulate tabulate_from sum
  empty_laid =
      record {
        counts =
            record {
              ops = omega (arith, ops);
              blocks = omega (arith, blocks);
              regions = omega (arith, regions);
              values = omega (arith, values);
              operands = omega (arith, operands);
              successors = omega (arith, successors);
              attributes = omega (arith, attributes);
            };
        op = λ n l. none_below n _ ops l;
        block = λ n l. none_below n _ blocks l;
        region = λ n l. none_below n _ regions l;
        value = λ n l. none_below n _ values l;
        operand_end = ends op_operand_end ∙ sym operands;
        successor_end = ends op_successor_end ∙ sym successors;
        attributes = ap₂ (λ (n m : ℕ). sum (tabulate n (at C op_attributes)) + sum (tabulate m (at C block_attributes))) ops blocks ∙ sym attributes;
        op_link = λ n l. none_below n _ ops l;
        block_link = λ n l. none_below n _ blocks l;
      }

-- ---- the buffer of zeros

pub zeros : (n i : ℕ) → get_or {A = ℕ} (replicate n 0) i 0 ≡ 0
zeros zero i = refl
zeros (suc n) zero = refl
zeros (suc n) (suc i) = zeros n i

zero_counts : (i : ℕ) → i < 8 → at (columns empty_buffer) counts i ≡ 0
unfolding empty_buffer
zero_counts i h = at_columns empty_buffer counts i h ∙ zeros buffer_length (base counts + i)

pub zeros_read : store_of (columns empty_buffer) ≡ empty_store
zeros_read = empty_reads (columns empty_buffer) zero_counts

pub zeros_sound : IsSound empty_buffer
unfolding empty_buffer
zeros_sound =
    record {
      sized = length-replicate {A = ℕ} buffer_length 0;
      laid = laid_of (columns empty_buffer) (empty_laid (columns empty_buffer) zero_counts);
      ruled = subst (λ (s : Store). sound s ≡ true) (sym zeros_read) empty_sound;
    }
