-- A set operand is one word of the shared list: operations' slices of it are disjoint, each beginning where the one before it ends, so only that operation's operands change. Assumes nothing.
use Prim.Native.Nat.{ℕ, zero, suc, ◌+◌, ◌-◌, ◌<◌, ◌≤◌}
use native.Mathlib.Nat.{not-suc-le-zero}
use native.Mathlib.Decide.{ℕ_discrete, dec_lt}
use native.Mathlib.Omega.{arith}
use mathlib.Core.List.{List}
use mathlib.Core.Logic.{◌⊎◌, inl, inr}
use mathlib.Core.Path.{◌≡◌, refl, sym, ap, subst}
use Rattle.rules.specs.Lists.{update_at}
use Rattle.rules.specs.Building.{set_operand, op_with_operand, applied}
use Rattle.layout.specs.Columns.{Cols, at, write, counts, op_operand_first, op_operand_end, operand_words}
use Rattle.layout.specs.Reading.{tabulate, op_count, block_count, region_count, value_count, attribute_count, attribute_at, attributes_from, op_of, block_of, value_of, store_of}
use Rattle.layout.specs.Soundness.{end_before, attribute_sum}
use Rattle.layout.proofs.Laid.{Shaped, Laid}
use Rattle.mutation.specs.SetWrites.{with_operand}
use Rattle.layout.proofs.Buffer.{write_other}
use Rattle.mutation.specs.Doing.{Behind}
use Rattle.mutation.proofs.SetBehind.{kept_behind}
use Rattle.mutation.proofs.Changed.{update_tabulate, op_with, slice_other, slice_same}
use Rattle.mutation.proofs.Patched.{OnlyTouched, touched, patched, patched_counts, untouched, kept_path, laid_patched}

-- an operation's slice of the shared list lies before a later one's
slices_apart : (C : Cols) → Laid C → (j k : ℕ) → j < k → k < op_count C → at C op_operand_end j ≤ at C op_operand_first k
unfolding end_before
slices_apart C h j zero l u = absurd (not-suc-le-zero l)
slices_apart C h j (suc k) l u = go (λ l'. slices_apart C h j k l' (omega arith)) (ℕ_discrete j k)
  where
    go : (j < k → at C op_operand_end j ≤ at C op_operand_first k) → Dec (j ≡ k) → at C op_operand_end j ≤ at C op_operand_first (suc k)
    go f (yes e) = omega (arith, (h.op (suc k) u).operands.follows, ap (at C op_operand_end) e)
    go f (no ne) = omega (arith, f (omega arith), (h.op k (omega arith)).operands.range.rises, (h.op (suc k) u).operands.follows)

module _ (C : Cols) (n i v : ℕ) (h : Laid C) (l : n < op_count C) (u : i < at C op_operand_end n - at C op_operand_first n) where
  word_apart : (k : ℕ) → k < op_count C → (k ≡ n → ⊥) → (at C op_operand_first n + i < at C op_operand_first k) ⊎ (at C op_operand_end k ≤ at C op_operand_first n + i)
  word_apart k m ne = go (dec_lt n k)
    where
      go : Dec (n < k) → (at C op_operand_first n + i < at C op_operand_first k) ⊎ (at C op_operand_end k ≤ at C op_operand_first n + i)
      go (yes b) = inl (omega (arith, slices_apart C h n k b m))
      go (no b) = inr (omega (arith, slices_apart C h k n (omega arith) l))

  ops_changed : tabulate (op_count C) (op_of (with_operand C n i v)) ≡ update_at (op_with_operand i v) n (tabulate (op_count C) (op_of C))
  unfolding op_of op_with_operand with_operand write at attribute_at attributes_from
  ops_changed =
      update_tabulate (op_with_operand i v) n (op_count C) (op_of C) (op_of (with_operand C n i v)) l
      (λ k m ne. same k (slice_other (C operand_words) (at C op_operand_first k) (at C op_operand_end k) (at C op_operand_first n + i) v (word_apart k m ne)))
      (same n (slice_same (C operand_words) (at C op_operand_first n) (at C op_operand_end n) i v u))
    where
      same : (k : ℕ) {xs ys : List ℕ} → xs ≡ ys → op_with (op_of C k) xs (op_of C k).attributes ≡ op_with (op_of C k) ys (op_of C k).attributes
      same k e = ap (λ (zs : List ℕ). op_with (op_of C k) zs (op_of C k).attributes) e

  pub operand_reads : store_of (with_operand C n i v) ≡ applied (store_of C) (set_operand (record { operation = n; index = i; value = v }))
  unfolding store_of applied op_count block_count region_count value_count block_of value_of with_operand write at attribute_at attributes_from
  operand_reads = λ j. record { ops = ops_changed j; blocks = (store_of C).blocks; regions = (store_of C).regions; values = (store_of C).values }

  operand_kept : Shaped C → OnlyTouched C (with_operand C n i v)
  unfolding with_operand write touched at
  operand_kept sh = record { same = λ j e t. write_other C operand_words _ v j (untouched j operand_words refl t); words = sh counts; counts_same = λ k ne. refl }

  pub operand_behind : Shaped C → Behind C (with_operand C n i v)
  operand_behind sh = kept_behind C (with_operand C n i v) (operand_kept sh)

  pub operand_laid : Shaped C → Laid (with_operand C n i v)
  unfolding with_operand write patched patched_counts touched op_count block_count attribute_count attribute_sum at
  operand_laid sh =
      let D : Cols = with_operand C n i v in
      subst Laid (sym (kept_path C D (operand_kept sh))) (laid_patched C D h (λ k m. (h.op k m).keys) (λ m b. (h.block m b).keys) h.counts.attributes h.attributes)
