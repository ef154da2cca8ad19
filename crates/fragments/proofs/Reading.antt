-- What is read off the rows: an owner has as many values as are numbered, and the column of owners has its code. Assumes nothing.
use Rattle.std.proofs.Common.{◌≡◌, ℕ, ◌+◌, ◌/◌, ◌%◌, ◌<◌, ◌≤◌, true, cond, eqb, List, [], ◌∷◌, length, sym, ap, ◌∙◌, subst, append-nil, arith, lt-ltb, eq-eqb, ne_eqb}
use native.Mathlib.Decide.{ℕ_discrete}
use Rattle.rules.specs.Store.{Store, Value, value_at, values_of, op_exists, block_exists, max_values, max_blocks, sound}
use Rattle.rules.specs.declared.types.Owner.{Owner}
use Rattle.rules.specs.declared.types.Owner.TheVariants.{Op as of_op, Block as of_block}
use Rattle.rules.specs.Fragments.{shell, step_defines, block_owner}
use Rattle.layout.specs.Columns.{Cols, at, value_owner}
use Rattle.layout.specs.Reading.{op_count, block_count, value_count, owner_from, owner_code, value_of, store_of}
use Rattle.layout.proofs.Tabulate.{value_read, op_exists_lem, block_exists_lem, values_length}
use Rattle.fragments.specs.Rows.{RowOf}
use Rattle.fragments.specs.declared.types.ShellRow.{ShellRow}
use Rattle.fragments.proofs.ByRows.{row_count}
use Rattle.fragments.specs.Words.{values_numbered, blocks_numbered}
use Rattle.fragments.proofs.Defining.{owner_apart}
use Rattle.fragments.specs.Numbered.{values_in, blocks_in, DefinitionsFit}

pub row_room : {C : Cols} {w : Owner} {r : ShellRow} → RowOf C w r → {ns : List ℕ} → DefinitionsFit (store_of C) (shell w ∷ []) ns → values_numbered ns + r.values ≤ max_values
unfolding values_in step_defines
row_room {C} {w} h m = omega (arith, m.values, row_count h, ap length (append-nil (values_of (store_of C) w)))

pub block_room_lem : {s : Store} {n : ℕ} {ns : List ℕ} → DefinitionsFit s (shell (of_block n) ∷ []) ns → blocks_numbered ns < max_blocks
unfolding blocks_in step_defines block_owner
block_room_lem m = omega (arith, m.blocks)

-- the word in the column of owners is the owner's code
code_read : (w : ℕ) → owner_code (owner_from w) ≡ w
unfolding owner_from owner_code
code_read w = go (ℕ_discrete (w % 2) 0)
  where
    go : Dec (w % 2 ≡ 0) → owner_code (cond (eqb (w % 2) 0) (of_op (w / 2)) (of_block (w / 2))) ≡ w
    go (yes e) = rw (eq-eqb (w % 2) 0 e) (omega arith)
    go (no ne) = rw (ne_eqb (w % 2) 0 ne) (omega arith)

pub owner_code_lem : (C : Cols) (v : ℕ) → v < value_count C → owner_code (value_at (store_of C) v).owner ≡ at C value_owner v
unfolding value_of
owner_code_lem C v l = ap (λ (x : Value). owner_code x.owner) (value_read C v l) ∙ code_read (at C value_owner v)

-- what is below the count is there
pub op_there : (C : Cols) (n : ℕ) → n < op_count C → op_exists (store_of C) n ≡ true
op_there C n l = op_exists_lem C n ∙ lt-ltb n (op_count C) l

pub block_there : (C : Cols) (b : ℕ) → b < block_count C → block_exists (store_of C) b ≡ true
block_there C b l = block_exists_lem C b ∙ lt-ltb b (block_count C) l

-- a value's owner has a word among the first 1,024
pub owner_low : (C : Cols) → sound (store_of C) ≡ true → (v : ℕ) → v < value_count C → at C value_owner v < 1024
owner_low C sd v l = subst (λ (k : ℕ). k < 1024) (owner_code_lem C v l) (owner_apart (store_of C) sd v (subst (λ (k : ℕ). v < k) (sym (values_length C)) l)).low
