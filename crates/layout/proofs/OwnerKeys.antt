-- An owner that is in the store: its number lies in its column, its keys are at most 8, and its slots lie among the slots. Assumes nothing.
use Prim.Native.Nat.{ℕ, ◌+◌, ◌<◌, ◌≤◌}
use native.Mathlib.Omega.{arith}
use mathlib.Core.Bool.{true}
use mathlib.Core.Path.{◌≡◌, sym, subst, ◌∙◌}
use borrow.Author.Tests.{lt-ltb}
use Rattle.rules.specs.Store.{owner_exists, max_own_keys}
use Rattle.rules.specs.declared.types.Owner.{Owner}
use Rattle.rules.specs.declared.types.Owner.TheVariants.{Op as of_op, Block as of_block}
use Rattle.layout.specs.Columns.{Cols, column_size, column_count, slot_count}
use Rattle.layout.specs.Reading.{op_count, block_count, slots_of, store_of}
use Rattle.layout.specs.Owners.{count_column, owner_number, key_count}
use Rattle.layout.proofs.Laid.{Laid}
use Rattle.layout.proofs.Tabulate.{op_exists_lem, block_exists_lem, op_in_lem, block_in_lem}

-- the owner is in the store
abbrev pub OwnerIn : Cols → Owner → Type 0
OwnerIn C (of_op n) = n < op_count C
OwnerIn C (of_block m) = m < block_count C

pub owner_in_lem : (C : Cols) (w : Owner) → owner_exists (store_of C) w ≡ true → OwnerIn C w
unfolding owner_exists
owner_in_lem C (of_op n) e = op_in_lem C n e
owner_in_lem C (of_block m) e = block_in_lem C m e

pub in_exists : (C : Cols) (w : Owner) → OwnerIn C w → owner_exists (store_of C) w ≡ true
unfolding owner_exists
in_exists C (of_op n) l = op_exists_lem C n ∙ lt-ltb n _ l
in_exists C (of_block m) l = block_exists_lem C m ∙ lt-ltb m _ l

pub owner_keys : (C : Cols) (w : Owner) → Laid C → OwnerIn C w → key_count C w ≤ max_own_keys
unfolding key_count count_column owner_number
owner_keys C (of_op n) h l = (h.op n l).keys
owner_keys C (of_block m) h l = (h.block m l).keys

pub slots_fit : (C : Cols) (w : Owner) → Laid C → OwnerIn C w → slots_of w + 8 ≤ slot_count
unfolding slots_of
slots_fit C (of_op n) h l = omega (arith, h.counts.ops)
slots_fit C (of_block m) h l = omega (arith, h.counts.blocks)

column_low : (w : Owner) → count_column w < column_count
unfolding count_column
column_low (of_op n) = omega arith
column_low (of_block m) = omega arith

number_low : (C : Cols) (w : Owner) → Laid C → OwnerIn C w → owner_number w < column_size (count_column w)
unfolding count_column owner_number
number_low C (of_op n) h l = omega (arith, h.counts.ops)
number_low C (of_block m) h l = omega (arith, h.counts.blocks)

-- what is written and read of an owner lies in its columns
pub record Reachable (C : Cols) (w : Owner) : Type 0 where
  pub within : OwnerIn C w
  pub column : count_column w < column_count
  pub number : owner_number w < column_size (count_column w)
  pub keys : key_count C w ≤ max_own_keys
  pub slots : slots_of w + 8 ≤ slot_count

pub owner_reached : (C : Cols) (w : Owner) → Laid C → OwnerIn C w → Reachable C w
owner_reached C w h l = record { within = l; column = column_low w; number = number_low C w h l; keys = owner_keys C w h l; slots = slots_fit C w h l }

pub count_reached : (C : Cols) (w : Owner) → Reachable C w → (k n : ℕ) → k ≡ count_column w → n ≡ owner_number w → (k < column_count) × (n < column_size k)
count_reached C w r k n p q = (
  subst (λ (x : ℕ). x < column_count) (sym p) r.column,
  subst (λ (x : ℕ). x < column_size k) (sym q) (subst (λ (x : ℕ). owner_number w < column_size x) (sym p) r.number),
)
