-- An owner's keys are among the attributes that are counted, and its slots among all. Assumes nothing.
use Prim.Native.Nat.{ℕ, zero, suc, ◌+◌, ◌<◌, ◌≤◌}
use native.Mathlib.Decide.{ℕ_discrete}
use native.Mathlib.Nat.{not-suc-le-zero}
use native.Mathlib.Omega.{arith}
use mathlib.Core.Bool.{true}
use mathlib.Core.List.{List}
use mathlib.Core.Path.{◌≡◌, ap}
use Rattle.rules.specs.Lists.{sum}
use Rattle.rules.specs.Store.{owner_exists}
use Rattle.rules.specs.declared.types.Owner.{Owner}
use Rattle.rules.specs.declared.types.Owner.TheVariants.{Op as of_op, Block as of_block}
use Rattle.layout.specs.Columns.{Cols, columns, at, column_count, column_size, slot_count, op_attributes, block_attributes}
use Rattle.layout.specs.Reading.{tabulate, op_count, block_count, attribute_count, slots_of, store_in}
use Rattle.layout.specs.Soundness.{IsSound, attribute_sum}
use Rattle.layout.specs.Owners.{count_column, owner_number, key_count}
use Rattle.layout.proofs.Laid.{Laid}
use Rattle.layout.proofs.Sums.{sum_suc}
use Rattle.layout.proofs.OwnerKeys.{OwnerIn}
use Rattle.mutation.proofs.Facts.{laid}
use Rattle.mutation.proofs.Owners.{reachable}

entry_within : (n N : ℕ) (f : ℕ → ℕ) → n < N → f n ≤ sum (tabulate N f)
entry_within n zero f l = absurd (not-suc-le-zero l)
entry_within n (suc N) f l = go (ℕ_discrete n N) (λ u. entry_within n N f u)
  where
    go : Dec (n ≡ N) → (n < N → f n ≤ sum (tabulate N f)) → f n ≤ sum (tabulate (suc N) f)
    go (yes e) rest = omega (arith, sum_suc N f, ap f e)
    go (no ne) rest = omega (arith, sum_suc N f, rest (omega arith))

pub keys_within : (C : Cols) (w : Owner) → Laid C → OwnerIn C w → key_count C w ≤ attribute_count C
unfolding key_count count_column owner_number attribute_sum
keys_within C (of_op n) h l = omega (arith, h.attributes, entry_within n (op_count C) (at C op_attributes) l)
keys_within C (of_block m) h l = omega (arith, h.attributes, entry_within m (block_count C) (at C block_attributes) l)

-- of an owner in a sound buffer
module _ (b : List ℕ) (w : Owner) (h : IsSound b) (there : owner_exists (store_in b) w ≡ true) where
  pub keys_counted : key_count (columns b) w ≤ attribute_count (columns b)
  keys_counted = keys_within (columns b) w (laid b h) (reachable b h w there).within

  pub keys_few : key_count (columns b) w ≤ 8
  keys_few = (reachable b h w there).keys

  pub slots_fit : slots_of w + key_count (columns b) w ≤ slot_count
  slots_fit = let r = reachable b h w there in omega (arith, r.keys, r.slots)

  pub count_place : (count_column w < column_count) × (owner_number w < column_size (count_column w))
  count_place = let r = reachable b h w there in (r.column, r.number)

-- what taking a key out asks for
pub ruleset owner_kept = (keys_counted, keys_few, slots_fit, count_place)
