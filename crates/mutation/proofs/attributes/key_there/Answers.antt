-- `key_there` meets its contract: the slot is among the owner's, and its key is this one. Assumes nothing.
use native.Mathlib.Omega.{arith}
use Rattle.mutation.proofs.Owners.{reachable}
use Rattle.mutation.proofs.attributes.key_there.Goals as goal

pub overflow_add-first_slot : goal.overflow_add-first_slot
overflow_add-first_slot c =
    let a = c.args in
    let r = reachable a.store.now c.requires.sound a.owner c.requires.owner_value in
    omega arith

pub at-requires : goal.at-requires
at-requires c =
    let a = c.args in
    let r = reachable a.store.now c.requires.sound a.owner c.requires.owner_value in
    record { column_lt_column_count = omega arith; n_bound = omega arith }
