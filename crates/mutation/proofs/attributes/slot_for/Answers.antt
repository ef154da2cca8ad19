-- `slot_for` meets its contract: it seeks among the owner's slots. Assumes nothing.
use native.Mathlib.Omega.{arith}
use Rattle.mutation.proofs.Owners.{reachable}
use Rattle.mutation.proofs.attributes.slot_for.Goals as goal

pub slot_from-requires : goal.slot_from-requires
slot_from-requires c =
    let a = c.args in
    let r = reachable a.store.now c.requires.sound a.owner c.requires.owner_value in
    record { count_bound = omega arith; first_bound = omega arith }
