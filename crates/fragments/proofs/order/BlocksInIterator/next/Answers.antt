-- `next` of a list of blocks meets its contract: the next block is the first of what is left. Assumes nothing.
use native.Mathlib.Omega.{arith}
use mathlib.Core.List.{List}
use mathlib.Core.Path.{ap}
use Prim.Native.Nat.{ℕ}
use lib.ListN.{length}
use Rattle.layout.specs.Columns.{columns}
use Rattle.layout.specs.Reading.{store_of}
use Rattle.layout.proofs.Laid.{laid_facts}
use Rattle.layout.proofs.Seeking.{NextChild, none_next}
use Rattle.fragments.specs.Order.{block_list}
use Rattle.fragments.proofs.Ordered.{next_in_list, block_in_lem}
use Rattle.fragments.proofs.order.BlocksInIterator.next.Goals as goal
use Rattle.fragments.proofs.order.BlocksInIterator.next.Goals.{In_ok-b}

first_left : (c : In_ok-b) → NextChild (block_list (store_of (columns c.args.self.now.store.now)) c.args.self.now.blocks) c.args.self.now.from c.in_ok-b.b
first_left c = let walk = c.args.self.now in next_in_list _ walk.blocks walk.from _ _ c.next_in.ensures c.in_ok-b.was

pub returns-in_err-b-clause-steps : goal.returns-in_err-b-clause-steps
returns-in_err-b-clause-steps c =
    let none_left = none_next c.args.self.now.from _ _ c.next_in.ensures c.in_err-b.was in
    rw c.from_residual.ensures (none_left, none_left)

pub overflow_add-self : goal.overflow_add-self
overflow_add-self c =
    let walk = c.args.self.now in
    omega (arith, block_in_lem _ walk.blocks _ walk.blocks_exist (first_left c).child, (laid_facts _ walk.sound.laid).counts.blocks)

pub returns-clause-steps : goal.returns-clause-steps
returns-clause-steps c = (first_left ((goal.at.returns-clause-steps c).In_ok-b)).rest

pub returns-clause-goes : goal.returns-clause-goes
returns-clause-goes c =
    let fewer = ap (λ (bs : List ℕ). length bs) (first_left ((goal.at.returns-clause-goes c).In_ok-b)).rest in
    record { on = λ _. (_, _, omega (arith, fewer)); keeps = _; rests = λ _. _ }
