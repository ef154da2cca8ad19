-- `put_op_shells` meets its contract: the operations of the blocks that came, which are all in the end. Assumes nothing.
use Prim.Native.Nat.{ℕ}
use mathlib.Core.List.{List}
use mathlib.Core.Path.{ap, ◌∙◌}
use native.Mathlib.Omega.{arith}
use Rattle.rules.specs.Store.{Store}
use Rattle.layout.specs.Columns.{columns}
use Rattle.fragments.specs.BlocksLeft.{blocks_left}
use Rattle.fragments.specs.Order.{block_list}
use Rattle.fragments.proofs.Ordered.{block_in_lem}
use Rattle.fragments.proofs.Yielded.{item_comes, all_came, comes_mem}
use Rattle.fragments.specs.Parts.{op_shells}
use Rattle.fragments.proofs.Passing.{StepRelation, none_came, came_over, came_room, came_again}
use Rattle.fragments.proofs.Rounds.{each}
use Rattle.fragments.specs.View.{store_read, options_in}
use Rattle.keys.proofs.Writing.{Spot, key_walk, wrote_rest, wrote_all}
use Rattle.keys.proofs.passes.put_op_shells.Goals as goal

pub loop-b-init : goal.loop-b-init
loop-b-init c =
    let store : Store = store_read c.args.view.now in
    let walk : StepRelation Spot = key_walk store (options_in c.args.view.now) in
    (_, _, none_came walk (each (op_shells store)))

pub put_op_shells_in-requires-clause-b_bound : goal.put_op_shells_in-requires-clause-b_bound
put_op_shells_in-requires-clause-b_bound c =
    let turn =
    item_comes blocks_left _ _ _ _ (ap blocks_left c.into_iter-b-iterator.ensures.into_iter_gives ∙ c.new-b-items.ensures) c.loop-b.yielded_by
    c.next.new.self _ _ c.in-Some.is c.next.ensures.steps in
    block_in_lem (columns c.args.view.now.store.now) c.args.blocks c.in-Some.b c.requires.blocks_exist (comes_mem _ _ _ _ turn)

pub put_op_shells_in-requires-clause-definitions_fit : goal.put_op_shells_in-requires-clause-definitions_fit
put_op_shells_in-requires-clause-definitions_fit c =
    let store : Store = store_read c.args.view.now in
    let walk : StepRelation Spot = key_walk store (options_in c.args.view.now) in
    let list : List ℕ = block_list store c.args.blocks in
    let turn =
    item_comes blocks_left _ _ _ _ (ap blocks_left c.into_iter-b-iterator.ensures.into_iter_gives ∙ c.new-b-items.ensures) c.loop-b.yielded_by
    c.next.new.self _ _ c.in-Some.is c.next.ensures.steps in
    came_room walk (each (op_shells store)) c.loop-b.yielded c.loop-b.invariant.2 c.in-Some.b _ list turn c.requires.definitions_fit

pub loop-b-preserved : goal.loop-b-preserved
loop-b-preserved c =
    let store : Store = store_read c.args.view.now in
    let walk : StepRelation Spot = key_walk store (options_in c.args.view.now) in (
      _,
      _,
      came_again walk (each (op_shells store)) c.loop-b.yielded c.loop-b.invariant.2 c.in-Some.b
          (wrote_rest store (options_in c.args.view.now) c.min-rest.ensures c.put_op_shells_in.ensures c.saturating_add-at.ensures),
    )

pub returns : goal.returns
returns c =
    let store : Store = store_read c.args.view.now in
    let walk : StepRelation Spot = key_walk store (options_in c.args.view.now) in
    let list : List ℕ = block_list store c.args.blocks in
    let all =
    all_came blocks_left _ _ _ _ (ap blocks_left c.into_iter-b-iterator.ensures.into_iter_gives ∙ c.new-b-items.ensures) c.loop-b.yielded_by
    c.next.new.self _ c.in-None.is c.next.ensures.steps in
    wrote_all store (options_in c.args.view.now) (omega arith) (came_over walk (each (op_shells store)) c.loop-b.yielded c.loop-b.invariant.2 list all)
