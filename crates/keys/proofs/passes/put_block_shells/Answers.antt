-- `put_block_shells` meets its contract: how many there are, then the shells of the blocks that came, which are all in the end. Assumes nothing.
use Prim.Native.Nat.{ℕ}
use mathlib.Core.List.{List, [], ◌∷◌}
use native.Mathlib.Omega.{arith}
use mathlib.Core.Path.{ap, ◌∙◌}
use lib.ListN.{length}
use Rattle.std.proofs.Common.{rules}
use Rattle.rules.specs.Store.{Store}
use Rattle.rules.specs.declared.types.Owner.TheVariants.{Block as of_block}
use Rattle.rules.specs.Fragments.{counted, shells}
use Rattle.layout.specs.Columns.{columns}
use Rattle.fragments.specs.BlocksLeft.{blocks_left}
use Rattle.fragments.specs.Order.{block_list}
use Rattle.fragments.proofs.Ordered.{block_in_lem}
use Rattle.fragments.proofs.Yielded.{item_comes, all_came, comes_mem}
use Rattle.fragments.specs.Parts.{block_shells}
use Rattle.fragments.proofs.Counting.{room_counted}
use Rattle.fragments.proofs.Passing.{StepRelation, none_came, came_over, came_room, came_again}
use Rattle.fragments.proofs.Rounds.{each_shell, each_shell_lem}
use Rattle.fragments.specs.View.{store_read, options_in}
use Rattle.keys.proofs.Writing.{Spot, wrote_then, wrote_counted, wrote_first, wrote_rest, wrote_all, key_walk}
use Rattle.keys.proofs.passes.put_block_shells.Goals as goal

pub loop-b-init : goal.loop-b-init
loop-b-init c =
    let store : Store = store_read c.args.view.now in
    let walk : StepRelation Spot = key_walk store (options_in c.args.view.now) in
    (_, _, none_came walk (each_shell_lem of_block))

pub put_block_shell-requires-clause-n_bound : goal.put_block_shell-requires-clause-n_bound
put_block_shell-requires-clause-n_bound c =
    let turn =
    item_comes blocks_left _ _ _ _ (ap blocks_left c.into_iter-b-iterator.ensures.into_iter_gives ∙ c.new-b-items.ensures) c.loop-b.yielded_by
    c.next.new.self _ _ c.in-Some.is c.next.ensures.steps in
    block_in_lem (columns c.args.view.now.store.now) c.args.blocks c.in-Some.b c.requires.blocks_exist (comes_mem _ _ _ _ turn)

pub put_block_shell-requires-clause-definitions_fit : goal.put_block_shell-requires-clause-definitions_fit
unfolding block_shells shells
put_block_shell-requires-clause-definitions_fit c =
    let store : Store = store_read c.args.view.now in
    let walk : StepRelation Spot = key_walk store (options_in c.args.view.now) in
    let list : List ℕ = block_list store c.args.blocks in
    let turn =
    item_comes blocks_left _ _ _ _ (ap blocks_left c.into_iter-b-iterator.ensures.into_iter_gives ∙ c.new-b-items.ensures) c.loop-b.yielded_by
    c.next.new.self _ _ c.in-Some.is c.next.ensures.steps in
    came_room walk (each_shell_lem of_block) c.loop-b.yielded c.loop-b.invariant.2 c.in-Some.b _ list turn (room_counted store (length list) (each_shell of_block list) c.requires.definitions_fit)

pub loop-b-preserved : goal.loop-b-preserved
loop-b-preserved c =
    let store : Store = store_read c.args.view.now in
    let walk : StepRelation Spot = key_walk store (options_in c.args.view.now) in (
      _,
      _,
      came_again walk (each_shell_lem of_block) c.loop-b.yielded c.loop-b.invariant.2 c.in-Some.b
          (wrote_rest store (options_in c.args.view.now) c.min-rest.ensures c.put_block_shell.ensures c.saturating_add-at.ensures),
    )

pub returns : goal.returns
unfolding block_shells shells
returns c =
    let store : Store = store_read c.args.view.now in
    let walk : StepRelation Spot = key_walk store (options_in c.args.view.now) in
    let list : List ℕ = block_list store c.args.blocks in
    let all =
    all_came blocks_left _ _ _ _ (ap blocks_left c.into_iter-b-iterator.ensures.into_iter_gives ∙ c.new-b-items.ensures) c.loop-b.yielded_by
    c.next.new.self _ c.in-None.is c.next.ensures.steps in
    let options = options_in c.args.view.now in
    wrote_all store options (omega arith)
    (wrote_then store options (counted (length list) ∷ []) (each_shell of_block list)
    (wrote_first store options (wrote_counted store options (length list) (c.put_counted-at.ensures (length list) (λ r h. search rules))))
    (came_over walk (each_shell_lem of_block) c.loop-b.yielded c.loop-b.invariant.2 list all))
