-- `put_op_shells_in` meets its contract: how many there are, then the shells of the operations that came, which are all in the end. Assumes nothing.
use Prim.Native.Nat.{ℕ}
use mathlib.Core.List.{List, [], ◌∷◌}
use native.Mathlib.Omega.{arith}
use mathlib.Core.Path.{ap, ◌∙◌}
use lib.ListN.{length}
use Rattle.std.proofs.Common.{rules}
use Rattle.rules.specs.Store.{Store, ops_of}
use Rattle.rules.specs.declared.types.Owner.TheVariants.{Op as of_op}
use Rattle.rules.specs.Fragments.{counted, shells}
use Rattle.layout.specs.Columns.{columns}
use Rattle.layout.specs.OpsLeft.{ops_left}
use Rattle.fragments.proofs.Ordered.{op_in_lem}
use Rattle.fragments.proofs.Yielded.{item_comes, all_came, comes_mem}
use Rattle.fragments.specs.Parts.{op_shells}
use Rattle.fragments.proofs.Counting.{room_counted}
use Rattle.fragments.proofs.Passing.{StepRelation, none_came, came_over, came_room, came_again}
use Rattle.fragments.proofs.Rounds.{each_shell, each_shell_lem}
use Rattle.fragments.specs.View.{store_read, options_in}
use Rattle.keys.proofs.Writing.{Spot, wrote_then, wrote_counted, wrote_first, wrote_rest, wrote_all, key_walk}
use Rattle.keys.proofs.passes.put_op_shells_in.Goals as goal

pub loop-n-init : goal.loop-n-init
loop-n-init c =
    let store : Store = store_read c.args.view.now in
    let walk : StepRelation Spot = key_walk store (options_in c.args.view.now) in
    (_, _, none_came walk (each_shell_lem of_op))

pub put_op_shell-requires-clause-n_bound : goal.put_op_shell-requires-clause-n_bound
put_op_shell-requires-clause-n_bound c =
    let turn =
    item_comes ops_left _ _ _ _ (ap ops_left c.into_iter-n-iterator.ensures.into_iter_gives ∙ c.new-n-items.ensures) c.loop-n.yielded_by
    c.next.new.self _ _ c.in-Some.is c.next.ensures.steps in
    op_in_lem (columns c.args.view.now.store.now) c.args.b c.in-Some.n (comes_mem _ _ _ _ turn)

pub put_op_shell-requires-clause-definitions_fit : goal.put_op_shell-requires-clause-definitions_fit
unfolding op_shells shells
put_op_shell-requires-clause-definitions_fit c =
    let store : Store = store_read c.args.view.now in
    let walk : StepRelation Spot = key_walk store (options_in c.args.view.now) in
    let list : List ℕ = ops_of store c.args.b in
    let turn =
    item_comes ops_left _ _ _ _ (ap ops_left c.into_iter-n-iterator.ensures.into_iter_gives ∙ c.new-n-items.ensures) c.loop-n.yielded_by
    c.next.new.self _ _ c.in-Some.is c.next.ensures.steps in
    came_room walk (each_shell_lem of_op) c.loop-n.yielded c.loop-n.invariant.2 c.in-Some.n _ list turn (room_counted store (length list) (each_shell of_op list) c.requires.definitions_fit)

pub loop-n-preserved : goal.loop-n-preserved
loop-n-preserved c =
    let store : Store = store_read c.args.view.now in
    let walk : StepRelation Spot = key_walk store (options_in c.args.view.now) in (
      _,
      _,
      came_again walk (each_shell_lem of_op) c.loop-n.yielded c.loop-n.invariant.2 c.in-Some.n
          (wrote_rest store (options_in c.args.view.now) c.min-rest.ensures c.put_op_shell.ensures c.saturating_add-at.ensures),
    )

pub returns : goal.returns
unfolding op_shells shells
returns c =
    let store : Store = store_read c.args.view.now in
    let walk : StepRelation Spot = key_walk store (options_in c.args.view.now) in
    let list : List ℕ = ops_of store c.args.b in
    let all =
    all_came ops_left _ _ _ _ (ap ops_left c.into_iter-n-iterator.ensures.into_iter_gives ∙ c.new-n-items.ensures) c.loop-n.yielded_by
    c.next.new.self _ c.in-None.is c.next.ensures.steps in
    let options = options_in c.args.view.now in
    wrote_all store options (omega arith)
    (wrote_then store options (counted (length list) ∷ []) (each_shell of_op list)
    (wrote_first store options (wrote_counted store options (length list) (c.put_counted-at.ensures (length list) (λ r h. search rules))))
    (came_over walk (each_shell_lem of_op) c.loop-n.yielded c.loop-n.invariant.2 list all))
