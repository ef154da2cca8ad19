-- `list_op_shells_in` meets its contract: a pass through the block's operations, whose step is a shell. Assumes nothing.
use Rattle.std.proofs.Common.{◌≡◌, ◌<◌, ◌∷◌, ◌++◌, ap, ◌∙◌, arith}
use Rattle.rules.specs.Store.{ops_of}
use Rattle.rules.specs.declared.types.Owner.TheVariants.{Op as of_op}
use Rattle.layout.specs.Columns.{columns}
use Rattle.layout.specs.OpsLeft.{ops_left}
use Rattle.layout.specs.Reading.{op_count, store_in}
use Rattle.layout.proofs.Laid.{laid_facts}
use Rattle.fragments.proofs.Ordered.{op_in_lem}
use Rattle.fragments.proofs.Yielded.{item_comes, all_came, comes_mem}
use Rattle.fragments.specs.Parts.{op_shells}
use Rattle.fragments.proofs.Passing.{none_came, came_over, came_room, came_again}
use Rattle.fragments.proofs.Rounds.{each_shell_lem}
use Rattle.copying.specs.declared.steps.Step.TheVariants.{OpShell}
use Rattle.copying.specs.Steps.{step_of}
use Rattle.copying.proofs.Listing.{list_walk, shells_fit, shells_listed, fits_one, listed_one}
use Rattle.copying.proofs.steps.list_op_shells_in.Goals as goal
use Rattle.copying.proofs.steps.list_op_shells_in.Goals.{In-Some}

op_comes : (c : In-Some) → c.loop-n.yielded ++ c.in-Some.n ∷ ops_left c.next.new.self ≡ ops_of (store_in c.args.store.now) c.args.b
op_comes c =
    item_comes ops_left _ _ _ _ (ap ops_left c.into_iter-n-iterator.ensures.into_iter_gives ∙ c.new-n-items.ensures) c.loop-n.yielded_by c.next.new.self _ _ c.in-Some.is c.next.ensures.steps

pub loop-n-init : goal.loop-n-init
loop-n-init c = (_, _, none_came list_walk (each_shell_lem of_op))

pub overflow_cast-n : goal.overflow_cast-n
overflow_cast-n c =
    let turn = op_comes ((goal.at.overflow_cast-n c).In-Some) in
    let here : c.in-Some.n < op_count (columns c.args.store.now) = op_in_lem _ _ _ (comes_mem _ _ _ _ turn) in
    record { fits = omega (arith, here, (laid_facts (columns c.args.store.now) c.requires.sound.laid).counts.ops) }

pub push-requires : goal.push-requires
unfolding op_shells step_of
push-requires c =
    let turn = op_comes ((goal.at.push-requires c).In-Some) in
    fits_one (OpShell c.in-Some.n)
    (came_room list_walk (each_shell_lem of_op) _ c.loop-n.invariant.2 _ _ _ turn (shells_fit of_op (ops_of (store_in c.args.store.now) c.args.b) c.requires.steps_fit))

pub loop-n-preserved : goal.loop-n-preserved
unfolding step_of
loop-n-preserved c = (_, _, came_again list_walk (each_shell_lem of_op) _ c.loop-n.invariant.2 c.in-Some.n (listed_one (OpShell c.in-Some.n) c.push.ensures))

pub returns : goal.returns
unfolding op_shells
returns c =
    shells_listed of_op (ops_of (store_in c.args.store.now) c.args.b)
    (came_over list_walk (each_shell_lem of_op) _ c.loop-n.invariant.2 _
    (all_came ops_left _ _ _ _ (ap ops_left c.into_iter-n-iterator.ensures.into_iter_gives ∙ c.new-n-items.ensures) c.loop-n.yielded_by c.next.new.self _ c.in-None.is c.next.ensures.steps))
