-- `hash_op_shells_in` meets its contract: the steps of the operations that came are done, whose step is a shell. Assumes nothing.
use Rattle.std.proofs.Common.{◌≡◌, ◌∷◌, ◌++◌, ap, ◌∙◌, subst}
use Rattle.rules.specs.Store.{ops_of}
use Rattle.rules.specs.declared.types.Owner.TheVariants.{Op as of_op}
use Rattle.layout.specs.Columns.{columns}
use Rattle.layout.specs.Reading.{store_in}
use Rattle.layout.specs.OpsLeft.{ops_left}
use Rattle.fragments.specs.View.{options_in}
use Rattle.fragments.proofs.Ordered.{op_in_lem}
use Rattle.fragments.proofs.Yielded.{item_comes, all_came, comes_mem}
use Rattle.fragments.specs.Parts.{op_shells}
use Rattle.fragments.proofs.Passing.{none_came, came_room, came_again}
use Rattle.fragments.proofs.Rounds.{each_shell, each_shell_lem}
use Rattle.hashing.specs.Walked.{Feeds}
use Rattle.hashing.proofs.Parting.{hash_walk, shells_room, shells_fed}
use Rattle.hashing.proofs.passes.hash_op_shells_in.Goals as goal
use Rattle.hashing.proofs.passes.hash_op_shells_in.Goals.{In-Some}

op_comes : (c : In-Some) → c.loop-n.yielded ++ c.in-Some.n ∷ ops_left c.next.new.self ≡ ops_of (store_in c.args.view.now.store.now) c.args.b
op_comes c =
    item_comes ops_left _ _ _ _ (ap ops_left c.into_iter-n-iterator.ensures.into_iter_gives ∙ c.new-n-items.ensures) c.loop-n.yielded_by c.next.new.self _ _ c.in-Some.is c.next.ensures.steps

pub loop-n-init : goal.loop-n-init
loop-n-init c = none_came (hash_walk _ _) (each_shell_lem of_op) {a = (c.args.numbers.now, c.args.state.now.word)}

pub hash_op_shell-requires : goal.hash_op_shell-requires
unfolding op_shells
hash_op_shell-requires c =
    let turn = op_comes ((goal.at.hash_op_shell-requires c).In-Some) in
    record {
      n_bound = op_in_lem (columns c.args.view.now.store.now) c.args.b _ (comes_mem _ _ _ _ turn);
      definitions_fit = came_room (hash_walk _ _) (each_shell_lem of_op) c.loop-n.yielded c.loop-n.invariant c.in-Some.n _ _ turn (shells_room of_op _ c.requires.definitions_fit);
    }

pub loop-n-preserved : goal.loop-n-preserved
loop-n-preserved c = came_again (hash_walk _ _) (each_shell_lem of_op) c.loop-n.yielded c.loop-n.invariant c.in-Some.n c.hash_op_shell.ensures

pub returns : goal.returns
unfolding op_shells
returns c =
    let came = all_came ops_left _ _ _ _ (ap ops_left c.into_iter-n-iterator.ensures.into_iter_gives ∙ c.new-n-items.ensures) c.loop-n.yielded_by c.next.new.self _ c.in-None.is c.next.ensures.steps in
    shells_fed of_op _ (subst (λ xs. Feeds (store_in c.args.view.now.store.now) (options_in c.args.view.now) (each_shell of_op xs) c.args.numbers.now c.loop-n.numbers c.args.state.now.word c.loop-n.state.word) came c.loop-n.invariant)
