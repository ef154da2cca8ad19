-- `map_ops` meets its contract: what is left to pair, from the words as they are, is the whole from the words as they were. Assumes nothing.
use mathlib.Core.Path.{ap, ◌∙◌}
use Rattle.std.proofs.Common.{rules}
use Rattle.rules.specs.Store.{Store, ops_of}
use Rattle.rules.specs.declared.types.Sort.TheVariants.{Block as block}
use Rattle.rules.specs.Types.{renamed}
use Rattle.rules.specs.Comparison.{each_pair, pair_of, pass2}
use Rattle.rules.proofs.Walking.Paired.{grows_pairwise, grows_pair_ops}
use Rattle.layout.specs.Reading.{store_in}
use Rattle.fragments.specs.BlocksLeft.{blocks_left}
use Rattle.fragments.specs.Options.{Options, renamed_under}
use Rattle.fragments.specs.Order.{block_list}
use Rattle.fragments.specs.View.{options_in}
use Rattle.fragments.proofs.Ordered.{block_in_lem}
use Rattle.equivalence.specs.Compares.{state_of}
use Rattle.equivalence.specs.Walked.{left_of, right_of, lefts, rights, pairs_walk, pass2_walk}
use Rattle.equivalence.proofs.Nexts.{over_next}
use Rattle.equivalence.proofs.Zipped.{Zips, Turn, each_zips, rest_begins, turn, step_fits, turn_ends, turn_rest, each_ends}
use Rattle.equivalence.proofs.passes.map_ops.Goals as goal
use Rattle.equivalence.proofs.passes.map_ops.Goals.{In-Some}

zips : (s : Store) (o : Options) → Zips (pairs_walk s o) (each_pair (pairs_walk s o))
zips s o = each_zips (pairs_walk s o) (λ i j. grows_pairwise _ (grows_pair_ops (renamed_under o s) o.ignore) (pair_of block i j) _ _)

-- the two blocks that come
pair_comes : (c : In-Some)
    → Turn (pairs_walk (store_in c.args.view.now.store.now) (options_in c.args.view.now)) (each_pair (pairs_walk (store_in c.args.view.now.store.now) (options_in c.args.view.now)))
    (lefts (store_in c.args.view.now.store.now) c.args.lists) (rights (store_in c.args.view.now.store.now) c.args.lists) (blocks_left c.next.new.self.a) (blocks_left c.next.new.self.b)
    (pass2_walk (store_in c.args.view.now.store.now) (options_in c.args.view.now) c.args.lists (state_of c.args.mapping.now c.args.paired))
    (state_of c.loop-lhs.mapping c.loop-lhs.count) c.in-Some.lhs c.in-Some.rhs
pair_comes c = turn (zips (store_in c.args.view.now.store.now) (options_in c.args.view.now)) c.loop-lhs.invariant.2 c.in-Some.ensures.steps.0 c.in-Some.ensures.steps.1

pub loop-lhs-init : goal.loop-lhs-init
unfolding pass2 renamed ops_of
loop-lhs-init c =
    let S = store_in c.args.view.now.store.now in
    let given = c.into_iter-lhs-iterator.ensures.into_iter_gives in
    let zipped = c.zip-lhs-items.ensures in (
      _,
      _,
      rest_begins _ (lefts S c.args.lists) (rights S c.args.lists) _ _ c.args.mapping.now c.args.paired
          ((λ i. blocks_left (given i).a) ∙ ap blocks_left zipped.first ∙ c.new-ls.ensures ∙ ap (block_list S) c.left.ensures)
          ((λ i. blocks_left (given i).b) ∙ ap blocks_left zipped.second ∙ c.new-rs.ensures ∙ ap (block_list S) c.right.ensures),
    )

pub map_ops_in-requires-clause-lhs_bound : goal.map_ops_in-requires-clause-lhs_bound
map_ops_in-requires-clause-lhs_bound c =
    block_in_lem _ (left_of c.args.lists) _ c.requires.lists_exist.0 (pair_comes ((goal.at.map_ops_in-requires-clause-lhs_bound c).In-Some)).l_in

pub map_ops_in-requires-clause-rhs_bound : goal.map_ops_in-requires-clause-rhs_bound
map_ops_in-requires-clause-rhs_bound c =
    block_in_lem _ (right_of c.args.lists) _ c.requires.lists_exist.1 (pair_comes ((goal.at.map_ops_in-requires-clause-rhs_bound c).In-Some)).r_in

pub map_ops_in-requires-clause-paired_fits : goal.map_ops_in-requires-clause-paired_fits
map_ops_in-requires-clause-paired_fits c =
    step_fits (zips (store_in c.args.view.now.store.now) (options_in c.args.view.now)) (pair_comes ((goal.at.map_ops_in-requires-clause-paired_fits c).In-Some)) c.requires.paired_fits

pub returns-in_err-count : goal.returns-in_err-count
returns-in_err-count c =
    turn_ends (zips (store_in c.args.view.now.store.now) (options_in c.args.view.now)) (pair_comes ((goal.at.returns-in_err-count c).In-Some)) _ _ c.map_ops_in.ensures
    c.in_err-count.field-0.0 _ c.in_err-count.was (search rules)

pub loop-lhs-preserved : goal.loop-lhs-preserved
loop-lhs-preserved c = (
  _,
  _,
  turn_rest (zips (store_in c.args.view.now.store.now) (options_in c.args.view.now)) (pair_comes ((goal.at.loop-lhs-preserved c).In-Some)) _ _ c.map_ops_in.ensures c.in_ok-count.was,
)

pub returns : goal.returns
returns c =
    each_ends (pairs_walk (store_in c.args.view.now.store.now) (options_in c.args.view.now)) c.loop-lhs.invariant.2
    (over_next blocks_left blocks_left c.loop-lhs.lhs-iterator.a c.loop-lhs.lhs-iterator.b c.in-None.ensures.steps)
