-- `map_blocks` meets its contract: what is left to pair, from the words as they are, is the whole from the words as they were. Assumes nothing.
use Prim.Native.Nat.{ℕ}
use Rattle.std.proofs.Common.{rules}
use mathlib.Core.Logic.{inl, inr}
use mathlib.Core.Path.{ap, ◌∙◌}
use Rattle.rules.specs.Store.{Store}
use Rattle.rules.specs.Comparison.{State, Pair, Walk, pairwise, pair_blocks, pass1}
use Rattle.rules.proofs.Walking.Paired.{grows_pair_blocks}
use Rattle.layout.specs.Columns.{columns}
use Rattle.layout.specs.Reading.{store_in}
use Rattle.layout.proofs.Laid.{laid_facts}
use Rattle.fragments.specs.BlocksLeft.{blocks_left}
use Rattle.fragments.specs.Options.{Options, renamed_under}
use Rattle.fragments.specs.View.{options_in}
use Rattle.fragments.proofs.Ordered.{block_in_lem}
use Rattle.equivalence.specs.Compares.{answer_of, state_of}
use Rattle.equivalence.specs.Walked.{left_of, right_of, lefts, rights, pair_of_lists, pass1_walk}
use Rattle.std.specs.Prelude.{Err}
use Rattle.fragments.specs.Order.{block_list}
use Rattle.equivalence.specs.declared.verdicts.Unequal.{Unequal}
use Rattle.equivalence.proofs.Ordered.{bounded}
use Rattle.equivalence.proofs.Telling.{named_neq}
use Rattle.equivalence.proofs.Nexts.{none_next, some_next}
use Rattle.equivalence.proofs.Zipped.{Zips, Turn, pairwise_zips, rest_begins, rest_fits, turn, turn_ends, turn_rest, pairwise_ends, uneven_ends}
use Rattle.equivalence.proofs.passes.map_blocks.Goals as goal
use Rattle.equivalence.proofs.passes.map_blocks.Goals.{In-Some-Some}

abbrev step : Store → Options → ℕ → ℕ → State → Walk
step s o = pair_blocks (renamed_under o s) o.ignore

zips : (s : Store) (o : Options) (p : Pair) → Zips (step s o) (pairwise (step s o) p)
zips s o p = pairwise_zips (step s o) (grows_pair_blocks (renamed_under o s) o.ignore) p

-- the two blocks that come
pair_comes : (c : In-Some-Some)
    → Turn (step (store_in c.args.view.now.store.now) (options_in c.args.view.now)) (pairwise (step (store_in c.args.view.now.store.now) (options_in c.args.view.now)) (pair_of_lists c.args.lists))
    (lefts (store_in c.args.view.now.store.now) c.args.lists) (rights (store_in c.args.view.now.store.now) c.args.lists)
    (blocks_left c.next.new.self) (blocks_left c.next-in-loop-lhs.new.self)
    (pass1_walk (store_in c.args.view.now.store.now) (options_in c.args.view.now) c.args.lists (state_of c.args.mapping.now c.args.paired))
    (state_of c.loop-lhs.mapping c.loop-lhs.count) c.in-Some-Some.lhs c.in-Some-Some.rhs
pair_comes c =
    turn (zips (store_in c.args.view.now.store.now) (options_in c.args.view.now) (pair_of_lists c.args.lists)) c.loop-lhs.invariant.2
    c.in-Some-Some.ensures.steps c.in-Some-Some.ensures'.steps

pub loop-lhs-init : goal.loop-lhs-init
unfolding pass1
loop-lhs-init c =
    let S = store_in c.args.view.now.store.now in (
      _,
      _,
      rest_begins _ (lefts S c.args.lists) (rights S c.args.lists) _ _ c.args.mapping.now c.args.paired
          (c.new-ls.ensures ∙ ap (block_list S) c.left.ensures) (c.new-rs.ensures ∙ ap (block_list S) c.right.ensures),
    )

pub lengths_neq-requires : goal.lengths_neq-requires
lengths_neq-requires c = bounded (columns c.args.view.now.store.now) (laid_facts _ c.args.view.now.readable.sound.laid) c.args.lists c.requires.lists_exist

pub lengths_neq-requires-in-None-Some : goal.lengths_neq-requires-in-None-Some
lengths_neq-requires-in-None-Some c = bounded (columns c.args.view.now.store.now) (laid_facts _ c.args.view.now.readable.sound.laid) c.args.lists c.requires.lists_exist

pub block_eq_map-requires-clause-lhs_bound : goal.block_eq_map-requires-clause-lhs_bound
block_eq_map-requires-clause-lhs_bound c = block_in_lem _ (left_of c.args.lists) _ c.requires.lists_exist.0 (pair_comes ((goal.at.block_eq_map-requires-clause-lhs_bound c).In-Some-Some)).l_in

pub block_eq_map-requires-clause-rhs_bound : goal.block_eq_map-requires-clause-rhs_bound
block_eq_map-requires-clause-rhs_bound c = block_in_lem _ (right_of c.args.lists) _ c.requires.lists_exist.1 (pair_comes ((goal.at.block_eq_map-requires-clause-rhs_bound c).In-Some-Some)).r_in

pub block_eq_map-requires-clause-paired_le_max_paired : goal.block_eq_map-requires-clause-paired_le_max_paired
block_eq_map-requires-clause-paired_le_max_paired c =
    rest_fits (zips (store_in c.args.view.now.store.now) (options_in c.args.view.now) (pair_of_lists c.args.lists)) c.loop-lhs.invariant.2 c.requires.paired_fits

pub returns-in_err-count-in-Some-Some : goal.returns-in_err-count-in-Some-Some
returns-in_err-count-in-Some-Some c =
    let t = pair_comes ((goal.at.returns-in_err-count-in-Some-Some c).In-Some-Some) in
    turn_ends (zips (store_in c.args.view.now.store.now) (options_in c.args.view.now) (pair_of_lists c.args.lists)) t _ _ c.block_eq_map.ensures
    c.in_err-count-in-Some-Some.field-0.0 _ c.in_err-count-in-Some-Some.was (search rules)

pub loop-lhs-preserved : goal.loop-lhs-preserved
loop-lhs-preserved c =
    let t = pair_comes ((goal.at.loop-lhs-preserved c).In-Some-Some) in (
      _,
      _,
      turn_rest (zips (store_in c.args.view.now.store.now) (options_in c.args.view.now) (pair_of_lists c.args.lists)) t _ _ c.block_eq_map.ensures c.in_ok-count-in-Some-Some.was,
    )

pub returns-in-None-None : goal.returns-in-None-None
returns-in-None-None c =
    pairwise_ends (step (store_in c.args.view.now.store.now) (options_in c.args.view.now)) (pair_of_lists c.args.lists) c.loop-lhs.invariant.2
    (none_next blocks_left c.loop-lhs.ls c.next.new.self _ c.next.ensures.steps c.in-None-None.is-0) (none_next blocks_left c.loop-lhs.rs c.next-in-loop-lhs.new.self _ c.next-in-loop-lhs.ensures.steps c.in-None-None.is-1)

pub returns-in-Some-None : goal.returns-in-Some-None
returns-in-Some-None c =
    uneven_ends (step (store_in c.args.view.now.store.now) (options_in c.args.view.now)) (pair_of_lists c.args.lists) c.loop-lhs.invariant.2 _
    (ap (λ (u : Unequal). answer_of (Err u)) c.lengths_neq.ensures ∙ named_neq c.args.lists c.loop-lhs.count)
    (inl (
      some_next blocks_left c.loop-lhs.ls c.next.new.self _ c.next.ensures.steps (search rules),
      none_next blocks_left c.loop-lhs.rs c.next-in-loop-lhs.new.self _ c.next-in-loop-lhs.ensures.steps (search rules),
    ))

pub returns-in-None-Some : goal.returns-in-None-Some
returns-in-None-Some c =
    uneven_ends (step (store_in c.args.view.now.store.now) (options_in c.args.view.now)) (pair_of_lists c.args.lists) c.loop-lhs.invariant.2 _
    (ap (λ (u : Unequal). answer_of (Err u)) c.lengths_neq-in-None-Some.ensures ∙ named_neq c.args.lists c.loop-lhs.count)
    (inr (
      none_next blocks_left c.loop-lhs.ls c.next.new.self _ c.next.ensures.steps (search rules),
      some_next blocks_left c.loop-lhs.rs c.next-in-loop-lhs.new.self _ c.next-in-loop-lhs.ensures.steps (search rules),
    ))
