-- `map_ops_in` meets its contract: what is left to pair, from the words as they are, is the whole from the words as they were. Assumes nothing.
use Prim.Native.Nat.{ℕ}
use native.Mathlib.Omega.{arith}
use Rattle.std.proofs.Common.{rules}
use mathlib.Core.Logic.{inl, inr}
use mathlib.Core.Path.{refl}
use Rattle.rules.specs.Store.{Store, ops_of}
use Rattle.rules.specs.declared.types.Sort.TheVariants.{Block as block}
use Rattle.rules.specs.Comparison.{State, Pair, Walk, pair_of, pairwise, pair_ops}
use Rattle.rules.proofs.Walking.Paired.{grows_pair_ops}
use Rattle.layout.specs.Columns.{columns}
use Rattle.layout.specs.Reading.{store_in}
use Rattle.layout.specs.OpsLeft.{ops_left}
use Rattle.layout.proofs.Laid.{laid_facts}
use Rattle.fragments.specs.Options.{Options, renamed_under}
use Rattle.fragments.specs.View.{options_in}
use Rattle.fragments.proofs.Ordered.{op_in_lem}
use Rattle.equivalence.specs.Compares.{answer_of, state_of}
use Rattle.equivalence.specs.Walked.{pairs_walk}
use Rattle.equivalence.proofs.Nexts.{none_next, some_next}
use Rattle.equivalence.proofs.Zipped.{Zips, Turn, pairwise_zips, rest_fits, turn, turn_ends, turn_rest, pairwise_ends, uneven_ends}
use Rattle.equivalence.proofs.passes.map_ops_in.Goals as goal
use Rattle.equivalence.proofs.passes.map_ops_in.Goals.{In-Some-Some}

abbrev step : Store → Options → ℕ → ℕ → State → Walk
step s o = pair_ops (renamed_under o s) o.ignore

zips : (s : Store) (o : Options) (p : Pair) → Zips (step s o) (pairwise (step s o) p)
zips s o p = pairwise_zips (step s o) (grows_pair_ops (renamed_under o s) o.ignore) p

-- the two operations that come
pair_comes : (c : In-Some-Some)
    → Turn (step (store_in c.args.view.now.store.now) (options_in c.args.view.now)) (pairwise (step (store_in c.args.view.now.store.now) (options_in c.args.view.now)) (pair_of block c.args.pair.lhs c.args.pair.rhs))
    (ops_of (store_in c.args.view.now.store.now) c.args.pair.lhs) (ops_of (store_in c.args.view.now.store.now) c.args.pair.rhs)
    (ops_left c.next.new.self) (ops_left c.next-in-loop-lhs.new.self)
    (pairs_walk (store_in c.args.view.now.store.now) (options_in c.args.view.now) c.args.pair.lhs c.args.pair.rhs (state_of c.args.mapping.now c.args.paired))
    (state_of c.loop-lhs.mapping c.loop-lhs.count) c.in-Some-Some.lhs c.in-Some-Some.rhs
pair_comes c =
    turn (zips (store_in c.args.view.now.store.now) (options_in c.args.view.now) (pair_of block c.args.pair.lhs c.args.pair.rhs)) c.loop-lhs.invariant.2
    c.in-Some-Some.ensures.steps c.in-Some-Some.ensures'.steps

pub op_eq_map-requires-clause-lhs_bound : goal.op_eq_map-requires-clause-lhs_bound
op_eq_map-requires-clause-lhs_bound c = op_in_lem _ c.args.pair.lhs _ (pair_comes ((goal.at.op_eq_map-requires-clause-lhs_bound c).In-Some-Some)).l_in

pub op_eq_map-requires-clause-rhs_bound : goal.op_eq_map-requires-clause-rhs_bound
op_eq_map-requires-clause-rhs_bound c = op_in_lem _ c.args.pair.rhs _ (pair_comes ((goal.at.op_eq_map-requires-clause-rhs_bound c).In-Some-Some)).r_in

pub op_eq_map-requires-clause-paired_le_max_paired : goal.op_eq_map-requires-clause-paired_le_max_paired
op_eq_map-requires-clause-paired_le_max_paired c =
    rest_fits (zips (store_in c.args.view.now.store.now) (options_in c.args.view.now) (pair_of block c.args.pair.lhs c.args.pair.rhs)) c.loop-lhs.invariant.2 c.requires.paired_fits

pub returns-in_err-count-in-Some-Some : goal.returns-in_err-count-in-Some-Some
returns-in_err-count-in-Some-Some c =
    let t = pair_comes ((goal.at.returns-in_err-count-in-Some-Some c).In-Some-Some) in
    turn_ends (zips (store_in c.args.view.now.store.now) (options_in c.args.view.now) (pair_of block c.args.pair.lhs c.args.pair.rhs)) t _ _ c.op_eq_map.ensures
    c.in_err-count-in-Some-Some.field-0.0 _ c.in_err-count-in-Some-Some.was (search rules)

pub loop-lhs-preserved : goal.loop-lhs-preserved
loop-lhs-preserved c =
    let t = pair_comes ((goal.at.loop-lhs-preserved c).In-Some-Some) in (
      _,
      _,
      turn_rest (zips (store_in c.args.view.now.store.now) (options_in c.args.view.now) (pair_of block c.args.pair.lhs c.args.pair.rhs)) t _ _ c.op_eq_map.ensures c.in_ok-count-in-Some-Some.was,
    )

pub returns-in-None-None : goal.returns-in-None-None
returns-in-None-None c =
    pairwise_ends (step (store_in c.args.view.now.store.now) (options_in c.args.view.now)) (pair_of block c.args.pair.lhs c.args.pair.rhs) c.loop-lhs.invariant.2
    (none_next ops_left c.loop-lhs.ls c.next.new.self _ c.next.ensures.steps c.in-None-None.is-0) (none_next ops_left c.loop-lhs.rs c.next-in-loop-lhs.new.self _ c.next-in-loop-lhs.ensures.steps c.in-None-None.is-1)

pub overflow_cast-result : goal.overflow_cast-result
overflow_cast-result c =
    let few = (laid_facts (columns c.args.view.now.store.now) c.args.view.now.readable.sound.laid).counts.blocks in
    record { fits = omega (arith, few, c.requires.lhs_bound) }

pub overflow_cast-result-in-Some-None : goal.overflow_cast-result-in-Some-None
overflow_cast-result-in-Some-None c =
    let few = (laid_facts (columns c.args.view.now.store.now) c.args.view.now.readable.sound.laid).counts.blocks in
    record { fits = omega (arith, few, c.requires.rhs_bound) }

pub overflow_cast-result-in-None-Some : goal.overflow_cast-result-in-None-Some
overflow_cast-result-in-None-Some c =
    let few = (laid_facts (columns c.args.view.now.store.now) c.args.view.now.readable.sound.laid).counts.blocks in
    record { fits = omega (arith, few, c.requires.lhs_bound) }

pub overflow_cast-result-in-None-Some-2 : goal.overflow_cast-result-in-None-Some-2
overflow_cast-result-in-None-Some-2 c =
    let few = (laid_facts (columns c.args.view.now.store.now) c.args.view.now.readable.sound.laid).counts.blocks in
    record { fits = omega (arith, few, c.requires.rhs_bound) }

pub returns-in-Some-None : goal.returns-in-Some-None
unfolding answer_of
returns-in-Some-None c =
    uneven_ends (step (store_in c.args.view.now.store.now) (options_in c.args.view.now)) (pair_of block c.args.pair.lhs c.args.pair.rhs) c.loop-lhs.invariant.2 _ refl
    (inl (
      some_next ops_left c.loop-lhs.ls c.next.new.self _ c.next.ensures.steps (search rules),
      none_next ops_left c.loop-lhs.rs c.next-in-loop-lhs.new.self _ c.next-in-loop-lhs.ensures.steps (search rules),
    ))

pub returns-in-None-Some : goal.returns-in-None-Some
unfolding answer_of
returns-in-None-Some c =
    uneven_ends (step (store_in c.args.view.now.store.now) (options_in c.args.view.now)) (pair_of block c.args.pair.lhs c.args.pair.rhs) c.loop-lhs.invariant.2 _ refl
    (inr (
      none_next ops_left c.loop-lhs.ls c.next.new.self _ c.next.ensures.steps (search rules),
      some_next ops_left c.loop-lhs.rs c.next-in-loop-lhs.new.self _ c.next-in-loop-lhs.ensures.steps (search rules),
    ))
