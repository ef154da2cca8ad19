-- `check_runs` meets its contract: what is left to check, from the words as they are, is the whole from the words as they were. Assumes nothing.
use Prim.Native.Nat.{ℕ}
use native.Mathlib.Omega.{arith}
use mathlib.Core.List.{List}
use mathlib.Core.Path.{◌≡◌, sym, ap, ◌∙◌}
use lib.ListN.{length}
use Rattle.std.proofs.Common.{rules}
use Rattle.std.proofs.lemmas.Slice.Zip.{Zip-more, either_empty_from_Zip}
use Rattle.std.specs.Iterator.Adapters.{zip_first, zip_second}
use Rattle.std.specs.Slice.Iter.{iter_rest}
use Rattle.rules.specs.Store.{Store}
use Rattle.rules.specs.Comparison.{State, Walk, each_pair}
use Rattle.fragments.specs.Options.{Options}
use Rattle.equivalence.specs.Walked.{op_walk}
use Rattle.equivalence.proofs.Rounds.{grows_op}
use Rattle.equivalence.proofs.Zipped.{Zips, Turn, each_zips, rest_begins, step_fits, turn, turn_ends, turn_rest, each_ends}
use Rattle.repeated_runs.specs.Walked.{left_run, right_run, check_walk}
use Rattle.repeated_runs.proofs.Listed.{run_here, run_long}
use Rattle.layout.specs.Reading.{store_in}
use Rattle.fragments.specs.View.{options_in}
use Rattle.equivalence.specs.Compares.{state_of}
use Rattle.repeated_runs.proofs.comparing.check_runs.Goals as goal
use Rattle.repeated_runs.proofs.comparing.check_runs.Goals.{In-Some}

abbrev step : Store → Options → ℕ → ℕ → State → Walk
step s o = op_walk s o

zips : (s : Store) (o : Options) → Zips (step s o) (each_pair (step s o))
zips s o = each_zips (step s o) (grows_op s o)

-- the two operations that come
pair_comes : (c : In-Some)
    → Turn (step (store_in c.args.view.now.store.now) (options_in c.args.view.now)) (each_pair (step (store_in c.args.view.now.store.now) (options_in c.args.view.now))) (left_run c.args.ops.now c.args.two) (right_run c.args.ops.now c.args.two)
    (iter_rest (zip_first c.next.new.self)) (iter_rest (zip_second c.next.new.self)) (check_walk (store_in c.args.view.now.store.now) (options_in c.args.view.now) c.args.ops.now c.args.two (state_of c.args.mapping.now c.args.paired))
    (state_of c.loop-lhs.mapping c.loop-lhs.count) c.in-Some.lhs.now c.in-Some.rhs.now
pair_comes c =
    let more = Zip-more c.loop-lhs.lhs-iterator c.next.new.self c.next.result (c.in-Some.lhs, c.in-Some.rhs) c.in-Some.is c.next.ensures.steps in
    turn (zips (store_in c.args.view.now.store.now) (options_in c.args.view.now)) c.loop-lhs.invariant.1 more.0 more.1

pub loop-lhs-init : goal.loop-lhs-init
loop-lhs-init c =
    let x = c.args.two in
    let ops = c.args.ops.now in
    let first : iter_rest (zip_first c.into_iter-lhs-iterator.result) ≡ left_run ops x = cc in
    let second : iter_rest (zip_second c.into_iter-lhs-iterator.result) ≡ right_run ops x = cc in (
      ap (λ (xs : List ℕ). length xs) first ∙ run_long ops x.runs.n x.left c.requires.runs_in.left
          ∙ sym (ap (λ (xs : List ℕ). length xs) second ∙ run_long ops x.runs.n x.right c.requires.runs_in.right),
      rest_begins _ (left_run ops x) (right_run ops x) _ _ c.args.mapping.now c.args.paired first second,
    )

pub op_eq_mapped-requires-clause-lhs_bound : goal.op_eq_mapped-requires-clause-lhs_bound
op_eq_mapped-requires-clause-lhs_bound c = run_here c.requires.runs_in.listed c.args.two.runs.n c.args.two.left _ (pair_comes ((goal.at.op_eq_mapped-requires-clause-lhs_bound c).In-Some)).l_in

pub op_eq_mapped-requires-clause-rhs_bound : goal.op_eq_mapped-requires-clause-rhs_bound
op_eq_mapped-requires-clause-rhs_bound c = run_here c.requires.runs_in.listed c.args.two.runs.n c.args.two.right _ (pair_comes ((goal.at.op_eq_mapped-requires-clause-rhs_bound c).In-Some)).r_in

pub op_eq_mapped-requires-clause-paired_fits : goal.op_eq_mapped-requires-clause-paired_fits
op_eq_mapped-requires-clause-paired_fits c = step_fits (zips (store_in c.args.view.now.store.now) (options_in c.args.view.now)) (pair_comes ((goal.at.op_eq_mapped-requires-clause-paired_fits c).In-Some)) c.requires.paired_fits

pub returns-in_err-count : goal.returns-in_err-count
returns-in_err-count c =
    turn_ends (zips (store_in c.args.view.now.store.now) (options_in c.args.view.now)) (pair_comes ((goal.at.returns-in_err-count c).In-Some)) _ _ c.op_eq_mapped.ensures c.in_err-count.field-0.0 _ c.in_err-count.was (search rules)

pub loop-lhs-preserved : goal.loop-lhs-preserved
loop-lhs-preserved c =
    let more = Zip-more c.loop-lhs.lhs-iterator c.next.new.self c.next.result (c.in-Some.lhs, c.in-Some.rhs) c.in-Some.is c.next.ensures.steps in
    let left = ap (λ (xs : List ℕ). length xs) more.0 in
    let right = ap (λ (xs : List ℕ). length xs) more.1 in
    (omega (arith, left, right, c.loop-lhs.invariant.0), turn_rest (zips (store_in c.args.view.now.store.now) (options_in c.args.view.now)) (pair_comes ((goal.at.loop-lhs-preserved c).In-Some)) _ _ c.op_eq_mapped.ensures c.in_ok-count.was)

pub returns : goal.returns
returns c =
    let empty = either_empty_from_Zip c.loop-lhs.lhs-iterator c.next.new.self c.next.result c.in-None.is c.next.ensures.steps in
    each_ends (step (store_in c.args.view.now.store.now) (options_in c.args.view.now)) c.loop-lhs.invariant.1 empty
