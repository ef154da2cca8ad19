-- `operations_eq` meets its contract: what a test refuses is refused, two kinds are two shells, and anything else is walked. Assumes nothing.
use native.Mathlib.Omega.{arith}
use mathlib.Core.Bool.{true}
use mathlib.Core.Path.{◌≡◌, refl, sym, subst, ◌∙◌}
use Rattle.std.specs.Prelude.{Err}
use Rattle.std.proofs.Common.{rules}
use Rattle.rules.specs.Fragments.{exists}
use Rattle.rules.specs.declared.types.Sort.TheVariants.{Op as op}
use Rattle.rules.specs.Comparison.{Walk, pair_ops}
use Rattle.layout.specs.Columns.{columns}
use Rattle.layout.specs.Reading.{store_in}
use Rattle.layout.proofs.Laid.{laid_facts}
use Rattle.fragments.specs.Index.{list_in}
use Rattle.fragments.proofs.Indexed.{index_holds}
use Rattle.fragments.specs.Options.{renamed_under}
use Rattle.fragments.specs.View.{options_in}
use Rattle.fragments.proofs.ByRows.{head_of_op, head_whole}
use Rattle.fragments.proofs.There.{there}
use Rattle.equivalence.specs.Compares.{state_of, compared_of}
use Rattle.equivalence.specs.Compares.{Compares}
use Rattle.equivalence.specs.declared.verdicts.Unequal.TheVariants.{FirstNEQOps}
use Rattle.equivalence.proofs.Alike.{kinds_unlike}
use Rattle.equivalence.proofs.Paired.{ops_unlike}
use Rattle.equivalence.specs.Calls.{ComparisonAnswers}
use Rattle.equivalence.specs.Walked.{op_walk}
use Rattle.equivalence.proofs.Telling.{told_ended}
use Rattle.equivalence.proofs.Answering.{tests_passed, tests_failed, pair_exists, refused_pair, walked, few_walk, op_walk_lem}
use Rattle.equivalence.proofs.comparison.operations_eq.Goals as goal
use Rattle.equivalence.proofs.comparison.operations_eq.Goals.{In_ok-both_exist}

-- both operations exist
both : (c : In_ok-both_exist) → (exists (store_in c.args.view.now.store.now) op c.args.lhs ≡ true) × (exists (store_in c.args.view.now.store.now) op c.args.rhs ≡ true)
both c = pair_exists _ _ _ _ (tests_passed (store_in c.args.view.now.store.now) op c.args.lhs c.args.rhs _ c.both_exist.ensures c.in_ok-both_exist.was)

pub returns-in_err-both_exist : goal.returns-in_err-both_exist
unfolding compared_of
returns-in_err-both_exist c =
    let a = c.args in
    let b = a.view.now.store.now in
    let failed : c.from_residual.result ≡ Err c.in_err-both_exist.field-0.0 = search rules in
    subst (λ q. ComparisonAnswers true b (list_in a.view.now.index.now) a.mapping.now a.mapping.now a.view.now.ignore op a.lhs a.rhs (compared_of q)) (sym failed)
    (refused_pair b (list_in a.view.now.index.now) a.mapping.now a.view.now.ignore op a.lhs a.rhs c.requires (index_holds _ c.args.view.now.readable.indexed) _
    (tests_failed (store_in b) op a.lhs a.rhs _ c.both_exist.ensures c.in_err-both_exist.was))

pub at-requires-clause-n_bound : goal.at-requires-clause-n_bound
at-requires-clause-n_bound c =
    let cols = columns c.args.view.now.store.now in
    let few = (laid_facts cols c.args.view.now.readable.sound.laid).counts.ops in
    omega (arith, few, there cols op c.args.lhs (both ((goal.at.at-requires-clause-n_bound c).In_ok-both_exist)).0)

pub at-requires-2-clause-n_bound : goal.at-requires-2-clause-n_bound
at-requires-2-clause-n_bound c =
    let cols = columns c.args.view.now.store.now in
    let few = (laid_facts cols c.args.view.now.readable.sound.laid).counts.ops in
    omega (arith, few, there cols op c.args.rhs (both ((goal.at.at-requires-2-clause-n_bound c).In_ok-both_exist)).1)

pub returns-then-at : goal.returns-then-at
unfolding head_of_op compared_of
returns-then-at c =
    let a = c.args in
    let b = a.view.now.store.now in
    let cols = columns b in
    let there_both = both ((goal.at.returns-then-at c).In_ok-both_exist) in
    let S = store_in b in
    let o = options_in a.view.now in
    let m = a.mapping.now in
    let st = state_of m 0 in
    let unlike =
    kinds_unlike cols o (head_whole b c.args.view.now.readable.sound a.lhs (there cols op a.lhs there_both.0)) (head_whole b c.args.view.now.readable.sound a.rhs (there cols op a.rhs there_both.1))
    (λ e. c.if-at.true (c.at.ensures ∙ e ∙ sym c.at-2.ensures)) in
    let told =
    told_ended (pair_ops (renamed_under o S) o.ignore a.lhs a.rhs st) (op_walk S o a.lhs a.rhs) (FirstNEQOps a.lhs a.rhs 0) m refl
    (ops_unlike S o a.lhs a.rhs m 0 unlike) in
    walked b (list_in a.view.now.index.now) m o.ignore op a.lhs a.rhs c.requires (index_holds _ c.args.view.now.readable.indexed)
    (Err (FirstNEQOps a.lhs a.rhs 0)) m
    (tests_passed S op a.lhs a.rhs _ c.both_exist.ensures c.in_ok-both_exist.was)
    (subst (λ (w : Walk). Compares w (Err (FirstNEQOps a.lhs a.rhs 0)) m) (sym (op_walk_lem S o a.lhs a.rhs st)) told)

pub ops_eq-requires-clause-lhs_bound : goal.ops_eq-requires-clause-lhs_bound
ops_eq-requires-clause-lhs_bound c = there (columns c.args.view.now.store.now) op c.args.lhs (both ((goal.at.ops_eq-requires-clause-lhs_bound c).In_ok-both_exist)).0

pub ops_eq-requires-clause-rhs_bound : goal.ops_eq-requires-clause-rhs_bound
ops_eq-requires-clause-rhs_bound c = there (columns c.args.view.now.store.now) op c.args.rhs (both ((goal.at.ops_eq-requires-clause-rhs_bound c).In_ok-both_exist)).1

pub ops_eq-requires-clause-paired_fits : goal.ops_eq-requires-clause-paired_fits
ops_eq-requires-clause-paired_fits c =
    few_walk (store_in c.args.view.now.store.now) c.args.view.now.readable.sound.ruled (options_in c.args.view.now) op c.args.lhs c.args.rhs
    (both ((goal.at.ops_eq-requires-clause-paired_fits c).In_ok-both_exist)).0 c.args.mapping.now

pub returns : goal.returns
unfolding compared_of
returns c =
    let a = c.args in
    let b = a.view.now.store.now in
    walked b (list_in a.view.now.index.now) a.mapping.now a.view.now.ignore op a.lhs a.rhs c.requires (index_holds _ c.args.view.now.readable.indexed)
    c.ops_eq.result c.ops_eq.new.mapping
    (tests_passed (store_in b) op a.lhs a.rhs _ c.both_exist.ensures c.in_ok-both_exist.was) c.ops_eq.ensures
