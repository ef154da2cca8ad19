-- `sound_independent` meets its contract: a fragment that does not exist is cause 2, and else the test is the rules'. Assumes nothing.
use Rattle.std.proofs.Common.{rules}
use Rattle.std.specs.Prelude as std
use mathlib.Core.Bool.{true}
use mathlib.Core.Path.{◌≡◌, sym, subst}
use Rattle.layout.specs.Reading.{store_in}
use Rattle.equivalence.proofs.Answering.{tests_passed, tests_failed, pair_exists}
use Rattle.grouping.specs.Calls.{IndependenceAnswers}
use Rattle.grouping.proofs.Answering.{refused, answered}
use Rattle.grouping.proofs.independence.sound_independent.Goals as goal

pub returns-in_err-both_exist : goal.returns-in_err-both_exist
returns-in_err-both_exist c =
    let a = c.args in
    let cause = c.in_err-both_exist.field-0.0 in
    let failed : c.from_residual.result ≡ std.Err cause = search rules in
    subst (IndependenceAnswers true a.store.now a.sort a.lhs a.rhs) (sym failed)
    (refused a.store.now a.sort a.lhs a.rhs cause (tests_failed (store_in a.store.now) a.sort a.lhs a.rhs _ c.both_exist.ensures c.in_err-both_exist.was))

pub are_independent-requires : goal.are_independent-requires
are_independent-requires c =
    let a = c.args in
    let there = pair_exists _ _ _ _ (tests_passed (store_in a.store.now) a.sort a.lhs a.rhs _ c.both_exist.ensures c.in_ok-both_exist.was) in
    record { sound = c.requires; a_value = there.0; b_value = there.1 }

pub returns : goal.returns
returns c =
    let a = c.args in
    answered a.store.now a.sort a.lhs a.rhs (tests_passed (store_in a.store.now) a.sort a.lhs a.rhs _ c.both_exist.ensures c.in_ok-both_exist.was)
    c.are_independent.result c.are_independent.ensures
