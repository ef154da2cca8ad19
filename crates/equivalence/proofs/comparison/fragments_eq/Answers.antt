-- `fragments_eq` meets its contract: what a test refuses is refused, and anything else is walked. Assumes nothing.
use mathlib.Core.Path.{◌≡◌, sym, subst}
use Rattle.std.specs.Prelude.{Err, true}
use Rattle.std.proofs.Common.{rules}
use Rattle.layout.specs.Reading.{store_in}
use Rattle.fragments.specs.Index.{list_in}
use Rattle.fragments.proofs.Indexed.{index_holds}
use Rattle.equivalence.specs.Compares.{compared_of}
use Rattle.equivalence.specs.Calls.{ComparisonAnswers}
use Rattle.equivalence.proofs.Answering.{tests_passed, tests_failed, pair_exists, refused_pair, walked}
use Rattle.equivalence.proofs.comparison.fragments_eq.Goals as goal

pub returns-in_err-both_exist : goal.returns-in_err-both_exist
unfolding compared_of
returns-in_err-both_exist c =
    let a = c.args in
    let b = a.view.now.store.now in
    let f = a.of.sort in
    let failed : c.from_residual.result ≡ Err c.in_err-both_exist.field-0.0 = search rules in
    subst (λ q. ComparisonAnswers true b (list_in a.view.now.index.now) a.mapping.now a.mapping.now a.view.now.ignore f a.of.lhs a.of.rhs (compared_of q)) (sym failed)
    (refused_pair b (list_in a.view.now.index.now) a.mapping.now a.view.now.ignore f a.of.lhs a.of.rhs c.requires (index_holds _ c.args.view.now.readable.indexed) _
    (tests_failed (store_in b) f a.of.lhs a.of.rhs _ c.both_exist.ensures c.in_err-both_exist.was))

pub walk_eq-requires-clause-lhs_value : goal.walk_eq-requires-clause-lhs_value
walk_eq-requires-clause-lhs_value c =
    let a = c.args in
    (pair_exists _ _ _ _ (tests_passed (store_in a.view.now.store.now) a.of.sort a.of.lhs a.of.rhs _ c.both_exist.ensures c.in_ok-both_exist.was)).0

pub walk_eq-requires-clause-rhs_value : goal.walk_eq-requires-clause-rhs_value
walk_eq-requires-clause-rhs_value c =
    let a = c.args in
    (pair_exists _ _ _ _ (tests_passed (store_in a.view.now.store.now) a.of.sort a.of.lhs a.of.rhs _ c.both_exist.ensures c.in_ok-both_exist.was)).1

pub returns : goal.returns
unfolding compared_of
returns c =
    let a = c.args in
    let b = a.view.now.store.now in
    let f = a.of.sort in
    walked b (list_in a.view.now.index.now) a.mapping.now a.view.now.ignore f a.of.lhs a.of.rhs c.requires (index_holds _ c.args.view.now.readable.indexed)
    c.walk_eq.result c.walk_eq.new.mapping
    (tests_passed (store_in b) f a.of.lhs a.of.rhs _ c.both_exist.ensures c.in_ok-both_exist.was) c.walk_eq.ensures
