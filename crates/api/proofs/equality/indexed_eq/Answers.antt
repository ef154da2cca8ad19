-- `indexed_eq` meets its contract: cause 14 is a list that does not hold, and any other list is the one of its index. Assumes nothing.
use Rattle.std.proofs.Common.{◌≡◌, true, sym, subst, rules}
use Rattle.std.specs.Prelude as std
use Rattle.rules.specs.declared.types.Cause.TheVariants as causes
use Rattle.fragments.specs.Index.{Indexes}
use Rattle.equivalence.specs.Compares.{compared_of}
use Rattle.equivalence.specs.Calls.{ComparisonAnswers}
use Rattle.equivalence.proofs.Answering.{untyped}
use Rattle.api.proofs.equality.indexed_eq.Goals as goal

pub returns-in_err-words : goal.returns-in_err-words
unfolding compared_of
returns-in_err-words c =
    let a = c.args in
    let none : c.index_types.result ≡ std.None = search rules in
    let failed : c.from_residual.result ≡ std.Err causes.BadTypes = search rules in
    subst (λ q. ComparisonAnswers true a.store.now a.types.now a.mapping.now a.mapping.now a.ignore a.of.sort a.of.lhs a.of.rhs (compared_of q)) (sym failed)
    (untyped a.store.now a.types.now a.mapping.now a.ignore a.of.sort a.of.lhs a.of.rhs c.requires.mapping_value
    (subst (Indexes a.types.now c.index_types.new.index) none c.index_types.ensures))
