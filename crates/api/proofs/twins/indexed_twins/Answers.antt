-- `indexed_twins` meets its contract: a list that does not hold is cause 14, and of any other the words in front are the index. Assumes nothing.
use mathlib.Core.Bool.{true}
use mathlib.Core.Path.{◌≡◌, sym, subst}
use Rattle.std.proofs.Common.{rules}
use Rattle.std.specs.Prelude as std
use Rattle.rules.specs.declared.types.Cause.TheVariants as causes
use Rattle.fragments.specs.Index.{Indexes}
use Rattle.grouping.specs.Calls.{TwinsAnswers}
use Rattle.grouping.proofs.Answering.{untyped}
use Rattle.api.proofs.twins.indexed_twins.Goals as goal

pub returns-in_err-words : goal.returns-in_err-words
returns-in_err-words c =
    let a = c.args in
    let none : c.index_types.result ≡ std.None = search rules in
    let told : c.from_residual.result ≡ std.Err causes.BadTypes = search rules in
    subst (TwinsAnswers true a.store.now a.types.now a.ignore a.twins.now a.twins.now) (sym told)
    (untyped a.store.now a.types.now a.ignore a.twins.now (subst (Indexes a.types.now c.index_types.new.index) none c.index_types.ensures))
