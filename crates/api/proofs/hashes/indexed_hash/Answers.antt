-- `indexed_hash` meets its contract: a list that does not hold is cause 14, and of any other the words in front are the index. Assumes nothing.
use Rattle.std.proofs.Common.{◌≡◌, true, sym, subst, rules}
use Rattle.std.specs.Prelude as std
use Rattle.rules.specs.declared.types.Cause.TheVariants as causes
use Rattle.fragments.specs.Index.{Indexes}
use Rattle.hashing.specs.Calls.{HashAnswers}
use Rattle.hashing.proofs.Answering.{untyped}
use Rattle.api.proofs.hashes.indexed_hash.Goals as goal

pub returns-in_err-words : goal.returns-in_err-words
returns-in_err-words c =
    let a = c.args in
    let none : c.index_types.result ≡ std.None = search rules in
    let told : c.from_residual.result ≡ std.Err causes.BadTypes = search rules in
    subst (HashAnswers true a.store.now a.types.now a.ignore a.sort a.n) (sym told)
    (untyped a.store.now a.types.now a.ignore a.sort a.n c.requires (subst (Indexes a.types.now c.index_types.new.index) none c.index_types.ensures))
