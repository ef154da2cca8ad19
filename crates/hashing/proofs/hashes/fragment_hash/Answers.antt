-- `fragment_hash` meets its contract: it answers the cause, or the hash of a fragment that exists. Assumes nothing.
use Rattle.std.proofs.Common.{◌≡◌, true, sym, subst, rules}
use Rattle.std.specs.Prelude as std
use Rattle.rules.specs.Fragments.{exists}
use Rattle.layout.specs.Reading.{store_in}
use Rattle.rules.specs.Causes.{cause_of}
use Rattle.fragments.specs.Index.{list_in}
use Rattle.fragments.proofs.Indexed.{index_holds}
use Rattle.hashing.specs.Calls.{HashAnswers}
use Rattle.hashing.proofs.Answering.{existing, refused, answered}
use Rattle.hashing.proofs.hashes.fragment_hash.Goals as goal
use Rattle.hashing.proofs.hashes.fragment_hash.Goals.{In_ok-hash_cause}

here : (c : In_ok-hash_cause) → exists (store_in c.args.view.now.store.now) c.args.sort c.args.n ≡ true
unfolding cause_of
here c = existing (store_in c.args.view.now.store.now) c.args.sort c.args.n (sym c.in_ok-hash_cause.ensures)

pub returns-in_err-hash_cause : goal.returns-in_err-hash_cause
unfolding cause_of
returns-in_err-hash_cause c =
    let a = c.args in
    let cause = c.in_err-hash_cause.field-0.0 in
    let told : c.from_residual.result ≡ std.Err cause = search rules in
    subst (HashAnswers true a.view.now.store.now (list_in a.view.now.index.now) a.view.now.ignore a.sort a.n) (sym told)
    (refused a.view.now.store.now (list_in a.view.now.index.now) a.view.now.ignore a.sort a.n c.args.view.now.readable.sound (index_holds a.view.now.index.now c.args.view.now.readable.indexed) cause (sym c.in_err-hash_cause.ensures))

pub existing_hash-requires : goal.existing_hash-requires
existing_hash-requires c = here ((goal.at.existing_hash-requires c).In_ok-hash_cause)

pub returns : goal.returns
unfolding cause_of
returns c =
    let a = c.args in
    answered a.view.now.store.now (list_in a.view.now.index.now) a.view.now.ignore a.sort a.n c.args.view.now.readable.sound (index_holds a.view.now.index.now c.args.view.now.readable.indexed) c.existing_hash.result (sym c.in_ok-hash_cause.ensures)
    c.existing_hash.ensures
