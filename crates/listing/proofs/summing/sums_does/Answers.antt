-- `sums_does` meets its contract: a refused hash stops the program, and else both are printed. Assumes nothing.
use Rattle.std.proofs.Common.{ℕ, true, List, [], Result, subst}
use Rattle.std.proofs.lemmas.Result.{err_from_is_err_and}
use Rattle.rules.specs.declared.types.Sort.{Sort}
use Rattle.rules.specs.declared.types.Ignore.{Ignore}
use Rattle.rules.specs.declared.types.Cause.{Cause}
use Rattle.fragments.specs.Index.{list_in}
use Rattle.fragments.proofs.Indexed.{no_words_lem, no_list}
use Rattle.hashing.specs.Calls.{HashAnswers}
use Rattle.listing.proofs.Hashes.{left_stops, right_stops, sums_goes}
use Rattle.listing.proofs.summing.sums_does.Goals as goal

-- as a list that is empty
unlisted : {b : List ℕ} {ig : Ignore} {f : Sort} {n : ℕ} {h : Result ℕ Cause} → HashAnswers true b (list_in []) ig f n h → HashAnswers true b [] ig f n h
unlisted {b} {ig} {f} {n} {h} a = subst (λ (ts : List ℕ). HashAnswers true b ts ig f n h) no_list a

pub invariant_of-view : goal.invariant_of-view
invariant_of-view c = record { readable = record { sound = c.requires.sound; indexed = no_words_lem } }

pub returns-in_err-left : goal.returns-in_err-left
returns-in_err-left c =
    let a = c.args in
    let p = err_from_is_err_and c.from_residual.result c.from_residual.ensures.1 in
    rw (p.1, p.2) (λ tally. left_stops a.store.now tally a.query a.out.now (unlisted c.in_err-left.ensures))

pub returns-in_err-right : goal.returns-in_err-right
returns-in_err-right c =
    let a = c.args in
    let p = err_from_is_err_and c.from_residual-in_err-right.result c.from_residual-in_err-right.ensures.1 in
    rw (p.1, p.2) (λ tally. right_stops a.store.now tally a.query (unlisted c.in_ok-left.ensures) a.out.now (unlisted c.in_err-right.ensures))

pub returns : goal.returns
returns c =
    let a = c.args in
    λ tally.
    sums_goes a.store.now tally a.query (unlisted c.in_ok-left.ensures) (unlisted c.in_ok-right.ensures) c.put_hashes.ensures
