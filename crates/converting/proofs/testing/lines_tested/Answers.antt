-- `lines_tested` meets its contract: none of the lines so far is refused, and their sizes are known. Assumes nothing.
use Rattle.std.proofs.lemmas.Result.{err_from_is_err_and}
use Rattle.layout.specs.Reading.{slice}
use Rattle.converting.proofs.LineByLine.{testing_starts, all_tested, not_ended, stopped, tested_on}
use Rattle.converting.proofs.testing.lines_tested.Goals as goal

pub loop-start-init : goal.loop-start-init
loop-start-init c = testing_starts c.args.edition c.args.listing.now c.requires

pub returns-then-end-listing : goal.returns-then-end-listing
returns-then-end-listing c =
    let a = c.args in
    let w = c.loop-start in
    not_ended a.edition a.listing.now w.invariant c.loop-start-test.true _ c.piece_end-end.ensures c.if-end-listing.true

pub returns-in_err-sizes : goal.returns-in_err-sizes
unfolding slice
returns-in_err-sizes c =
    let a = c.args in
    let w = c.loop-start in
    let p = err_from_is_err_and c.from_residual.result c.from_residual.ensures.1 in
    let stop = stopped a.edition a.listing.now w.invariant c.loop-start-test.true _ c.piece_end-end.ensures c.if-end-listing.false in
    rw (p.1, p.2) (stop _ c.in_err-sizes.ensures)

pub loop-start-preserved : goal.loop-start-preserved
unfolding slice
loop-start-preserved c =
    let a = c.args in
    let w = c.loop-start in
    let turn = tested_on a.edition a.listing.now w.invariant c.loop-start-test.true _ c.piece_end-end.ensures c.if-end-listing.false in
    turn _ c.in_ok-sizes.ensures

pub returns : goal.returns
returns c = all_tested c.args.edition c.args.listing.now c.loop-start.invariant c.loop-start-test.false
