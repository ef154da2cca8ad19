-- `put_lines` meets its contract: the lines so far are written, one behind the other. Assumes nothing.
use Rattle.layout.specs.Reading.{slice}
use Rattle.converting.proofs.WrittenLines.{writing_starts, all_written, line_fits, written_on}
use Rattle.converting.proofs.writing.put_lines.Goals as goal

pub loop-start-init : goal.loop-start-init
loop-start-init c = writing_starts c.args.edition c.args.listing.now c.args.out.now c.requires.convertible

pub put_converted-requires : goal.put_converted-requires
unfolding slice
put_converted-requires c =
    let a = c.args in
    let fits = line_fits a.edition a.listing.now a.out.now c.requires.room c.loop-start.invariant in
    fits c.loop-start-test.true _ c.piece_end-end.ensures

pub loop-start-preserved : goal.loop-start-preserved
unfolding slice
loop-start-preserved c =
    let a = c.args in
    let turn = written_on a.edition a.listing.now a.out.now c.requires.room c.loop-start.invariant in
    turn c.loop-start-test.true _ c.piece_end-end.ensures _ c.put_converted.ensures

pub returns : goal.returns
returns c =
    let a = c.args in
    all_written a.edition a.listing.now a.out.now c.requires.room c.loop-start.invariant c.loop-start-test.false
