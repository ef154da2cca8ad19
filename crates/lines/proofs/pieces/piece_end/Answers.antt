-- `piece_end` meets its contract: the bytes that were passed are not the one at which a piece ends, and so belong to one. Assumes nothing.
use Rattle.lines.proofs.Cutting.{passing_starts, passing_turn, ends_here, ends_with_all}
use Rattle.lines.proofs.pieces.piece_end.Goals as goal

pub loop-e-init : goal.loop-e-init
loop-e-init c = passing_starts c.args.bytes.now c.args.from c.args.byte

pub returns-then-bytes-e : goal.returns-then-bytes-e
returns-then-bytes-e c =
    let w = c.loop-e in
    ends_here c.args.bytes.now c.args.from c.args.byte w.e w.auto.e w.invariant c.loop-e-test.true c.if-bytes-e.true

pub loop-e-preserved : goal.loop-e-preserved
loop-e-preserved c =
    let w = c.loop-e in
    passing_turn c.args.bytes.now c.args.from c.args.byte w.e w.auto.e w.invariant c.loop-e-test.true c.if-bytes-e.false

pub returns : goal.returns
returns c =
    let w = c.loop-e in
    ends_with_all c.args.bytes.now c.args.from c.args.byte w.e w.auto.e w.invariant c.loop-e-test.false c.requires
