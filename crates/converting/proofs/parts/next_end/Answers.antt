-- `next_end` meets its contract: a field more ends at the comma that is found, or at the line's end. Assumes nothing.
use Rattle.std.proofs.Common.{arith}
use Rattle.converting.proofs.FieldEnds.{next_end_lem, no_more}
use Rattle.converting.proofs.parts.next_end.Goals as goal

pub returns-then-end-line-clause-fields : goal.returns-then-end-line-clause-fields
returns-then-end-line-clause-fields c = λ k h. no_more c.args.line.now k c.args.end h c.if-end-line.true

pub returns-clause-fields : goal.returns-clause-fields
returns-clause-fields c = λ k h. next_end_lem c.args.line.now k c.args.end h c.piece_end.result (omega arith) c.piece_end.ensures
