-- The row lies in its columns; the rest is told by `op_spans`, which the function names. Assumes nothing.
use Rattle.copying.proofs.Spans.{op_spans}
use Rattle.copying.proofs.totals.with_op.Goals as goal

pub span-requires-clause-n_bound : goal.span-requires-clause-n_bound
span-requires-clause-n_bound c = (op_spans _ c.requires.sound _ c.requires.m_bound).low

pub span-requires-clause-end_bound : goal.span-requires-clause-end_bound
span-requires-clause-end_bound c = (op_spans _ c.requires.sound _ c.requires.m_bound).low
