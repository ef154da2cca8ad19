-- The row lies in its columns; the rest is told by `block_spans`, which the function names. Assumes nothing.
use Rattle.copying.proofs.Spans.{block_spans}
use Rattle.copying.proofs.totals.with_block.Goals as goal

pub span-requires-clause-n_bound : goal.span-requires-clause-n_bound
span-requires-clause-n_bound c = (block_spans _ c.requires.sound _ c.requires.b_bound).low

pub span-requires-clause-end_bound : goal.span-requires-clause-end_bound
span-requires-clause-end_bound c = (block_spans _ c.requires.sound _ c.requires.b_bound).low
