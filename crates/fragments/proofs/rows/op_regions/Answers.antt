-- The operation lies in its columns. Assumes nothing.
use Rattle.fragments.proofs.Few.{op_low}
use Rattle.fragments.proofs.rows.op_regions.Goals as goal

pub span-requires-clause-n_bound : goal.span-requires-clause-n_bound
span-requires-clause-n_bound c = op_low _ c.requires.sound _ c.requires.n_bound

pub span-requires-clause-end_bound : goal.span-requires-clause-end_bound
span-requires-clause-end_bound c = op_low _ c.requires.sound _ c.requires.n_bound
