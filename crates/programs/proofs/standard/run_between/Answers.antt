-- `run_between` meets its contract: what it reads is all that the reader has, or too much for a listing. Assumes nothing.
use Rattle.std.proofs.Common.{rules}
use Rattle.programs.proofs.Passing.{all_read_lem}
use Rattle.programs.proofs.Sent.{sent}
use Rattle.programs.proofs.standard.run_between.Goals as goal

pub returns-in-Ok-clause-printed : goal.returns-in-Ok-clause-printed
returns-in-Ok-clause-printed g c =
    let read = c.in-Ok.ensures in
    sent c.answer.result _ _ c.map_err.ensures.cases c.answer.ensures
    (all_read_lem _ c.read_to_end.new.to c.in-Ok.n (search rules) read.fits _ _ _ _ read.taken read.whole)
