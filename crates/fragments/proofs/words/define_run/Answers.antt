-- `define_run` meets its contract: the word at the place is set once, and the counter goes on by the count. Assumes nothing.
use Rattle.std.proofs.Common.{ℕ, ◌+◌, List, get_or, set, ap}
use Rattle.fragments.specs.Words.{with_run}
use Rattle.fragments.proofs.words.define_run.Goals as goal

pub returns : goal.returns
unfolding with_run
returns c = ap (λ (l : List ℕ). set l c.args.counter (get_or c.args.numbers.now c.args.counter 0 + c.args.count)) c.define.ensures
