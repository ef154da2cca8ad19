-- `compare_keys` meets its contract: the library's order of lists is the rules'. Assumes nothing.
use mathlib.Core.Path.{ap, ◌∙◌}
use Rattle.keys.specs.Order.{number_of_ordering}
use Rattle.keys.proofs.Comparing.{compared_same}
use Rattle.keys.proofs.order.compare_keys.Goals as goal

pub returns : goal.returns
returns c = ap number_of_ordering c.cmp.ensures ∙ compared_same c.args.lhs.now c.args.rhs.now
