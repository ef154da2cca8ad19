-- `wz_compare_keys` meets its contract, answer by answer: each number is that of the case. Assumes nothing.
use mathlib.Core.Path.{sym, ap, ◌∙◌}
use Rattle.keys.specs.Order.{number_of_ordering}
use Rattle.warzhigo_c.proofs.offered.wz_compare_keys.Goals as goal

pub returns-in-Less : goal.returns-in-Less
unfolding number_of_ordering
returns-in-Less c = sym (ap number_of_ordering c.in-Less.is) ∙ c.compare_keys-order.ensures

pub returns-in-Equal : goal.returns-in-Equal
unfolding number_of_ordering
returns-in-Equal c = sym (ap number_of_ordering c.in-Equal.is) ∙ c.compare_keys-order.ensures

pub returns-in-Greater : goal.returns-in-Greater
unfolding number_of_ordering
returns-in-Greater c = sym (ap number_of_ordering c.in-Greater.is) ∙ c.compare_keys-order.ensures
