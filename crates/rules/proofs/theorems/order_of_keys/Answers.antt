-- The clause by the lemma that it is. Assumes nothing.
use Rattle.rules.proofs.Keys.Order.{key_order}
use Rattle.rules.proofs.theorems.order_of_keys.Goals as goal

pub returns : goal.returns
returns c = key_order
