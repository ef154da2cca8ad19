-- `operation_key` meets its contract: it is `lent_key` at its sort. Assumes nothing.
use Rattle.api.proofs.fragment_keys.operation_key.Goals as goal

pub returns : goal.returns
returns c = c.lent_key.ensures
