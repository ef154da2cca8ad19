-- `lent_independent` meets its contract: cause 1 comes first. Assumes nothing.
use mathlib.Core.Path.{ap, ◌∙◌}
use Rattle.layout.specs.MarkedReading.{sound_lent}
use Rattle.undo_log.proofs.Lent.{lent_facts}
use Rattle.grouping.proofs.Answering.{unsound}
use Rattle.api.proofs.independence.lent_independent.Goals as goal

pub returns-in_default : goal.returns-in_default
returns-in_default c = unsound _ _ _ _ _ c.in_default.ensures

pub sound_independent-requires : goal.sound_independent-requires
sound_independent-requires c = let w = c.in-Some.ensures in (lent_facts _ (ap sound_lent w.0 ∙ w.1)).tables
