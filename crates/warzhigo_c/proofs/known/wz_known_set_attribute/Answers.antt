-- `wz_known_set_attribute` meets its contract: the answer's numbers stand for it, and the owner for the two that are given. Assumes nothing.
use native.Mathlib.Omega.{arith}
use mathlib.Core.Path.{sym}
use Rattle.warzhigo_c.specs.Codes.{attribute_from}
use Rattle.undo_log.proofs.Lent.{lent_facts}
use Rattle.warzhigo_c.proofs.known.wz_known_set_attribute.Goals as goal

pub array_mut-requires : goal.array_mut-requires
array_mut-requires c = (omega arith, (lent_facts c.args.store.now c.requires).tables.sized)

pub returns : goal.returns
unfolding attribute_from
returns c = rw (c.of_done.ensures, sym c.owner.ensures, sym c.array_mut.ensures.value) c.set_attribute.ensures
