-- `wz_known_clone_operation` meets its contract: the answer's numbers stand for it, and the parent for the two that are given. Assumes nothing.
use native.Mathlib.Omega.{arith}
use mathlib.Core.Path.{sym}
use Rattle.layout.specs.Reading.{store_in}
use Rattle.undo_log.proofs.Lent.{lent_facts}
use Rattle.equivalence.proofs.MappingEntries.{allowed_long}
use Rattle.warzhigo_c.proofs.known.wz_known_clone_operation.Goals as goal

pub array_mut-requires : goal.array_mut-requires
array_mut-requires c = (omega arith, (lent_facts c.args.store.now c.requires.lent).tables.sized)

pub array_mut-requires-2 : goal.array_mut-requires-2
array_mut-requires-2 c = (omega arith, allowed_long (store_in c.args.store.now) c.args.mapping.now c.requires.mapping_value)

pub returns : goal.returns
returns c = rw (c.of_made.ensures, sym c.parent.ensures, sym c.array_mut.ensures.value, sym c.array_mut-2.ensures.value) c.clone_operation.ensures
