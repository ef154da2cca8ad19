-- `wz_known_operation_eq` meets its contract: the answer's numbers stand for it. Assumes nothing.
use native.Mathlib.Omega.{arith}
use mathlib.Core.Path.{sym}
use Rattle.warzhigo_c.specs.Codes.{ignoring}
use Rattle.layout.specs.Reading.{store_in}
use Rattle.equivalence.proofs.MappingEntries.{allowed_long}
use Rattle.warzhigo_c.proofs.known.wz_known_operation_eq.Goals as goal

pub array_mut-requires : goal.array_mut-requires
array_mut-requires c = (omega arith, allowed_long (store_in c.args.store.now) c.args.mapping.now c.requires.mapping_value)

pub returns : goal.returns
unfolding ignoring
returns c = rw (c.of_verdict.ensures, sym c.array.ensures, sym c.array_mut.ensures.value) c.operations_eq.ensures
