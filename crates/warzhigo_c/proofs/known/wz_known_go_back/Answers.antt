-- `wz_known_go_back` meets its contract: the answer's numbers stand for it. Assumes nothing.
use native.Mathlib.Omega.{arith}
use mathlib.Core.Path.{sym}
use Rattle.undo_log.proofs.Lent.{lent_facts}
use Rattle.warzhigo_c.proofs.known.wz_known_go_back.Goals as goal

pub array_mut-requires : goal.array_mut-requires
array_mut-requires c = (omega arith, (lent_facts c.args.store.now c.requires).tables.sized)

pub returns : goal.returns
returns c = rw (c.of_done.ensures, sym c.array_mut.ensures.value) c.go_back.ensures
