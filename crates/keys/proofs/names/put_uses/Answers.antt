-- `put_uses` meets its contract: what is put behind the count are the names up to the next one. Assumes nothing.
use native.Mathlib.Omega.{arith}
use Rattle.keys.proofs.Entries.{none_put, entries_next, counted_list}
use Rattle.keys.proofs.Putting.{puts_rest}
use Rattle.keys.proofs.Naming.{named_bytes, name_put}
use Rattle.keys.proofs.names.put_uses.Goals as goal

pub loop-n-init : goal.loop-n-init
loop-n-init g c = λ named h. none_put (named_bytes named) _ _

pub loop-n-preserved : goal.loop-n-preserved
loop-n-preserved g c =
    let m = c.loop-n in
    λ named h.
    let name = name_put c.name_of.result (h m.n-index c.name_of.result c.loop-n-test.true c.name_of.ensures) c.put_name.ensures in
    entries_next (named_bytes named) c.args.list.now m.n-index c.loop-n-test.true (m.invariant named h)
    (puts_rest c.min-rest.ensures name c.saturating_add-at.ensures)

pub returns : goal.returns
returns g c =
    let m = c.loop-n in
    λ named h. counted_list (named_bytes named) c.args.list.now m.n-index (omega arith) c.loop-n-test.false c.put_count-at.ensures (m.invariant named h)
