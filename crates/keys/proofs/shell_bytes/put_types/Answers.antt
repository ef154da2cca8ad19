-- `put_types` meets its contract: what is put behind the count are the present types up to the next one. Assumes nothing.
use native.Mathlib.Omega.{arith}
use Rattle.rules.specs.Hash.{leaf}
use Rattle.rules.specs.Types.{present}
use Rattle.fragments.specs.Index.{list_in}
use Rattle.keys.proofs.Putting.{puts_rest, put_as}
use Rattle.keys.proofs.Entries.{none_put, entries_next, counted_list, list_mapped}
use Rattle.keys.proofs.shell_bytes.put_types.Invariants.{renamed}
use Rattle.keys.proofs.shell_bytes.put_types.Goals as goal

pub loop-t-init : goal.loop-t-init
loop-t-init c = none_put (renamed c.args.index.now) _ _

pub loop-t-preserved : goal.loop-t-preserved
loop-t-preserved c =
    let a = c.args in
    let m = c.loop-t in
    entries_next (renamed a.index.now) a.types.now m.t-index c.loop-t-test.true m.invariant
    (puts_rest c.min-rest.ensures c.put_type.ensures c.saturating_add-at.ensures)

pub returns : goal.returns
returns c =
    let a = c.args in
    let m = c.loop-t in
    put_as (list_mapped leaf (present (list_in a.index.now)) a.types.now)
    (counted_list (renamed a.index.now) a.types.now m.t-index (omega arith) c.loop-t-test.false c.put_count-at.ensures m.invariant)
