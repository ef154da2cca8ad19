-- `hash_uses` meets its contract: what is left to feed into the word as it is, is the whole fed into the word as it was. Assumes nothing.
use Rattle.hashing.proofs.Naming.{uses_all, uses_next, uses_none}
use Rattle.hashing.proofs.names.hash_uses.Goals as goal

pub loop-n-init : goal.loop-n-init
loop-n-init g c = uses_all (goal.F-post g c.args.name) c.args.list.now c.args.state.now.word

pub loop-n-preserved : goal.loop-n-preserved
loop-n-preserved g c =
    let a = c.args in
    let m = c.loop-n in
    uses_next (goal.F-post g a.name) a.list.now a.state.now.word m.n-index m.state.word _ c.name.result c.loop-n-test.true m.invariant c.name.ensures c.hash_name.ensures

pub returns : goal.returns
returns g c =
    let a = c.args in
    let m = c.loop-n in
    uses_none (goal.F-post g a.name) a.list.now a.state.now.word m.n-index m.state.word c.loop-n-test.false m.invariant
