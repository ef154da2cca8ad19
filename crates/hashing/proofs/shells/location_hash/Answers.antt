-- `location_hash` meets its contract, test by test. Assumes nothing.
use Rattle.hashing.proofs.Bytes.{location_ignored, location_fed}
use Rattle.hashing.proofs.shells.location_hash.Goals as goal

pub returns-then-not-ignore : goal.returns-then-not-ignore
returns-then-not-ignore c =
    let a = c.args in
    location_fed a.ignore a.location a.state.now.word c.if-not-ignore.true c.hash_leaf.ensures

pub returns-else-not-ignore : goal.returns-else-not-ignore
returns-else-not-ignore c =
    let a = c.args in
    location_ignored a.ignore a.location a.state.now.word c.if-not-ignore.false
