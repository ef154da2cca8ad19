-- `put_location` meets its contract, test by test. Assumes nothing.
use native.Mathlib.Omega.{arith}
use mathlib.Core.List.{[]}
use mathlib.Core.Path.{refl, sym}
use Rattle.keys.proofs.Putting.{put_whole, put_as}
use Rattle.keys.proofs.Shelling.{location_ignored, location_kept}
use Rattle.keys.proofs.shell_bytes.put_location.Goals as goal

pub returns-then-ignore : goal.returns-then-ignore
returns-then-ignore c =
    let a = c.args in
    put_as (sym (location_ignored a.ignore a.location c.if-ignore.true)) (put_whole [] (omega arith) refl (omega arith) refl)

pub returns : goal.returns
returns c =
    let a = c.args in
    put_as (sym (location_kept a.ignore a.location c.if-ignore.false)) c.put_leaf.ensures
