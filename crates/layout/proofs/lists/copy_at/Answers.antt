-- `copy_at` meets its contract: after each turn one entry more is in its place. Assumes nothing.
use native.Mathlib.Omega.{arith}
use mathlib.Core.Path.{refl}
use lib.Seq.{paste-zero}
use Rattle.layout.proofs.Turns.{copy_turn, copy_length, copy_done}
use Rattle.layout.proofs.lists.copy_at.Goals as goal

pub loop-j-init : goal.loop-j-init
loop-j-init c = (paste-zero c.args.to.now c.args.from c.args.list.now, omega arith)

pub bounds-to-from : goal.bounds-to-from
bounds-to-from c =
    let a = c.args in
    let l = copy_length a.to.now a.list.now a.from c.requires c.loop-j.to c.loop-j.j c.loop-j.invariant.0 c.loop-j.invariant.1 in
    omega arith

pub loop-j-preserved : goal.loop-j-preserved
loop-j-preserved c =
    let a = c.args in
    (copy_turn a.to.now a.list.now a.from c.requires c.loop-j.to c.loop-j.j c.loop-j.invariant.0 (omega arith) _ refl, omega arith)

pub returns : goal.returns
returns c =
    let a = c.args in
    copy_done a.to.now a.list.now a.from c.requires c.loop-j.to c.loop-j.j c.loop-j.invariant.0 (omega arith)
