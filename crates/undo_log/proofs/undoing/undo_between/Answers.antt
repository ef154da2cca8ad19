-- `undo_between` meets its contract: each turn undoes the newest entry that is left, or stops. Assumes nothing.
use Prim.Native.Nat.{◌-◌}
use native.Mathlib.Omega.{arith}
use Rattle.undo_log.proofs.Newest.{none_undone, one_undone, one_left}
use Rattle.undo_log.proofs.undoing.undo_between.Goals as goal

pub loop-i-init : goal.loop-i-init
loop-i-init c = record { so_far = none_undone c.args.store.now c.args.end c.requires.sound; low = omega arith }

pub returns-then-not-undo_entry : goal.returns-then-not-undo_entry
returns-then-not-undo_entry c =
    let a = c.args in
    one_left a.store.now a.end c.loop-i.store c.undo_entry.new.store c.loop-i.i (c.loop-i.i - 1) (omega arith) (omega arith) c.loop-i.invariant.so_far
    a.place (omega arith) _ c.undo_entry.ensures c.if-not-undo_entry.true

pub loop-i-preserved : goal.loop-i-preserved
loop-i-preserved c =
    let a = c.args in
    record {
      so_far =
          one_undone a.store.now a.end c.loop-i.store c.undo_entry.new.store c.loop-i.i (c.loop-i.i - 1) (omega arith) (omega arith)
          c.loop-i.invariant.so_far _ c.undo_entry.ensures c.if-not-undo_entry.false;
      low = omega arith;
    }
