-- `set_mark` meets its contract: a mark outside 1 to 8 is refused, and any other is put. Assumes nothing.
use Rattle.rules.specs.declared.types.Cause.TheVariants.{NoMark}
use native.Mathlib.Omega.{arith}
use mathlib.Core.Path.{refl}
use Rattle.rules.specs.Marks.{set_mark}
use Rattle.mutation.specs.Types.{done_of}
use Rattle.undo_log.proofs.Lent.{lent_facts}
use Rattle.undo_log.proofs.Doing.{marked_refuse}
use Rattle.undo_log.proofs.SetMark.{is_mark_lem, no_mark_low, no_mark_high, mark_done}
use Rattle.undo_log.proofs.marking.set_mark.Goals as goal
use Rattle.undo_log.proofs.marking.set_mark.Goals.{then-mark-lt1-via-then-mark-lt1, then-mark-lt1-via-else-mark-lt1+then-mark-gt-MAX_MARKS}

pub returns-then-mark-lt1 : goal.returns-then-mark-lt1
unfolding done_of
returns-then-mark-lt1 c =
    let a = c.args in
    elim c.then-mark-lt1.branch [
      | then-mark-lt1-via-then-mark-lt1 w ↦
          marked_refuse a.store.now (set_mark a.mark) _ c.requires NoMark (no_mark_low a.store.now a.mark (omega arith)) refl
      | then-mark-lt1-via-else-mark-lt1+then-mark-gt-MAX_MARKS w ↦
          marked_refuse a.store.now (set_mark a.mark) _ c.requires NoMark (no_mark_high a.store.now a.mark (omega arith)) refl
    ]

pub returns : goal.returns
unfolding done_of
returns c =
    let a = c.args in
    mark_done a.store.now (lent_facts a.store.now c.requires) a.mark (is_mark_lem a.mark (omega arith) (omega arith)) c.put_mark.new.store
    omega arith c.put_mark.ensures
