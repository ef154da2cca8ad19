-- `go_back` meets its contract: a mark that is not set is refused, and to any other it goes back. Assumes nothing.
use Rattle.rules.specs.declared.types.Cause.TheVariants.{NoMark}
use Prim.Native.Nat.{ℕ}
use native.Mathlib.Omega.{arith}
use mathlib.Core.Path.{refl, sym, subst}
use Rattle.rules.specs.Marks.{go_back}
use Rattle.mutation.specs.Types.{done_of}
use Rattle.layout.specs.Columns.{columns}
use Rattle.undo_log.proofs.Chosen.{row_there}
use Rattle.undo_log.proofs.Lent.{lent_facts}
use Rattle.undo_log.proofs.Doing.{marked_refuse}
use Rattle.undo_log.specs.Returning.{PutBack}
use Rattle.undo_log.proofs.Answer.{not_set, back_done}
use Rattle.undo_log.proofs.going_back.go_back.Goals as goal

pub returns-in_default : goal.returns-in_default
unfolding done_of
returns-in_default c =
    let b = c.args.store.now in
    marked_refuse b (go_back c.args.mark) _ c.requires NoMark (not_set b (lent_facts b c.requires) c.args.mark (sym c.in_default.ensures)) refl

pub returns : goal.returns
unfolding done_of
returns c =
    let b = c.args.store.now in
    let found = row_there (columns b) c.args.mark c.in-Some.row (sym c.in-Some.ensures) in
    back_done b (lent_facts b c.requires) c.args.mark (omega (arith, found.0, found.1)) c.put_back.new.store
    (subst (λ (x : ℕ). PutBack b c.put_back.new.store x) found.0 c.put_back.ensures)
