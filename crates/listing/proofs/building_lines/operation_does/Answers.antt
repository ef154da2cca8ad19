-- `operation_does` meets its contract: a line that means nothing is a bad line, any other makes its call. Assumes nothing.
use Rattle.std.proofs.lemmas.Result.{err_from_is_err_and}
use Rattle.lines.specs.Parsing.{operation_line_of}
use Rattle.listing.proofs.Built.{unread, line_made, line_refused}
use Rattle.lines.proofs.Meant.{headless, listless, operation_meant}
use Rattle.listing.proofs.building_lines.operation_does.Goals as goal

pub returns-in_default : goal.returns-in_default
returns-in_default c = unread _ _ (headless c.args.line.now c.in_default.ensures.reads) c.requires.sound

pub returns-in_default-read_lists : goal.returns-in_default-read_lists
returns-in_default-read_lists c =
    unread _ _ (listless c.args.line.now c.in-Some.ensures.reads c.in_default-read_lists.ensures.same) c.requires.sound

pub returns-in_err-new_operation : goal.returns-in_err-new_operation
unfolding operation_line_of
returns-in_err-new_operation c =
    let p = err_from_is_err_and c.from_residual.result c.from_residual.ensures.1 in
    let meant = operation_meant c.args.line.now c.in-Some.ensures.reads _ c.in-Some-read_lists.ensures.same in
    rw (p.1, p.2) (line_refused meant _ c.in_err-new_operation.ensures)

pub returns : goal.returns
unfolding operation_line_of
returns c =
    line_made (operation_meant c.args.line.now c.in-Some.ensures.reads _ c.in-Some-read_lists.ensures.same) _ c.in_ok-new_operation.ensures
