-- `block_does` meets its contract: a line that means nothing is a bad line, any other makes its call. Assumes nothing.
use Rattle.std.proofs.lemmas.Result.{err_from_is_err_and}
use Rattle.listing.proofs.Built.{unread, line_made, line_refused}
use Rattle.listing.proofs.building_lines.block_does.Goals as goal

pub returns-in_default : goal.returns-in_default
returns-in_default c = unread _ _ c.in_default.ensures.same c.requires.sound

pub returns-in_err-new_block : goal.returns-in_err-new_block
returns-in_err-new_block c =
    let p = err_from_is_err_and c.from_residual.result c.from_residual.ensures.1 in
    rw (p.1, p.2) (line_refused c.in-Some.ensures.same _ c.in_err-new_block.ensures)

pub returns : goal.returns
returns c = line_made c.in-Some.ensures.same _ c.in_ok-new_block.ensures
