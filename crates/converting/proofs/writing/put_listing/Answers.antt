-- `put_listing` meets its contract: the other edition's header, and the converted lines behind it. Assumes nothing.
use Rattle.std.proofs.Common.{ap}
use Rattle.rules.specs.Converting.{header}
use Rattle.converting.proofs.WrittenLines.{lines_fit, listing_written}
use Rattle.converting.proofs.writing.put_listing.Goals as goal

pub put_lines-requires-clause-room : goal.put_lines-requires-clause-room
put_lines-requires-clause-room c =
    let a = c.args in
    let r = c.requires in
    lines_fit a.edition a.listing.now r.convertible r.room (ap header c.other.ensures) c.put_header.ensures

pub returns : goal.returns
returns c =
    let a = c.args in
    let r = c.requires in
    let other = ap header c.other.ensures in
    listing_written a.edition a.listing.now r.convertible r.room other c.put_header.ensures c.put_lines.ensures
