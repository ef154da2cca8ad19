-- `put_converted` meets its contract: the parts, one behind the other, are the converted line. Assumes nothing.
use Rattle.converting.proofs.Made.{parts_written}
use Rattle.converting.proofs.parts.put_converted.Goals as goal

pub returns : goal.returns
returns c =
    let parts = c.of_line-parts in
    let made = parts_written c.args.edition c.args.line.now parts.result parts.ensures c.label.result.now c.label.ensures in
    made c.requires c.put_text.ensures c.put_text-2.ensures c.put_text-3.ensures c.put_byte.ensures
