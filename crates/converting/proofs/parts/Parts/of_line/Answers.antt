-- `of_line` meets its contract: a `b` line is cut behind its second field, and in the first edition behind its third too. Assumes nothing.
use Rattle.std.proofs.Common.{sym}
use Rattle.rules.specs.declared.types.Edition.TheVariants.{First, Second}
use Rattle.converting.proofs.FieldEnds.{first_end}
use Rattle.converting.proofs.Made.{copied, label_dropped, label_put, by_edition}
use Rattle.converting.proofs.parts.Parts.of_line.Goals as goal

pub returns-then-not-is_block_line : goal.returns-then-not-is_block_line
returns-then-not-is_block_line c = copied _ c.args.line.now (sym c.if-not-is_block_line.ensures)

pub returns-in-First : goal.returns-in-First
returns-in-First c =
    let line = c.args.line.now in
    let two = c.next_end-region_end.ensures in
    let three = c.next_end.ensures in
    let ends = two.fields 0 (first_end line _ c.piece_end-letter_end.ensures) in
    let parts = label_dropped line (sym c.if-not-is_block_line.ensures) _ ends _ (three.fields 1 ends) three.behind three.within in
    by_edition c.args.edition First line c.in-First.is parts

pub returns-in-Second : goal.returns-in-Second
returns-in-Second c =
    let line = c.args.line.now in
    let two = c.next_end-region_end.ensures in
    let ends = two.fields 0 (first_end line _ c.piece_end-letter_end.ensures) in
    by_edition c.args.edition Second line c.in-Second.is (label_put line (sym c.if-not-is_block_line.ensures) _ ends two.within)
