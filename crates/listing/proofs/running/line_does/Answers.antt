-- `line_does` meets its contract: it tests the length, then the letter, and then does what the letter says. Assumes nothing.
use Rattle.std.proofs.Common.{◌∙◌}
use Rattle.rules.specs.declared.types.Cause.TheVariants.{BadLine, BadLength}
use Rattle.lines.specs.declared.letters.Letter.TheVariants.{Operation, Block, Attribute, Inherent, Operand, Query}
use Rattle.lines.proofs.Meant.{lettered}
use Rattle.listing.specs.Progress.{program_of, progress_of}
use Rattle.listing.proofs.Steps.{too_long_lem, unlettered_lem, line_stopped, line_asked, line_built}
use Rattle.listing.proofs.running.line_does.Goals as goal

pub returns-then-line-gt-MAX_LINE : goal.returns-then-line-gt-MAX_LINE
returns-then-line-gt-MAX_LINE c =
    let a = c.args in
    let r = c.requires in
    let now = progress_of a.store.now a.tally.now in
    let cause = too_long_lem (program_of a.reading.program) a.reading.edition now a.line.now c.if-line-gt-MAX_LINE.true in
    record {
      line_does = line_stopped a.reading a.line.now a.store.now a.tally.now a.out.now r.sound BadLength cause;
      mapping_after = r.mapping_value;
    }

pub returns-in_default : goal.returns-in_default
returns-in_default c =
    let a = c.args in
    let r = c.requires in
    let now = progress_of a.store.now a.tally.now in
    let unread = unlettered_lem (program_of a.reading.program) a.reading.edition now a.line.now c.if-line-gt-MAX_LINE.false in
    record {
      line_does = line_stopped a.reading a.line.now a.store.now a.tally.now a.out.now r.sound BadLine (unread c.new-fields.ensures.fields c.in_default.ensures.reads);
      mapping_after = r.mapping_value;
    }

pub returns-in-Operation : goal.returns-in-Operation
returns-in-Operation c =
    let a = c.args in
    let meant = lettered a.reading.edition a.line.now c.new-fields.ensures.fields c.in-Some.letter c.in-Some.ensures.reads Operation c.in-Operation.is in
    let built = line_built a.reading a.line.now a.store.now a.tally.now a.out.now c.requires.sound c.if-line-gt-MAX_LINE.false _ meant in
    record { line_does = built _ _ c.operation_does.ensures; mapping_after = c.requires.mapping_value }

pub returns-in-Block : goal.returns-in-Block
returns-in-Block c =
    let a = c.args in
    let meant = lettered a.reading.edition a.line.now c.new-fields.ensures.fields c.in-Some.letter c.in-Some.ensures.reads Block c.in-Block.is in
    let built = line_built a.reading a.line.now a.store.now a.tally.now a.out.now c.requires.sound c.if-line-gt-MAX_LINE.false _ meant in
    record { line_does = built _ _ c.block_does.ensures; mapping_after = c.requires.mapping_value }

pub returns-in-Attribute : goal.returns-in-Attribute
returns-in-Attribute c =
    let a = c.args in
    let meant = lettered a.reading.edition a.line.now c.new-fields.ensures.fields c.in-Some.letter c.in-Some.ensures.reads Attribute c.in-Attribute.is in
    let built = line_built a.reading a.line.now a.store.now a.tally.now a.out.now c.requires.sound c.if-line-gt-MAX_LINE.false _ meant in
    record { line_does = built _ _ c.attribute_does.ensures; mapping_after = c.requires.mapping_value }

pub returns-in-Inherent : goal.returns-in-Inherent
returns-in-Inherent c =
    let a = c.args in
    let meant = lettered a.reading.edition a.line.now c.new-fields.ensures.fields c.in-Some.letter c.in-Some.ensures.reads Inherent c.in-Inherent.is in
    let built = line_built a.reading a.line.now a.store.now a.tally.now a.out.now c.requires.sound c.if-line-gt-MAX_LINE.false _ meant in
    record { line_does = built _ _ c.attribute_does-in-Inherent.ensures; mapping_after = c.requires.mapping_value }

pub returns-in-Operand : goal.returns-in-Operand
returns-in-Operand c =
    let a = c.args in
    let meant = lettered a.reading.edition a.line.now c.new-fields.ensures.fields c.in-Some.letter c.in-Some.ensures.reads Operand c.in-Operand.is in
    let built = line_built a.reading a.line.now a.store.now a.tally.now a.out.now c.requires.sound c.if-line-gt-MAX_LINE.false _ meant in
    record { line_does = built _ _ c.operand_does.ensures; mapping_after = c.requires.mapping_value }

pub returns-in-Query : goal.returns-in-Query
returns-in-Query c =
    let a = c.args in
    let meant = lettered a.reading.edition a.line.now c.new-fields.ensures.fields c.in-Some.letter c.in-Some.ensures.reads Query c.in-Query.is in
    let asked =
    line_asked a.reading a.line.now a.store.now a.tally.now a.out.now c.requires.sound c.if-line-gt-MAX_LINE.false _ (meant ∙ c.query_line-query.ensures) in
    record { line_does = asked _ _ _ c.query_does.ensures.stepped; mapping_after = c.query_does.ensures.mapping_after }
