-- `is_meant` meets its contract, letter by letter. Assumes nothing.
use Rattle.std.proofs.Common.{sym, ap}
use Rattle.std.specs.Prelude.{is_some}
use Rattle.rules.specs.Lines.{block_line}
use Rattle.lines.specs.Parsing.{attribute_line_of, operand_line_of, query_of}
use Rattle.lines.specs.declared.letters.Letter.TheVariants.{Operation, Block, Attribute, Inherent, Operand, Query}
use Rattle.lines.proofs.Meant.{unlettered, meant_if, is_read, is_passed}
use Rattle.lines.proofs.meaning.is_meant.Goals as goal

pub returns-in_default : goal.returns-in_default
returns-in_default c =
    let unmeant = unlettered c.args.edition c.args.line.now c.new-fields.ensures.fields c.in_default.ensures.reads in
    sym (ap is_some unmeant)

pub returns-in-Operation : goal.returns-in-Operation
returns-in-Operation c =
    let meant = meant_if c.args.edition c.args.line.now c.new-fields.ensures.fields c.in-Some.letter c.in-Some.ensures.reads in
    meant Operation c.in-Operation.is _ c.is_operation.ensures

pub returns-in-Block : goal.returns-in-Block
returns-in-Block c =
    let meant = meant_if c.args.edition c.args.line.now c.new-fields.ensures.fields c.in-Some.letter c.in-Some.ensures.reads in
    meant Block c.in-Block.is _ (is_passed (block_line c.args.edition c.read_letter.new.fields) c.pass_block.result c.pass_block.ensures c.is_some.ensures)

pub returns-in-Attribute : goal.returns-in-Attribute
returns-in-Attribute c =
    let meant = meant_if c.args.edition c.args.line.now c.new-fields.ensures.fields c.in-Some.letter c.in-Some.ensures.reads in
    meant Attribute c.in-Attribute.is _ (is_read attribute_line_of c.attribute_line.result c.attribute_line.ensures c.is_some-in-Attribute.ensures)

pub returns-in-Inherent : goal.returns-in-Inherent
returns-in-Inherent c =
    let meant = meant_if c.args.edition c.args.line.now c.new-fields.ensures.fields c.in-Some.letter c.in-Some.ensures.reads in
    meant Inherent c.in-Inherent.is _ (is_read attribute_line_of c.attribute_line-in-Inherent.result c.attribute_line-in-Inherent.ensures c.is_some-in-Inherent.ensures)

pub returns-in-Operand : goal.returns-in-Operand
returns-in-Operand c =
    let meant = meant_if c.args.edition c.args.line.now c.new-fields.ensures.fields c.in-Some.letter c.in-Some.ensures.reads in
    meant Operand c.in-Operand.is _ (is_read operand_line_of c.operand_line.result c.operand_line.ensures c.is_some-in-Operand.ensures)

pub returns-in-Query : goal.returns-in-Query
returns-in-Query c =
    let meant = meant_if c.args.edition c.args.line.now c.new-fields.ensures.fields c.in-Some.letter c.in-Some.ensures.reads in
    meant Query c.in-Query.is _ (is_read query_of c.query_line.result c.query_line.ensures c.is_some-in-Query.ensures)
