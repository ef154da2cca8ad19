-- `is_operation` meets its contract: what stands before the lists is read, and then the lists. Assumes nothing.
use Rattle.lines.specs.Parsing.{operation_lists}
use Rattle.lines.proofs.Meant.{headless_if, operation_if, is_passed}
use Rattle.lines.proofs.meaning.is_operation.Goals as goal

pub returns-then-is_none : goal.returns-then-is_none
returns-then-is_none c =
    headless_if c.args.fields.now c.read_op_fields.new.fields c.read_op_fields.result c.read_op_fields.ensures.reads c.if-is_none.ensures

pub returns : goal.returns
returns c =
    operation_if c.args.fields.now c.read_op_fields.new.fields c.read_op_fields.result c.read_op_fields.ensures.reads c.if-is_none.ensures
    (is_passed (operation_lists c.read_op_fields.new.fields) c.pass_lists.result c.pass_lists.ensures c.is_some.ensures)
