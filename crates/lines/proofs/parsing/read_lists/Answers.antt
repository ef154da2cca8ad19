-- `read_lists` meets its contract: it reads one list after the other, and nothing more is left. Assumes nothing.
use Rattle.std.proofs.Common.{arith}
use Rattle.rules.specs.Lines.{wholly}
use Rattle.lines.specs.Parsing.{operation_lists, lists_of, ListsFit}
use Rattle.lines.proofs.Ended.{ended, kept_if}
use Rattle.lines.proofs.Items.{items_left}
use Rattle.lines.proofs.parsing.read_lists.Goals as goal

pub items-requires-2 : goal.items-requires-2
items-requires-2 c =
    let l = items_left c.args.fields.now c.in_ok-types.ensures.same in
    omega (arith, c.requires.operands_fit)

pub items-requires-3 : goal.items-requires-3
items-requires-3 c =
    let l = items_left c.args.fields.now c.in_ok-types.ensures.same in
    let m = items_left c.items.new.self c.in_ok-operands.ensures.same in
    omega (arith, c.requires.successors_fit)

pub returns : goal.returns
unfolding operation_lists wholly
returns c =
    record {
      same =
          rw (c.in_ok-types.ensures.same, c.in_ok-operands.ensures.same, c.in_ok-successors.ensures.same)
          (ended (lists_of c.items.new.list c.items-2.new.list c.items-3.new.list) _ _ _ _ c.is_empty.ensures c.then_some.ensures);
      fit = kept_if (ListsFit c.items.new.list c.items-2.new.list c.items-3.new.list) tt _ (c.in_ok-types.ensures.fit, c.in_ok-operands.ensures.fit, c.in_ok-successors.ensures.fit) _ _ c.then_some.ensures;
    }
