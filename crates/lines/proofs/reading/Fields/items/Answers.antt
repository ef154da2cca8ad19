-- `items` meets its contract: the items follow their count, and there are no more of them than fields. Assumes nothing.
use Rattle.std.proofs.Common.{length}
use Rattle.lines.proofs.Items.{uncounted, too_many, broken_off, all_items, all_fit}
use Rattle.lines.proofs.reading.Fields.items.Goals as goal

pub returns-in_err-count : goal.returns-in_err-count
returns-in_err-count c = rw c.from_residual.ensures (record { same = uncounted c.args.self.now c.in_err-count.ensures.reads; fit = tt })

pub returns-then-count-list : goal.returns-then-count-list
returns-then-count-list c =
    let counted = c.in_ok-count.ensures.reads in
    record {
      same = too_many c.args.self.now counted (length c.args.list.now) c.in_ok-count.ensures.passed c.requires c.if-count-list.true;
      fit = tt;
    }

pub returns-in_err-numbers : goal.returns-in_err-numbers
returns-in_err-numbers c =
    let counted = c.in_ok-count.ensures.reads in
    let broken = broken_off c.args.self.now counted c.args.list.now c.if-count-list.false c.in_err-numbers.ensures in
    rw c.from_residual-in_err-numbers.ensures (record { same = broken; fit = tt })

pub returns : goal.returns
returns c =
    let counted = c.in_ok-count.ensures.reads in
    let l = c.if-count-list.false in
    record {
      same = all_items c.args.self.now counted c.args.list.now l c.numbers.new.list _ c.numbers.auto.list _ c.in_ok-numbers.ensures;
      fit = all_fit c.args.self.now counted c.args.list.now l c.numbers.new.list _ c.numbers.auto.list;
    }
