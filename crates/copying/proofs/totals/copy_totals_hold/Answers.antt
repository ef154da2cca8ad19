-- `copy_totals_hold` meets its contract: each of the store's counts with the operation's own is a total of the store with the copy, and is held to its
-- limit. Assumes nothing.
use Rattle.std.proofs.Common.{◌≡◌, ◌+◌, ◌∙◌, arith}
use Rattle.std.proofs.lemmas.Bool.Decides.{nat_tests}
use lib.Dec.{leb}
use Rattle.rules.specs.Lists.{every}
use Rattle.layout.specs.Columns.{Cols, columns}
use Rattle.layout.specs.Reading.{op_count, block_count, region_count, value_count, operand_count, successor_count, attribute_count}
use Rattle.copying.specs.declared.totals.Totals.{Totals}
use Rattle.copying.specs.Totals.{TotalsFit}
use Rattle.copying.proofs.Totalled.{holds, small, counted, totals_with}
use Rattle.copying.proofs.totals.copy_totals_hold.Goals as goal
use Rattle.copying.proofs.totals.copy_totals_hold.Goals.{After-totals_of-more}

-- what the operation has is little
little : (c : After-totals_of-more) → TotalsFit c.totals_of-more.result
little c = small c.args.original.now.store.now c.args.original.now.sound c.args.original.now.n c.args.original.now.exists c.totals_of-more.result c.totals_of-more.ensures

pub overflow_add-number : goal.overflow_add-number
unfolding op_count
overflow_add-number c =
    omega (arith, (little ((goal.at.overflow_add-number c).After-totals_of-more)).ops, (counted c.args.original.now.store.now c.args.original.now.sound).ops, c.number.ensures)

pub overflow_add-number-then-number-more-le-MAX_OPS : goal.overflow_add-number-then-number-more-le-MAX_OPS
unfolding block_count
overflow_add-number-then-number-more-le-MAX_OPS c =
    omega (arith, (little ((goal.at.overflow_add-number-then-number-more-le-MAX_OPS c).After-totals_of-more)).blocks, (counted c.args.original.now.store.now c.args.original.now.sound).blocks, c.number-then-number-more-le-MAX_OPS.ensures)

pub overflow_add-number-then-number-more-le-MAX_BLOCKS : goal.overflow_add-number-then-number-more-le-MAX_BLOCKS
unfolding region_count
overflow_add-number-then-number-more-le-MAX_BLOCKS c =
    omega (arith, (little ((goal.at.overflow_add-number-then-number-more-le-MAX_BLOCKS c).After-totals_of-more)).regions, (counted c.args.original.now.store.now c.args.original.now.sound).regions, c.number-then-number-more-le-MAX_BLOCKS.ensures)

pub overflow_add-number-then-number-more-le-MAX_REGIONS : goal.overflow_add-number-then-number-more-le-MAX_REGIONS
unfolding value_count
overflow_add-number-then-number-more-le-MAX_REGIONS c =
    omega (arith, (little ((goal.at.overflow_add-number-then-number-more-le-MAX_REGIONS c).After-totals_of-more)).values, (counted c.args.original.now.store.now c.args.original.now.sound).values, c.number-then-number-more-le-MAX_REGIONS.ensures)

pub overflow_add-number-then-number-more-le-MAX_VALUES : goal.overflow_add-number-then-number-more-le-MAX_VALUES
unfolding operand_count
overflow_add-number-then-number-more-le-MAX_VALUES c =
    omega (arith, (little ((goal.at.overflow_add-number-then-number-more-le-MAX_VALUES c).After-totals_of-more)).operands, (counted c.args.original.now.store.now c.args.original.now.sound).operands, c.number-then-number-more-le-MAX_VALUES.ensures)

pub overflow_add-number-then-number-more-le-MAX_OPERANDS : goal.overflow_add-number-then-number-more-le-MAX_OPERANDS
unfolding successor_count
overflow_add-number-then-number-more-le-MAX_OPERANDS c =
    omega (arith, (little ((goal.at.overflow_add-number-then-number-more-le-MAX_OPERANDS c).After-totals_of-more)).successors, (counted c.args.original.now.store.now c.args.original.now.sound).successors, c.number-then-number-more-le-MAX_OPERANDS.ensures)

pub overflow_add-result : goal.overflow_add-result
unfolding attribute_count
overflow_add-result c =
    omega (arith, (little ((goal.at.overflow_add-result c).After-totals_of-more)).attributes, (counted c.args.original.now.store.now c.args.original.now.sound).attributes, c.number-then-number-more-le-MAX_SUCCESSORS.ensures)

pub returns-then-number-more-le-MAX_SUCCESSORS : goal.returns-then-number-more-le-MAX_SUCCESSORS
unfolding holds every op_count block_count region_count value_count operand_count successor_count attribute_count
returns-then-number-more-le-MAX_SUCCESSORS c =
    let C : Cols = columns c.args.original.now.store.now in
    let t : Totals = c.totals_of-more.result in
    let told : leb (c.number-then-number-more-le-MAX_SUCCESSORS.result + t.attributes) 1024
    ≡ holds (op_count C + t.ops) (block_count C + t.blocks) (region_count C + t.regions) (value_count C + t.values) (operand_count C + t.operands) (successor_count C + t.successors) (attribute_count C + t.attributes) =
    grind (arith, nat_tests) in
    λ place. told ∙ totals_with c.args.original.now.store.now c.args.original.now.sound c.args.original.now.n c.args.original.now.exists place t c.totals_of-more.ensures

pub returns-else-number-more-le-MAX_SUCCESSORS : goal.returns-else-number-more-le-MAX_SUCCESSORS
unfolding holds every op_count block_count region_count value_count operand_count successor_count attribute_count
returns-else-number-more-le-MAX_SUCCESSORS c =
    let C : Cols = columns c.args.original.now.store.now in
    let t : Totals = c.totals_of-more.result in
    let told : c.if-number-more-le-MAX_OPERANDS.value
    ≡ holds (op_count C + t.ops) (block_count C + t.blocks) (region_count C + t.regions) (value_count C + t.values) (operand_count C + t.operands) (successor_count C + t.successors) (attribute_count C + t.attributes) =
    grind (arith, nat_tests) in
    λ place. told ∙ totals_with c.args.original.now.store.now c.args.original.now.sound c.args.original.now.n c.args.original.now.exists place t c.totals_of-more.ensures
