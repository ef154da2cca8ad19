-- `operation_room` meets its contract, test by test: each count is the store's. Assumes nothing.
use native.Mathlib.Omega.{arith}
use Rattle.std.proofs.lemmas.Bool.Decides.{nat_tests}
use Rattle.rules.specs.Lists.{every}
use Rattle.rules.specs.Building.{operation_room}
use Rattle.layout.specs.Columns.{columns}
use Rattle.layout.specs.Reading.{op_count, region_count, value_count, operand_count, successor_count}
use Rattle.layout.proofs.Tabulate.{ops_length, regions_length, values_length}
use Rattle.mutation.specs.Types.{operation_of}
use Rattle.mutation.proofs.Facts.{counts, operands_counted, successors_counted}
use Rattle.mutation.proofs.Operating.{fits_facts}
use Rattle.mutation.proofs.tests.operation_room.Goals as goal

pub overflow_add-number : goal.overflow_add-number
unfolding region_count
overflow_add-number c =
    let a = c.args in
    omega (arith, (counts a.store.now c.requires.sound).regions, fits_facts (operation_of a.fields a.types.now a.operands.now a.successors.now) c.requires.successors_value)

pub overflow_add-number-then-number-fields-le-MAX_REGIONS : goal.overflow_add-number-then-number-fields-le-MAX_REGIONS
unfolding value_count
overflow_add-number-then-number-fields-le-MAX_REGIONS c =
    let a = c.args in
    omega (arith, (counts a.store.now c.requires.sound).values, fits_facts (operation_of a.fields a.types.now a.operands.now a.successors.now) c.requires.successors_value)

pub overflow_add-number-then-number-types-le-MAX_VALUES : goal.overflow_add-number-then-number-types-le-MAX_VALUES
unfolding operand_count
overflow_add-number-then-number-types-le-MAX_VALUES c =
    let a = c.args in
    omega (arith, (counts a.store.now c.requires.sound).operands, fits_facts (operation_of a.fields a.types.now a.operands.now a.successors.now) c.requires.successors_value)

pub overflow_add-result : goal.overflow_add-result
unfolding successor_count
overflow_add-result c =
    let a = c.args in
    omega (arith, (counts a.store.now c.requires.sound).successors, fits_facts (operation_of a.fields a.types.now a.operands.now a.successors.now) c.requires.successors_value)

pub returns-then-number-operands-le-MAX_OPERANDS : goal.returns-then-number-operands-le-MAX_OPERANDS
unfolding operation_room every op_count region_count value_count operand_count successor_count
returns-then-number-operands-le-MAX_OPERANDS c =
    let a = c.args in
    let C = columns a.store.now in
    let e0 = ops_length C in
    let e1 = regions_length C in
    let e2 = values_length C in
    let e3 = operands_counted a.store.now c.requires.sound in
    let e4 = successors_counted a.store.now c.requires.sound in
    grind (arith, nat_tests, e0, e1, e2, e3, e4)

pub returns-else-number-operands-le-MAX_OPERANDS : goal.returns-else-number-operands-le-MAX_OPERANDS
unfolding operation_room every op_count region_count value_count operand_count successor_count
returns-else-number-operands-le-MAX_OPERANDS c =
    let a = c.args in
    let C = columns a.store.now in
    let e0 = ops_length C in
    let e1 = regions_length C in
    let e2 = values_length C in
    let e3 = operands_counted a.store.now c.requires.sound in
    let e4 = successors_counted a.store.now c.requires.sound in
    grind (arith, nat_tests, e0, e1, e2, e3, e4)
