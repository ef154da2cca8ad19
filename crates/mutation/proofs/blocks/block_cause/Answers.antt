-- `block_cause` meets its contract: it makes the tests in their order. Assumes nothing.
use Prim.Native.Nat.{◌≤◌}
use native.Mathlib.Omega.{arith}
use Rattle.std.proofs.lemmas.Bool.Decides.{nat_tests}
use Rattle.rules.specs.Lists.{every}
use Rattle.rules.specs.Store.{max_blocks}
use Rattle.rules.specs.Building.{tests, first_failed, block_room}
use Rattle.layout.specs.Columns.{columns}
use Rattle.layout.specs.Reading.{block_count, value_count}
use Rattle.rules.specs.Causes.{cause_of}
use Rattle.layout.proofs.Tabulate.{blocks_length, values_length}
use Rattle.mutation.proofs.Facts.{laid}
use Rattle.mutation.proofs.blocks.block_cause.Goals as goal
use Rattle.mutation.proofs.blocks.block_cause.Goals.{then-number-ge-MAX_BLOCKS-via-then-number-ge-MAX_BLOCKS, then-number-ge-MAX_BLOCKS-via-else-number-ge-MAX_BLOCKS+then-number-types-gt-MAX_VALUES}

pub returns-then-not-region_exists : goal.returns-then-not-region_exists
unfolding cause_of tests first_failed
returns-then-not-region_exists c = λ location. grind (arith, nat_tests)

pub returns-then-types-gt-MAX_OWN_VALUES : goal.returns-then-types-gt-MAX_OWN_VALUES
unfolding cause_of tests first_failed
returns-then-types-gt-MAX_OWN_VALUES c = λ location. grind (arith, nat_tests)

pub returns-then-number-ge-MAX_BLOCKS : goal.returns-then-number-ge-MAX_BLOCKS
unfolding cause_of tests first_failed block_room every block_count value_count
returns-then-number-ge-MAX_BLOCKS c =
    λ location.
    let C = columns c.args.store.now in
    let blocks = blocks_length C in
    let values = values_length C in
    elim c.then-number-ge-MAX_BLOCKS.branch [
      | then-number-ge-MAX_BLOCKS-via-then-number-ge-MAX_BLOCKS w ↦ let full : max_blocks ≤ block_count C = omega arith in grind (arith, nat_tests, blocks)
      | then-number-ge-MAX_BLOCKS-via-else-number-ge-MAX_BLOCKS+then-number-types-gt-MAX_VALUES w ↦ grind (arith, nat_tests, blocks, values)
    ]

pub returns : goal.returns
unfolding cause_of tests first_failed block_room every block_count value_count
returns c =
    λ location.
    let blocks = blocks_length (columns c.args.store.now) in
    let values = values_length (columns c.args.store.now) in
    grind (arith, nat_tests, blocks, values)

pub overflow_add-number : goal.overflow_add-number
unfolding value_count
overflow_add-number c = omega (arith, (laid c.args.store.now c.requires).counts.values)
