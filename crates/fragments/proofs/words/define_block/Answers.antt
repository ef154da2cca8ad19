-- `define_block` meets its contract: the block gets a number of its own, and its arguments are a run of numbers of the store. Assumes nothing.
use Rattle.std.proofs.Common.{◌<◌, arith}
use Rattle.layout.specs.Columns.{columns}
use Rattle.layout.specs.Reading.{store_of}
use Rattle.fragments.proofs.Few.{block_low}
use Rattle.fragments.proofs.Defining.{count_kept, block_numbered}
use Rattle.fragments.proofs.Reading.{row_room, block_room_lem, block_there}
use Rattle.fragments.proofs.words.define_block.Goals as goal
use Rattle.fragments.proofs.words.define_block.Goals.{Start}

here : (c : Start) → c.args.b < 256
here c = block_low _ c.requires.sound _ c.requires.b_bound

pub overflow_mul-b : goal.overflow_mul-b
overflow_mul-b c = omega (arith, here ((goal.at.overflow_mul-b c).Start))

pub overflow_add-b : goal.overflow_add-b
overflow_add-b c = omega (arith, here ((goal.at.overflow_add-b c).Start))

pub define_run-requires : goal.define_run-requires
define_run-requires c =
    let low = here ((goal.at.define_run-requires c).Start) in
    record {
      place_lt_numbers_length = omega (arith, low);
      counter_lt_numbers_length = omega arith;
      first_bound = omega (arith, low);
      count_bound = omega (arith, block_room_lem c.requires.definitions_fit);
    }

pub overflow_mul-b-2 : goal.overflow_mul-b-2
overflow_mul-b-2 c = omega (arith, here ((goal.at.overflow_mul-b-2 c).Start))

pub overflow_add-b-2 : goal.overflow_add-b-2
overflow_add-b-2 c = omega (arith, here ((goal.at.overflow_add-b-2 c).Start))

pub define_run-requires-2 : goal.define_run-requires-2
define_run-requires-2 c =
    let low = here ((goal.at.define_run-requires-2 c).Start) in
    let h = c.block_row-row.ensures in
    let kept = count_kept c.args.numbers.now c.args.b low c.define_run.ensures in
    record {
      place_lt_numbers_length = omega (arith, low);
      counter_lt_numbers_length = omega arith;
      first_bound = omega (arith, h.fits.values);
      count_bound = omega (arith, row_room h c.requires.definitions_fit, kept);
    }

pub returns : goal.returns
returns c =
    let C = columns c.args.store.now in
    let row = c.block_row-row in
    block_numbered (store_of C) c.requires.sound.ruled c.args.b row.result.value row.result.values row.ensures.fits.values c.args.numbers.now
    c.requires.definitions_fit.long (block_there C c.args.b c.requires.b_bound) row.ensures.values c.define_run.ensures c.define_run-2.ensures
