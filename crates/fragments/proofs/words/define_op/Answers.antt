-- `define_op` meets its contract: the results are a run of numbers of the store, as the operation's row has it. Assumes nothing.
use Rattle.std.proofs.Common.{arith}
use Rattle.layout.specs.Columns.{columns}
use Rattle.layout.specs.Reading.{store_of}
use Rattle.fragments.proofs.Few.{op_low}
use Rattle.fragments.proofs.Defining.{op_numbered}
use Rattle.fragments.proofs.Reading.{row_room, op_there}
use Rattle.fragments.proofs.words.define_op.Goals as goal

pub overflow_mul-n : goal.overflow_mul-n
overflow_mul-n c = omega (arith, op_low _ c.requires.sound _ c.requires.n_bound)

pub define_run-requires : goal.define_run-requires
define_run-requires c =
    let h = c.op_row-row.ensures in
    record {
      place_lt_numbers_length = omega (arith, op_low _ c.requires.sound _ c.requires.n_bound);
      counter_lt_numbers_length = omega arith;
      first_bound = omega (arith, h.fits.values);
      count_bound = row_room h c.requires.definitions_fit;
    }

pub returns : goal.returns
returns c =
    let C = columns c.args.store.now in
    let row = c.op_row-row in
    op_numbered (store_of C) c.requires.sound.ruled c.args.n row.result.value row.result.values row.ensures.fits.values c.args.numbers.now
    c.requires.definitions_fit.long (op_there C c.args.n c.requires.n_bound) row.ensures.values c.define_run.ensures
