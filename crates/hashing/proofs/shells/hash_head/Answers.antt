-- `hash_head` meets its contract: kind and number of regions are read off the operation's row. Assumes nothing.
use Rattle.std.proofs.Common.{arith}
use Rattle.layout.specs.Columns.{columns}
use Rattle.layout.proofs.Laid.{laid_facts}
use Rattle.fragments.proofs.Rounds.{regions_few}
use Rattle.hashing.proofs.Reading.{head_fed}
use Rattle.hashing.proofs.shells.hash_head.Goals as goal

pub at-kind-requires : goal.at-kind-requires
at-kind-requires c =
    record {
      column_lt_column_count = omega arith;
      n_bound = omega (arith, (laid_facts (columns c.args.store.now) c.requires.sound.laid).counts.ops, c.requires.n_bound);
    }

pub overflow_cast-op_regions : goal.overflow_cast-op_regions
overflow_cast-op_regions c =
    record {
      fits = omega (arith, c.op_regions.ensures, regions_few (columns c.args.store.now) c.requires.sound.ruled c.args.n c.requires.n_bound);
    }

pub returns : goal.returns
returns c =
    head_fed (columns c.args.store.now) c.args.n c.requires.n_bound c.args.state.now.word c.at-kind.ensures c.op_regions.ensures c.hash_head.ensures
