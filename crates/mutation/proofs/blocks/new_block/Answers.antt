-- `new_block` meets its contract: it refuses by the first test that fails, and else writes the block. Assumes nothing.
use native.Mathlib.Omega.{arith}
use mathlib.Core.Path.{◌≡◌, sym, ap}
use Rattle.std.proofs.Common.{rules}
use Rattle.std.specs.Prelude as std
use Rattle.rules.specs.Building.{NewBlock, new_block, made}
use Rattle.layout.specs.Reading.{block_count}
use Rattle.rules.specs.Causes.{cause_of}
use Rattle.mutation.specs.Types.{made_of}
use Rattle.mutation.proofs.Facts.{laid}
use Rattle.mutation.proofs.Doing.{did_refuse}
use Rattle.mutation.proofs.BlockCauses.{fits_block}
use Rattle.mutation.proofs.Done.{block_done}
use Rattle.mutation.proofs.blocks.new_block.Goals as goal

pub returns-in_err-block_cause : goal.returns-in_err-block_cause
unfolding cause_of made_of
returns-in_err-block_cause c =
    let a = c.args in
    let e = c.in_err-block_cause.field-0.0 in
    let told : c.from_residual.result ≡ std.Err e = search rules in
    let new : NewBlock = record { region = a.region; location = a.location; types = a.types.now } in
    did_refuse a.store.now c.requires (new_block new) _ e (sym (c.in_err-block_cause.ensures a.location)) (ap made_of told)

pub put_block-requires : goal.put_block-requires
unfolding cause_of
put_block-requires c =
    let a = c.args in
    let b = a.store.now in
    let new : NewBlock = record { region = a.region; location = a.location; types = a.types.now } in
    let f = fits_block b c.requires new (sym (c.in_ok-block_cause.ensures a.location)) in
    record {
      region_bound = omega (arith, f.named, (laid b c.requires).counts.regions);
      store_bound = f.room.blocks;
      types_bound = f.room.values;
    }

pub returns : goal.returns
unfolding cause_of made_of block_count
returns c =
    let a = c.args in
    let new : NewBlock = record { region = a.region; location = a.location; types = a.types.now } in
    block_done a.store.now c.requires c.put_block.new.store omega arith _ new
    (sym (c.in_ok-block_cause.ensures a.location)) c.put_block.ensures (ap made c.at-m.ensures)
