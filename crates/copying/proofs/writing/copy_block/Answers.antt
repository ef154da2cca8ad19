-- `copy_block` meets its contract: its row is written as the rules say, and then its attributes, one after the other. Assumes nothing.
use Rattle.std.proofs.Common.{◌≡◌, ℕ, ◌+◌, ◌<◌, ◌≤◌, List, length, get_or, sym, ap, subst, ◌∙◌, arith}
use Rattle.rules.specs.Store.{Block, block_at, regions_of, attributes_hold, attribute_total, max_attributes}
use Rattle.rules.specs.declared.types.Attribute.{Attribute}
use Rattle.rules.specs.Mapping.{image}
use Rattle.layout.specs.Columns.{columns}
use Rattle.layout.specs.Reading.{block_count, block_of, store_in}
use Rattle.layout.proofs.Laid.{laid_facts}
use Rattle.layout.proofs.Tabulate.{block_read, ops_length}
use Rattle.equivalence.specs.MappingWords.{mapping_of}
use Rattle.copying.specs.Written.{region_by}
use Rattle.copying.proofs.Making.{block_low, arguments_rise, arguments_end, arguments_few, block_room_lem, block_set, block_done}
use Rattle.copying.proofs.Asked.{BlockTaken, argument_types_asked, region_there, block_row_wrote}
use Rattle.copying.proofs.writing.copy_block.Goals as goal
use Rattle.copying.proofs.writing.copy_block.Goals.{After-at, After-at-location}

-- the region that is read
region_read : (c : After-at) → c.at.result ≡ (block_at (store_in c.args.store.now) c.args.b).region
unfolding block_of
region_read c = c.at.ensures ∙ sym (ap (λ (x : Block). x.region) (block_read (columns c.args.store.now) c.args.b c.requires.b_bound))

-- what is read of the block, and what becomes of it
taken : (c : After-at-location)
    → BlockTaken c.args.store.now c.args.mapping.now c.args.b c.region_copy-region.result c.at-location.result c.types_of-arguments.result.now
unfolding block_of
taken c =
    let region : c.at.result ≡ (block_at (store_in c.args.store.now) c.args.b).region =
    c.at.ensures ∙ sym (ap (λ (x : Block). x.region) (block_read (columns c.args.store.now) c.args.b c.requires.b_bound)) in
    record {
      location_read = c.at-location.ensures;
      types = c.types_of-arguments.ensures;
      region_read = c.region_copy-region.ensures ∙ ap (region_by (store_in c.args.store.now) (mapping_of c.args.mapping.now)) region;
    }

pub types_of-arguments-requires-clause-i_bound : goal.types_of-arguments-requires-clause-i_bound
types_of-arguments-requires-clause-i_bound c =
    let a = c.args.store.now in
    let M = mapping_of c.args.mapping.now in
    let r = c.requires in
    (block_low a r.arranged M c.args.b r.b_bound r.ready, block_low a r.arranged M c.args.b r.b_bound r.ready)

pub types_of-arguments-requires-clause-rises : goal.types_of-arguments-requires-clause-rises
types_of-arguments-requires-clause-rises c =
    arguments_rise c.args.store.now c.requires.arranged (mapping_of c.args.mapping.now) c.args.b c.requires.b_bound c.requires.ready

pub types_of-arguments-requires-clause-fits : goal.types_of-arguments-requires-clause-fits
types_of-arguments-requires-clause-fits c =
    arguments_end c.args.store.now c.requires.arranged (mapping_of c.args.mapping.now) c.args.b c.requires.b_bound c.requires.ready

pub types_of-arguments-requires-clause-room : goal.types_of-arguments-requires-clause-room
types_of-arguments-requires-clause-room c =
    arguments_few c.args.store.now c.requires.arranged (mapping_of c.args.mapping.now) c.args.b c.requires.b_bound c.requires.ready

pub at-requires-clause-n_bound : goal.at-requires-clause-n_bound
at-requires-clause-n_bound c =
    block_low c.args.store.now c.requires.arranged (mapping_of c.args.mapping.now) c.args.b c.requires.b_bound c.requires.ready

pub at-location-requires-clause-n_bound : goal.at-location-requires-clause-n_bound
at-location-requires-clause-n_bound c =
    block_low c.args.store.now c.requires.arranged (mapping_of c.args.mapping.now) c.args.b c.requires.b_bound c.requires.ready

pub region_copy-region-requires-clause-r_bound : goal.region_copy-region-requires-clause-r_bound
region_copy-region-requires-clause-r_bound c =
    let a = c.args.store.now in
    let M = mapping_of c.args.mapping.now in
    let r = c.requires in
    omega (arith, ((laid_facts (columns a) r.arranged.laid).block c.args.b r.b_bound).region_in, c.at.ensures)

pub region_copy-region-requires-clause-copy_bound : goal.region_copy-region-requires-clause-copy_bound
region_copy-region-requires-clause-copy_bound c =
    let a = c.args.store.now in
    let M = mapping_of c.args.mapping.now in
    let r = c.requires in
    let region = region_read ((goal.at.region_copy-region-requires-clause-copy_bound c).After-at) in
    omega (arith, ap (λ (x : ℕ). image M.ops (get_or (store_in a).regions x 0)) region, r.ready.around, ops_length (columns a))

pub region_copy-region-requires-clause-some : goal.region_copy-region-requires-clause-some
region_copy-region-requires-clause-some c =
    let a = c.args.store.now in
    let M = mapping_of c.args.mapping.now in
    let r = c.requires in
    let region = region_read ((goal.at.region_copy-region-requires-clause-some c).After-at) in
    subst (λ (x : ℕ). 0 < length (regions_of (store_in a) (image M.ops (get_or (store_in a).regions x 0)))) (sym region) r.ready.some

pub put_block-requires-clause-region_bound : goal.put_block-requires-clause-region_bound
put_block-requires-clause-region_bound c =
    let a = c.args.store.now in
    let r = c.requires in
    omega (arith, region_there a r.arranged c.args.mapping.now c.args.b r.b_bound r.ready (taken ((goal.at.put_block-requires-clause-region_bound c).After-at-location)), (laid_facts (columns a) r.arranged.laid).counts.regions)

pub put_block-requires-clause-store_bound : goal.put_block-requires-clause-store_bound
put_block-requires-clause-store_bound c =
    (block_room_lem c.args.store.now c.requires.arranged (mapping_of c.args.mapping.now) c.args.b c.requires.b_bound c.requires.ready).blocks

pub put_block-requires-clause-types_bound : goal.put_block-requires-clause-types_bound
put_block-requires-clause-types_bound c =
    let a = c.args.store.now in
    let r = c.requires in
    omega (arith, ap length (argument_types_asked a r.arranged c.args.mapping.now c.args.b r.b_bound r.ready (taken ((goal.at.put_block-requires-clause-types_bound c).After-at-location))), (block_room_lem a r.arranged (mapping_of c.args.mapping.now) c.args.b r.b_bound r.ready).values)

pub overflow_cast-b : goal.overflow_cast-b
overflow_cast-b c =
    record { fits = omega (arith, block_low c.args.store.now c.requires.arranged (mapping_of c.args.mapping.now) c.args.b c.requires.b_bound c.requires.ready) }

pub copy_attributes-requires : goal.copy_attributes-requires
unfolding block_count
copy_attributes-requires c =
    let a = c.args.store.now in
    let r = c.requires in
    let b = c.put_block.new.store in
    let w = block_row_wrote a r.arranged c.args.mapping.now c.args.b r.b_bound r.ready (taken ((goal.at.copy_attributes-requires c).After-at-location)) b (omega arith) c.put_block.ensures in
    let set = block_set a r.arranged (mapping_of c.args.mapping.now) c.args.b r.b_bound r.ready b w c.at-copy.result c.at-copy.ensures in
    record {
      arranged = w.arranged;
      from_exists = set.from_exists;
      to_exists = set.to_exists;
      apart = set.apart;
      empty = set.empty;
      held = ap attributes_hold set.theirs ∙ r.ready.attributes;
      room = subst (λ (xs : List Attribute). attribute_total (store_in b) + length xs ≤ max_attributes) (sym set.theirs) set.room;
    }

pub returns : goal.returns
unfolding block_count
returns c =
    let a = c.args.store.now in
    let r = c.requires in
    let b = c.put_block.new.store in
    let w = block_row_wrote a r.arranged c.args.mapping.now c.args.b r.b_bound r.ready (taken ((goal.at.returns c).After-at-location)) b (omega arith) c.put_block.ensures in
    block_done a r.arranged (mapping_of c.args.mapping.now) c.args.b r.b_bound r.ready b w c.at-copy.result c.at-copy.ensures
    c.copy_attributes.new.store c.copy_attributes.ensures
