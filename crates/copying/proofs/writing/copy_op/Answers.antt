-- `copy_op` meets its contract: its row is written as the rules say, and then its attributes, one after the other. Assumes nothing.
use Rattle.std.proofs.Common.{ℕ, ◌+◌, ◌≤◌, List, length, get_or, map, sym, ap, subst, ◌∙◌, arith}
use Rattle.rules.specs.Store.{attributes_hold, attribute_total, max_attributes}
use Rattle.rules.specs.declared.types.Attribute.{Attribute}
use lib.Dec.{ltb}
use Rattle.std.specs.List.{list_all}
use Rattle.rules.specs.Mapping.{or_self}
use Rattle.layout.specs.Columns.{columns}
use Rattle.layout.specs.Reading.{op_count, store_in}
use Rattle.layout.proofs.Laid.{laid_facts}
use Rattle.equivalence.specs.MappingWords.{mapping_of}
use Rattle.copying.proofs.Making.{named_low, op_low, results_rise, results_end, results_few, op_set, op_done}
use Rattle.copying.proofs.Asked.{OpTaken, op_asked_room, op_row_wrote}
use Rattle.copying.proofs.writing.copy_op.Goals as goal
use Rattle.copying.proofs.writing.copy_op.Goals.{After-at-4}

-- what is read of the operation, and what becomes of it
taken : (c : After-at-4)
    → OpTaken c.args.store.now c.args.mapping.now c.args.m c.at.result c.at-2.result c.at-3.result c.at-4.result
    c.types_of-results.result.now c.images_of-uses.result.now c.images_of-targets.result.now
taken c =
    record {
      kind_read = c.at.ensures;
      location_read = c.at-2.ensures;
      end_read = c.at-3.ensures;
      first_read = c.at-4.ensures;
      types = c.types_of-results.ensures;
      operands = c.images_of-uses.ensures ∙ ap (map (λ (v : ℕ). or_self (get_or c.args.mapping.now (0 + v) 0) v)) c.operands_of.ensures;
      successors = c.images_of-targets.ensures ∙ ap (map (λ (v : ℕ). or_self (get_or c.args.mapping.now (2048 + v) 0) v)) c.successors_of.ensures;
    }

pub types_of-results-requires-clause-i_bound : goal.types_of-results-requires-clause-i_bound
types_of-results-requires-clause-i_bound c =
    (op_low c.args.store.now c.requires.arranged c.args.m c.requires.m_bound c.requires.ready, op_low c.args.store.now c.requires.arranged c.args.m c.requires.m_bound c.requires.ready)

pub types_of-results-requires-clause-rises : goal.types_of-results-requires-clause-rises
types_of-results-requires-clause-rises c = results_rise c.args.store.now c.requires.arranged c.args.m c.requires.m_bound c.requires.ready

pub types_of-results-requires-clause-fits : goal.types_of-results-requires-clause-fits
types_of-results-requires-clause-fits c = results_end c.args.store.now c.requires.arranged c.args.m c.requires.m_bound c.requires.ready

pub types_of-results-requires-clause-room : goal.types_of-results-requires-clause-room
types_of-results-requires-clause-room c = results_few c.args.store.now c.requires.arranged c.args.m c.requires.m_bound c.requires.ready

pub images_of-uses-requires-clause-names_bound : goal.images_of-uses-requires-clause-names_bound
images_of-uses-requires-clause-names_bound c =
    λ k l. omega (arith, named_low 2048 c.operands_of.result.now (ap (list_all (λ (v : ℕ). ltb v 2048)) c.operands_of.ensures ∙ c.requires.ready.values_named) k l, c.told-mapping)

pub images_of-targets-requires-clause-names_bound : goal.images_of-targets-requires-clause-names_bound
images_of-targets-requires-clause-names_bound c =
    λ k l. omega (arith, named_low 256 c.successors_of.result.now (ap (list_all (λ (v : ℕ). ltb v 256)) c.successors_of.ensures ∙ c.requires.ready.blocks_named) k l, c.told-mapping)

pub at-requires-clause-n_bound : goal.at-requires-clause-n_bound
at-requires-clause-n_bound c = op_low c.args.store.now c.requires.arranged c.args.m c.requires.m_bound c.requires.ready

pub at-requires-2-clause-n_bound : goal.at-requires-2-clause-n_bound
at-requires-2-clause-n_bound c = op_low c.args.store.now c.requires.arranged c.args.m c.requires.m_bound c.requires.ready

pub at-requires-3-clause-n_bound : goal.at-requires-3-clause-n_bound
at-requires-3-clause-n_bound c = op_low c.args.store.now c.requires.arranged c.args.m c.requires.m_bound c.requires.ready

pub at-requires-4-clause-n_bound : goal.at-requires-4-clause-n_bound
at-requires-4-clause-n_bound c = op_low c.args.store.now c.requires.arranged c.args.m c.requires.m_bound c.requires.ready

pub overflow_sub-fields : goal.overflow_sub-fields
overflow_sub-fields c =
    let a = c.args.store.now in
    let r = c.requires in
    let rises = ((laid_facts (columns a) r.arranged.laid).op c.args.m r.m_bound).regions.range.rises in
    omega (arith, rises, c.at-3.ensures, c.at-4.ensures)

pub put_operation-requires-clause-op_room : goal.put_operation-requires-clause-op_room
put_operation-requires-clause-op_room c =
    let a = c.args.store.now in
    let r = c.requires in
    op_asked_room a r.arranged c.args.mapping.now c.told-mapping c.args.parent c.args.m r.m_bound r.ready (taken ((goal.at.put_operation-requires-clause-op_room c).After-at-4))

pub overflow_cast-m : goal.overflow_cast-m
overflow_cast-m c = record { fits = omega (arith, op_low c.args.store.now c.requires.arranged c.args.m c.requires.m_bound c.requires.ready) }

pub copy_attributes-requires : goal.copy_attributes-requires
unfolding op_count
copy_attributes-requires c =
    let a = c.args.store.now in
    let r = c.requires in
    let b = c.put_operation.new.store in
    let w =
    op_row_wrote a r.arranged c.args.mapping.now c.told-mapping c.args.parent c.args.m r.m_bound r.ready (taken ((goal.at.copy_attributes-requires c).After-at-4)) b (omega arith)
    c.put_operation.ensures r.parent_value
    in
    let set = op_set a r.arranged c.args.m r.m_bound r.ready (mapping_of c.args.mapping.now) c.args.parent b w c.at-copy.result c.at-copy.ensures in
    record {
      arranged = w.arranged;
      from_exists = set.from_exists;
      to_exists = set.to_exists;
      apart = set.apart;
      empty = set.empty;
      held = ap attributes_hold set.theirs ∙ r.ready.attributes;
      room = subst (λ (xs : List Attribute). attribute_total (store_in b) + length xs ≤ max_attributes) (sym set.theirs) set.room;
    }

pub returns : goal.returns
unfolding op_count
returns c =
    let a = c.args.store.now in
    let r = c.requires in
    let b = c.put_operation.new.store in
    let w =
    op_row_wrote a r.arranged c.args.mapping.now c.told-mapping c.args.parent c.args.m r.m_bound r.ready (taken ((goal.at.returns c).After-at-4)) b (omega arith)
    c.put_operation.ensures r.parent_value
    in
    op_done a r.arranged c.args.m r.m_bound r.ready (mapping_of c.args.mapping.now) c.args.parent b w c.at-copy.result c.at-copy.ensures
    c.copy_attributes.new.store c.copy_attributes.ensures
