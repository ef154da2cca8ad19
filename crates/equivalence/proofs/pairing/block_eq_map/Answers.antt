-- `block_eq_map` meets its contract: where the shells differ nothing is entered, and else the block and its values are. Assumes nothing.
use Rattle.std.proofs.Common.{arith, ap, sym, ◌∙◌}
use Rattle.rules.specs.declared.types.Owner.TheVariants.{Block as of_block}
use Rattle.layout.specs.Columns.{columns}
use Rattle.layout.specs.Reading.{store_in, consecutive}
use Rattle.layout.proofs.Laid.{laid_facts}
use Rattle.fragments.specs.Options.{Options}
use Rattle.fragments.specs.View.{options_in}
use Rattle.equivalence.specs.MappingWords.{values_mapped}
use Rattle.equivalence.proofs.Alike.{block_shells_lem}
use Rattle.equivalence.proofs.Paired.{Side, block_side, blocks_unlike, blocks_alike}
use Rattle.equivalence.proofs.pairing.block_eq_map.Goals as goal

pub overflow_cast-result : goal.overflow_cast-result
overflow_cast-result c = record { fits = omega (arith, (laid_facts (columns c.args.view.now.store.now) c.args.view.now.readable.sound.laid).counts.blocks) }

pub overflow_cast-result-then-not-rows_eq : goal.overflow_cast-result-then-not-rows_eq
overflow_cast-result-then-not-rows_eq c = record { fits = omega (arith, (laid_facts (columns c.args.view.now.store.now) c.args.view.now.readable.sound.laid).counts.blocks) }

pub overflow_cast-rhs : goal.overflow_cast-rhs
overflow_cast-rhs c = record { fits = omega (arith, (laid_facts (columns c.args.view.now.store.now) c.args.view.now.readable.sound.laid).counts.blocks) }

pub returns-then-not-rows_eq : goal.returns-then-not-rows_eq
returns-then-not-rows_eq c =
    let a = c.args in
    let rule : Options = options_in a.view.now in
    blocks_unlike (store_in a.view.now.store.now) rule a.pair.lhs a.pair.rhs a.mapping.now a.paired
    (block_shells_lem rule c.block_row-l.ensures c.block_row-r.ensures ∙ sym c.rows_eq.ensures ∙ c.if-not-rows_eq.true)

pub map_block-requires : goal.map_block-requires
map_block-requires c = omega (arith, (laid_facts (columns c.args.view.now.store.now) c.args.view.now.readable.sound.laid).counts.blocks)

pub map_values-requires-clause-right_bound : goal.map_values-requires-clause-right_bound
map_values-requires-clause-right_bound c =
    let a = c.args in
    let rule : Options = options_in a.view.now in
    let sides : Side (columns a.view.now.store.now) (of_block a.pair.lhs) (of_block a.pair.rhs) c.block_row-l.result c.block_row-r.result =
    block_side a.view.now.store.now rule a.pair.lhs a.pair.rhs c.block_row-l.ensures c.block_row-r.ensures
    (block_shells_lem rule c.block_row-l.ensures c.block_row-r.ensures ∙ sym c.rows_eq.ensures ∙ c.if-not-rows_eq.false) in
    sides.right_fits

pub returns : goal.returns
returns c =
    let a = c.args in
    let rule : Options = options_in a.view.now in
    let sides : Side (columns a.view.now.store.now) (of_block a.pair.lhs) (of_block a.pair.rhs) c.block_row-l.result c.block_row-r.result =
    block_side a.view.now.store.now rule a.pair.lhs a.pair.rhs c.block_row-l.ensures c.block_row-r.ensures
    (block_shells_lem rule c.block_row-l.ensures c.block_row-r.ensures ∙ sym c.rows_eq.ensures ∙ c.if-not-rows_eq.false) in
    let l = c.block_row-l.result in
    let r = c.block_row-r.result in
    blocks_alike (store_in a.view.now.store.now) rule a.pair.lhs a.pair.rhs a.mapping.now a.paired c.map_values.new.mapping (consecutive l.value l.values)
    (consecutive r.value l.values)
    (block_shells_lem rule c.block_row-l.ensures c.block_row-r.ensures ∙ sym c.rows_eq.ensures ∙ c.if-not-rows_eq.false) sides.left sides.right
    (c.map_values.ensures ∙ ap (λ m. values_mapped m (consecutive l.value l.values) (consecutive r.value l.values)) c.map_block.ensures)
