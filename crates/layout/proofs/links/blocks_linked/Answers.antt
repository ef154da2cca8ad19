-- `blocks_linked` meets its contract: what is tested of a sort of child is what is asked of this one. Assumes nothing.
use mathlib.Core.Path.{◌∙◌}
use Rattle.layout.specs.Columns.{columns}
use Rattle.layout.specs.Reading.{block_count}
use Rattle.layout.proofs.Laid.{counts_facts}
use Rattle.layout.proofs.Sorts.{blocks_linkable, blocks_linked_lem}
use Rattle.layout.proofs.links.blocks_linked.Goals as goal

pub children_linked-requires : goal.children_linked-requires
children_linked-requires c =
    let cols = columns c.args.store.now in
    blocks_linkable cols (counts_facts cols c.requires.counts_bounded.counted) c.requires.store_value

pub returns : goal.returns
unfolding block_count
returns c = c.children_linked.ensures ∙ blocks_linked_lem (columns c.args.store.now)
