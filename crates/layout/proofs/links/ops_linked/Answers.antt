-- `ops_linked` meets its contract: what is tested of a sort of child is what is asked of this one. Assumes nothing.
use mathlib.Core.Path.{◌∙◌}
use Rattle.layout.specs.Columns.{columns}
use Rattle.layout.specs.Reading.{op_count}
use Rattle.layout.proofs.Laid.{counts_facts}
use Rattle.layout.proofs.Sorts.{ops_linkable, ops_linked_lem}
use Rattle.layout.proofs.links.ops_linked.Goals as goal

pub children_linked-requires : goal.children_linked-requires
children_linked-requires c =
    let cols = columns c.args.store.now in
    ops_linkable cols (counts_facts cols c.requires.counts_bounded.counted) c.requires.store_value

pub returns : goal.returns
unfolding op_count
returns c = c.children_linked.ensures ∙ ops_linked_lem (columns c.args.store.now)
