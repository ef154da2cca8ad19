-- `key_count` meets its contract: it reads the owner's word of its column. Assumes nothing.
use mathlib.Core.Path.{ap₂, ◌∙◌}
use Rattle.layout.specs.Columns.{columns, at}
use Rattle.layout.specs.Owners.{key_count}
use Rattle.layout.proofs.Laid.{laid_facts}
use Rattle.layout.proofs.OwnerKeys.{owner_in_lem, owner_reached, count_reached}
use Rattle.layout.proofs.owners.key_count.Goals as goal

pub number-requires : goal.number-requires
number-requires c =
    let a = c.args in
    let C = columns a.store.now in
    let w = a.owner in
    let rest = count_reached C w (owner_reached C w (laid_facts C c.requires.arranged.laid) (owner_in_lem C w c.requires.owner_value)) _ _ c.count_column.ensures c.owner_number.ensures in record { column_lt_column_count = rest.0; n_bound = rest.1 }

pub returns : goal.returns
unfolding key_count
returns c =
    c.number.ensures ∙ ap₂ (at (columns c.args.store.now)) c.count_column.ensures c.owner_number.ensures
