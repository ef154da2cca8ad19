-- `hash_row` meets its contract: location, attributes and types go into the word one after the other. Assumes nothing.
use Rattle.std.proofs.Common.{map, ap, ◌∙◌}
use Rattle.std.specs.List.{flat_map}
use Rattle.rules.specs.Hash.{fnv_from, leaf}
use Rattle.rules.specs.Types.{present}
use Rattle.layout.specs.Columns.{columns}
use Rattle.fragments.specs.Index.{list_in}
use Rattle.fragments.specs.Options.{options_of}
use Rattle.fragments.specs.Rows.{row_shell}
use Rattle.hashing.proofs.Bytes.{shell_fed}
use Rattle.hashing.proofs.shells.hash_row.Goals as goal

pub returns : goal.returns
unfolding row_shell
returns c =
    let a = c.args in
    shell_fed (row_shell (columns a.store.now) (options_of a.ignore a.index.now) a.row) a.state.now.word c.location_hash.ensures c.attributes_hash.ensures
    (c.hash_types.ensures ∙ ap (λ xs. fnv_from c.attributes_hash.new.state.word (flat_map leaf (map (present (list_in a.index.now)) xs))) c.words-own.ensures)
