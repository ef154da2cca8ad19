-- `put_place` meets its contract: the location, then the attributes. Assumes nothing.
use native.Mathlib.Omega.{arith}
use mathlib.Core.List.{◌++◌}
use lib.ListN.{length}
use Rattle.std.specs.List.{flat_map}
use Rattle.rules.specs.Shells.{unignored_location}
use Rattle.rules.specs.Hash.{count, location_bytes, attribute_bytes}
use Rattle.layout.specs.Columns.{columns}
use Rattle.keys.specs.Put.{row_kept, place_bytes}
use Rattle.keys.proofs.Putting.{put_then}
use Rattle.keys.proofs.shell_bytes.put_place.Goals as goal

pub returns : goal.returns
unfolding place_bytes
returns c =
    let a = c.args in
    let ig = a.ignore in
    let kept = row_kept (columns a.store.now) ig a.row in
    put_then (location_bytes (unignored_location ig a.row.location)) (count (length kept) ++ flat_map attribute_bytes kept) (omega arith)
    c.put_location-at.ensures c.min-rest.ensures c.put_attributes.ensures c.saturating_add.ensures
