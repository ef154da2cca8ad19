-- `put_attributes` meets its contract: the number of kept slots, then each. Assumes nothing.
use native.Mathlib.Omega.{arith}
use mathlib.Core.Path.{ap}
use lib.ListN.{length}
use Rattle.std.specs.List.{flat_map}
use Rattle.rules.specs.Hash.{count, attribute_bytes}
use Rattle.layout.specs.Columns.{columns}
use Rattle.fragments.specs.Ignoring.{kept_from}
use Rattle.keys.proofs.Putting.{put_then, put_as}
use Rattle.keys.proofs.attributes.put_attributes.Goals as goal

pub returns : goal.returns
returns c =
    let kept = kept_from (columns c.args.store.now) c.args.ignore c.args.first c.args.end in
    put_then (count (length kept)) (flat_map attribute_bytes kept) (omega arith) (put_as (ap count c.count_kept.ensures) c.put_count-at.ensures)
    c.min-rest.ensures c.put_kept.ensures c.saturating_add.ensures
