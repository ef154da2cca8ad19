-- `empty_store` meets its contract: the counts are 0, and they alone decide. Assumes nothing.
use native.Mathlib.Omega.{arith}
use mathlib.Core.Path.{◌≡◌}
use lib.ListN.{length}
use Rattle.layout.specs.Columns.{buffer_length}
use Rattle.listing.proofs.Emptied.{store_empty, store_bare}
use Rattle.listing.proofs.emptying.empty_store.Goals as goal

pub returns : goal.returns
returns c =
    let told = c.put_same in
    let long : length told.new.store ≡ buffer_length = omega arith in
    record { bare = store_bare c.args.store.now _ long told.ensures; store_after = store_empty c.args.store.now _ long told.ensures }
