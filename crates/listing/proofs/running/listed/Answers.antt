-- `listed` meets its contract: a refused first line is all that is printed; behind any other the lines run on an empty store. Assumes
-- nothing.
use native.Mathlib.Omega.{arith}
use mathlib.Core.Path.{ap}
use lib.ListN.{length}
use Rattle.std.proofs.Common.{rules}
use Rattle.listing.specs.declared.types.Reading.{Reading}
use Rattle.listing.proofs.Whole.{first_refused, all_ran}
use Rattle.listing.proofs.running.listed.Goals as goal

pub returns-in-Err : goal.returns-in-Err
returns-in-Err c =
    let a = c.args in
    let listing = a.listing.now in
    let store = a.store.now in
    let mapping = a.mapping.now in
    let lent = a.lent.now in
    first_refused a.program listing store mapping lent _ _ _ c.in-Err.ensures c.new-out.ensures.lent c.new-out.ensures.at (search rules) c.length.ensures
    c.put_refusal.ensures

pub run-requires : goal.run-requires
run-requires c =
    let b = c.in-Ok.ensures.begun in
    record {
      bare = c.empty_store.ensures.bare;
      store_value = c.empty_store.ensures.store_after;
      mapping_value = c.empty_mapping.ensures;
      second_line_le_from = omega arith;
      from_in_bounds = b.long;
      listing_len_bound = b.short;
      max_output_in_bounds = omega (arith, c.requires, c.new-out.ensures.at, ap length c.new-out.ensures.lent);
    }

pub returns : goal.returns
returns c =
    let a = c.args in
    let how : Reading = record { program = a.program; edition = c.in-Ok.edition } in
    let listing = a.listing.now in
    let store = a.store.now in
    let mapping = a.mapping.now in
    let lent = a.lent.now in
    all_ran how listing store mapping lent _ _ _ _ c.in-Ok.ensures c.run.ensures c.new-out.ensures.lent c.new-out.ensures.at (search rules) c.length-2.ensures
