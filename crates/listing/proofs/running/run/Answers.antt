-- `run` meets its contract: what is printed so far, followed by what the rules print from here on, is all. Assumes nothing.
use Prim.Native.Nat.{◌≤◌}
use Rattle.lines.specs.Writing.{HasRoom}
use Rattle.rules.specs.Listings.{max_listing, max_output}
use Rattle.layout.specs.Reading.{slice}
use Rattle.listing.proofs.Runs.{running_starts, running_turn, has_room, few_lines, ran_out, ran_unended, refusal_fits, ran_stopped}
use native.Mathlib.Omega.{arith}
use lib.ListN.{length}
use Rattle.listing.proofs.Empty.{outside_none}
use Rattle.listing.proofs.running.run.Goals as goal

pub loop-start-init : goal.loop-start-init
loop-start-init c =
    let roomy : HasRoom max_output c.args.out.now = c.requires.max_output_in_bounds in
    let short : length c.args.listing.now ≤ max_listing = c.requires.listing_len_bound in
    let r = c.requires in
    let starts = running_starts roomy short c.args.store.now c.args.mapping.now _ r.bare r.store_value r.mapping_value in
    starts outside_none r.second_line_le_from r.from_in_bounds

pub returns-then-end-listing : goal.returns-then-end-listing
returns-then-end-listing c =
    let roomy : HasRoom max_output c.args.out.now = c.requires.max_output_in_bounds in
    let short : length c.args.listing.now ≤ max_listing = c.requires.listing_len_bound in
    let unended = ran_unended roomy short c.loop-start.invariant _ c.piece_end-end.ensures c.loop-start-test.true in
    unended _ c.if-end-listing.true c.put_refusal.ensures

pub line_does-requires : goal.line_does-requires
line_does-requires c =
    let roomy : HasRoom max_output c.args.out.now = c.requires.max_output_in_bounds in
    let short : length c.args.listing.now ≤ max_listing = c.requires.listing_len_bound in
    let w = c.loop-start in
    let i = w.invariant in
    let r = has_room roomy short i in
    record { sound = i.bare.sound; mapping_value = i.empty; step_room_in_bounds = omega (arith, r) }

pub put_refusal-requires-in-Err : goal.put_refusal-requires-in-Err
unfolding slice
put_refusal-requires-in-Err c =
    let roomy : HasRoom max_output c.args.out.now = c.requires.max_output_in_bounds in
    let short : length c.args.listing.now ≤ max_listing = c.requires.listing_len_bound in
    refusal_fits roomy short c.loop-start.invariant _ c.piece_end-end.ensures c.loop-start-test.true c.if-end-listing.false _ _ _ _ c.in-Err.ensures.line_does

pub returns-in-Err : goal.returns-in-Err
unfolding slice
returns-in-Err c =
    let roomy : HasRoom max_output c.args.out.now = c.requires.max_output_in_bounds in
    let short : length c.args.listing.now ≤ max_listing = c.requires.listing_len_bound in
    let step = c.line_does.ensures in
    let stops = ran_stopped roomy short c.loop-start.invariant _ c.piece_end-end.ensures c.loop-start-test.true c.if-end-listing.false in
    stops _ _ _ _ (c.in-Err.ensures.line_does) _ _ step.mapping_after c.put_refusal-in-Err.ensures

pub overflow_add-number : goal.overflow_add-number
overflow_add-number c =
    let roomy : HasRoom max_output c.args.out.now = c.requires.max_output_in_bounds in
    let short : length c.args.listing.now ≤ max_listing = c.requires.listing_len_bound in
    omega (arith, few_lines roomy short c.loop-start.invariant)

pub loop-start-preserved : goal.loop-start-preserved
unfolding slice
loop-start-preserved c =
    let roomy : HasRoom max_output c.args.out.now = c.requires.max_output_in_bounds in
    let short : length c.args.listing.now ≤ max_listing = c.requires.listing_len_bound in
    let w = c.loop-start in
    let turn = running_turn roomy short w.invariant _ c.piece_end-end.ensures c.loop-start-test.true c.if-end-listing.false in
    turn _ _ _ c.in_default.ensures.line_does _ c.line_does.ensures.mapping_after

pub returns : goal.returns
returns c =
    let roomy : HasRoom max_output c.args.out.now = c.requires.max_output_in_bounds in
    let short : length c.args.listing.now ≤ max_listing = c.requires.listing_len_bound in
    ran_out roomy short c.loop-start.invariant _ c.loop-start-test.false c.close.ensures
