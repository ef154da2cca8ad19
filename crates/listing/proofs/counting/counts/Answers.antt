-- `counts` meets its contract: at the end all places were passed. Assumes nothing.
use Rattle.std.proofs.Common.{◌≡◌, take, ap, ◌∙◌, arith}
use lib.Seq.{take_all}
use Rattle.std.specs.List.{count_by}
use Rattle.listing.specs.Tally.{is_equal, is_inside}
use Rattle.listing.proofs.Counts.{all_counted}
use Rattle.listing.proofs.counting.counts.Goals as goal

pub returns : goal.returns
returns c =
    let places = c.args.tally.now in
    let passed : take c.loop-place.place-index places ≡ places = take_all c.loop-place.place-index places (omega (arith, c.told-tally, c.loop-place-test.false)) in
    let i = c.loop-place.invariant in
    all_counted places _ _ (record { long = c.told-tally }) (i.0 ∙ ap (count_by is_equal) passed) (i.1 ∙ ap (count_by is_inside) passed)
