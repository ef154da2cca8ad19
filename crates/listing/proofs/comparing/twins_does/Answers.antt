-- `twins_does` meets its contract: a refused comparison stops the program, and of any other the line is printed and the operations inside the
-- right fragment are counted. Assumes nothing.
use Rattle.std.proofs.Common.{Bool, subst}
use Rattle.std.proofs.lemmas.Result.{err_from_is_err_and}
use Rattle.layout.specs.Reading.{store_in}
use Rattle.listing.specs.Tally.{Tallied}
use Rattle.listing.proofs.Verdicts.{right_exists, twins_stops, twins_goes}
use Rattle.listing.proofs.comparing.twins_does.Goals as goal

pub returns-in_err-result : goal.returns-in_err-result
returns-in_err-result c =
    let a = c.args in
    let told = c.in_err-result.ensures in
    let p = err_from_is_err_and c.from_residual.result c.from_residual.ensures.1 in
    rw (p.1, p.2) (record { stepped = twins_stops a.store.now a.tally.now a.query _ a.out.now _ told; mapping_after = told.empty })

pub put_verdict-requires : goal.put_verdict-requires
put_verdict-requires c = c.requires.step_room_in_bounds

pub include_fragment-requires : goal.include_fragment-requires
include_fragment-requires c = record { sound = c.requires.sound; n_value = right_exists c.args.store.now _ c.args.query _ c.in_ok-result.ensures }

pub returns : goal.returns
returns c =
    let a = c.args in
    let told = c.in_ok-result.ensures in
    let after = c.include_fragment.new.tally in
    let counted = subst (λ (t : Bool). Tallied (store_in a.store.now) a.query.sort a.query.right t a.tally.now after) c.is_ok.ensures.value c.include_fragment.ensures in
    record { stepped = twins_goes a.store.now a.tally.now a.query after _ _ told counted c.put_verdict.ensures; mapping_after = told.empty }
