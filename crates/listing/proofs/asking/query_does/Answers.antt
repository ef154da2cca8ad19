-- `query_does` meets its contract: for a query that was read each program does what it does. Assumes nothing.
use mathlib.Core.Path.{ap, ap₂}
use Rattle.std.specs.Option.{option_map}
use Rattle.rules.specs.Listings.{line_does}
use Rattle.rules.specs.declared.types.Cause.TheVariants.{BadLine}
use Rattle.lines.specs.Parsing.{query_of}
use Rattle.listing.specs.Progress.{program_of, progress_of}
use Rattle.listing.proofs.Steps.{stopped, same_outcome}
use Rattle.listing.proofs.asking.query_does.Goals as goal

pub returns-in_default : goal.returns-in_default
unfolding line_does
returns-in_default c =
    let a = c.args in
    let store = a.store.now in
    let tally = a.tally.now in
    let bad = ap (λ l. line_does (program_of a.program) (progress_of store tally) (option_map query_of l)) c.in_default.is in
    record { stepped = stopped _ store tally a.out.now BadLine bad; mapping_after = c.requires.mapping_value }

pub returns-in-Twins : goal.returns-in-Twins
unfolding program_of
returns-in-Twins c =
    let now = progress_of c.args.store.now c.args.tally.now in
    let asked = ap₂ (λ p l. line_does p now (option_map query_of l)) (ap program_of c.in-Twins.is) c.in-Some.is in
    let done = c.twins_does.ensures in
    record { stepped = same_outcome asked done.stepped; mapping_after = done.mapping_after }

pub returns-in-Sums : goal.returns-in-Sums
unfolding program_of
returns-in-Sums c =
    let tally = c.args.tally.now in
    let now = progress_of c.args.store.now tally in
    let asked = ap₂ (λ p l. line_does p now (option_map query_of l)) (ap program_of c.in-Sums.is) c.in-Some.is in
    record { stepped = same_outcome asked (c.sums_does.ensures tally); mapping_after = c.requires.mapping_value }
