-- `sums` meets its contract, as `twins` does: a mapping of its own has no entry, and is as it was. Assumes nothing.
use mathlib.Core.Path.{refl, ap, ◌∙◌}
use lib.ListN.{length}
use Rattle.rules.specs.Listings.{sums_program}
use Rattle.equivalence.specs.MappingWords.{empty_words}
use Rattle.listing.specs.Progress.{program_of}
use Rattle.listing.proofs.Emptied.{empty_length}
use Rattle.listing.proofs.Whole.{wrong_store, no_room_lem, answered, unmapped, taken}
use Rattle.listing.proofs.calls.sums.Goals as goal

pub returns-in_default : goal.returns-in_default
returns-in_default c =
    let a = c.args in
    wrong_store sums_program a.listing.now a.store.now empty_words a.out.now c.in_default.ensures.cases

pub returns-then-out-lt-ROOM : goal.returns-then-out-lt-ROOM
returns-then-out-lt-ROOM c =
    let a = c.args in
    let w = c.in-Some.ensures.cases in
    taken sums_program a.listing.now a.out.now _ _ w.same refl
    (no_room_lem sums_program a.listing.now c.in-Some.words.now empty_words a.out.now (ap length w.same ∙ w.long) empty_length c.if-out-lt-ROOM.true)

pub returns : goal.returns
unfolding program_of empty_words
returns c =
    let a = c.args in
    let w = c.in-Some.ensures.cases in
    let printed = unmapped sums_program a.listing.now c.in-Some.words.now a.out.now _ _ _ _ c.listed.ensures in
    taken sums_program a.listing.now a.out.now _ _ w.same refl
    (answered sums_program a.listing.now c.in-Some.words.now empty_words a.out.now (ap length w.same ∙ w.long) empty_length _ _ c.if-out-lt-ROOM.false printed)
