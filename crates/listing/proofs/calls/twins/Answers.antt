-- `twins` meets its contract: it tests the lent buffers, and then the listing is printed. Assumes nothing.
use mathlib.Core.Path.{refl, ap, ◌∙◌}
use lib.ListN.{length}
use Rattle.rules.specs.Listings.{twins_program}
use Rattle.listing.specs.Progress.{program_of}
use Rattle.listing.proofs.Whole.{wrong_store, wrong_mapping, no_room_lem, answered, taken}
use Rattle.listing.proofs.calls.twins.Goals as goal

pub returns-in_default : goal.returns-in_default
returns-in_default c =
    let a = c.args in
    wrong_store twins_program a.listing.now a.store.now a.mapping.now a.out.now c.in_default.ensures.cases

pub returns-in_default-as_mut_array : goal.returns-in_default-as_mut_array
returns-in_default-as_mut_array c =
    let a = c.args in
    let w = c.in-Some.ensures.cases in
    taken twins_program a.listing.now a.out.now _ _ w.same refl
    (wrong_mapping twins_program a.listing.now c.in-Some.words.now a.mapping.now a.out.now (ap length w.same ∙ w.long)
    c.in_default-as_mut_array.ensures.cases)

pub returns-then-out-lt-ROOM : goal.returns-then-out-lt-ROOM
returns-then-out-lt-ROOM c =
    let a = c.args in
    let w = c.in-Some.ensures.cases in
    let e = c.in-Some-as_mut_array.ensures.cases in
    taken twins_program a.listing.now a.out.now _ _ w.same e.same
    (no_room_lem twins_program a.listing.now c.in-Some.words.now c.in-Some-as_mut_array.entries.now a.out.now (ap length w.same ∙ w.long)
    (ap length e.same ∙ e.long) c.if-out-lt-ROOM.true)

pub returns : goal.returns
unfolding program_of
returns c =
    let a = c.args in
    let w = c.in-Some.ensures.cases in
    let e = c.in-Some-as_mut_array.ensures.cases in
    taken twins_program a.listing.now a.out.now _ _ w.same e.same
    (answered twins_program a.listing.now c.in-Some.words.now c.in-Some-as_mut_array.entries.now a.out.now (ap length w.same ∙ w.long)
    (ap length e.same ∙ e.long) _ _ c.if-out-lt-ROOM.false c.listed.ensures)
