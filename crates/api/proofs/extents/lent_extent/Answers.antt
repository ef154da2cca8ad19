-- `lent_extent` meets its contract: cause 1 comes first, and what is found to be sound is what was lent. Assumes nothing.
use mathlib.Core.Bool.{Bool, true}
use mathlib.Core.List.{List}
use mathlib.Core.Path.{refl, sym, ap, ◌∙◌}
use Prim.Native.Nat.{ℕ}
use Rattle.rules.specs.Building.{first_failed}
use Rattle.rules.specs.Extents.{extent_tests, sized_by, sized}
use Rattle.layout.specs.Reading.{store_in}
use Rattle.validation.proofs.Offering.{words_sound}
use Rattle.keys.specs.Extents.{sized_of}
use Rattle.api.proofs.extents.lent_extent.Goals as goal

pub returns-in_default : goal.returns-in_default
unfolding sized_of sized sized_by extent_tests first_failed
returns-in_default c = rw c.in_default.ensures refl

pub sound_extent-requires : goal.sound_extent-requires
sound_extent-requires c = words_sound c.in-Some.ensures

pub returns : goal.returns
returns c =
    let w = c.in-Some.ensures in
    let a = c.args in
    c.sound_extent.ensures
    ∙ ap (λ (b : List ℕ). sized true (store_in b) a.ignore a.sort a.n) w.0
    ∙ ap (λ (ok : Bool). sized ok (store_in a.store.now) a.ignore a.sort a.n) (sym w.1)
