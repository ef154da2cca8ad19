-- `sound_extent` meets its contract: what does not exist is refused, and nothing else is. Assumes nothing.
use mathlib.Core.Path.{refl, sym, ap, ◌∙◌}
use Rattle.rules.specs.Building.{first_failed}
use Rattle.rules.specs.Extents.{extent_is, extent_tests, sized_by, sized}
use Rattle.rules.specs.ExtentLaws.{SizedIs}
use Rattle.rules.proofs.Extents.Laws.{sized_is}
use Rattle.layout.specs.Reading.{store_in}
use Rattle.keys.specs.Extents.{sized_of}
use Rattle.keys.proofs.measuring.sound_extent.Goals as goal

pub returns-then-not-exists : goal.returns-then-not-exists
unfolding sized_of sized sized_by extent_tests first_failed
returns-then-not-exists c = rw (sym c.exists.ensures ∙ c.if-not-exists.true) refl

pub returns : goal.returns
unfolding sized_of SizedIs
returns c =
    ap extent_is c.fragment_extent.ensures
    ∙ sym (sized_is (store_in c.args.store.now) c.requires.ruled c.args.ignore c.args.sort c.args.n (sym c.exists.ensures ∙ c.if-not-exists.false))
