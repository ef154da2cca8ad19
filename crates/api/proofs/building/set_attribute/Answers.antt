-- `set_attribute` meets its contract: by the soundness check, and by the call on a lent buffer. Assumes nothing.
use mathlib.Core.Path.{◌≡◌, ap}
use Rattle.std.proofs.Common.{rules}
use Rattle.std.specs.Prelude as std
use Rattle.rules.specs.Building.{set_attribute}
use Rattle.rules.specs.Marks.{build}
use Rattle.rules.specs.declared.types.Cause.TheVariants as causes
use Rattle.mutation.specs.Types.{done_of}
use Rattle.api.proofs.BuildingAnswers.{turned_down, taken_over}
use Rattle.validation.proofs.Offering.{not_given, given}
use Rattle.api.proofs.building.set_attribute.Goals as goal

pub returns-in_err-words : goal.returns-in_err-words
unfolding done_of
returns-in_err-words c =
    let none : c.sound_words_mut.result ≡ std.None = search rules in
    let told : c.from_residual.result ≡ std.Err causes.NotSound = search rules in
    turned_down c.args.store.now (build (set_attribute c.args.owner c.args.attribute)) _ (not_given c.args.store.now c.sound_words_mut.ensures.cases none) (ap done_of told)

pub set_attribute-requires : goal.set_attribute-requires
set_attribute-requires c =
    let some : c.sound_words_mut.result ≡ std.Some c.in_ok-words.words = search rules in
    (given c.args.store.now c.sound_words_mut.ensures.cases some).1

pub returns : goal.returns
returns c =
    let some : c.sound_words_mut.result ≡ std.Some c.in_ok-words.words = search rules in
    let w = given c.args.store.now c.sound_words_mut.ensures.cases some in
    taken_over w.0 (build (set_attribute c.args.owner c.args.attribute)) _ _ w.1 c.set_attribute.ensures
