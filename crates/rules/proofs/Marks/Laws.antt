-- The laws after every list of calls, marks set and gone back to and copies among them: the present store is sound, and with fitting arguments its fields
-- are below 2^32. Assumes nothing.
use mathlib.Core.Bool.{true}
use mathlib.Core.List.{List}
use mathlib.Core.Path.{◌≡◌}
use Rattle.rules.specs.Store.{Store, empty_store, sound}
use Rattle.rules.specs.Types.{renamed}
use Rattle.rules.specs.Laws.{LawsOfSound}
use Rattle.rules.specs.MappingLaws.{MappingLawsOfSound, MappingLawsMarked}
use Rattle.rules.specs.Marks.{MarkedCall, unmarked, after_marked}
use Rattle.rules.specs.TypeLaws.{RenamedSound}
use Rattle.rules.specs.KeyLaws.{FilersLaw}
use Rattle.rules.specs.MarkLaws.{AfterMarkedSound, Demand3Marked, LawsMarked, FilersLawMarked}
use Rattle.rules.proofs.Laws.{laws_of_sound}
use Rattle.rules.proofs.MappingLaws.{mapping_laws_of_sound}
use Rattle.rules.proofs.RenamedTypes.Under.{renamed_sound, renamed_fits}
use Rattle.rules.proofs.Keys.Filed.{filers_law}
use Rattle.rules.proofs.Marks.Kept.{now_sound, after_marked_sound, after_marked_fits}

-- the present store after these calls
abbrev present : List MarkedCall → Store
present calls = (after_marked (unmarked empty_store) calls).store

present_sound : (calls : List MarkedCall) → sound (present calls) ≡ true
unfolding AfterMarkedSound
present_sound calls = now_sound (after_marked (unmarked empty_store) calls) (after_marked_sound calls)

pub demand3_marked : Demand3Marked
unfolding Demand3Marked LawsOfSound
demand3_marked calls ig f = laws_of_sound (present calls) (present_sound calls) ig f

pub laws_marked : LawsMarked
unfolding LawsMarked LawsOfSound RenamedSound
laws_marked calls types ig f = laws_of_sound (renamed types (present calls)) (renamed_sound types (present calls) (present_sound calls)) ig f

pub mapping_laws_marked : MappingLawsMarked
unfolding MappingLawsMarked MappingLawsOfSound RenamedSound
mapping_laws_marked calls types ig f = (mapping_laws_of_sound (renamed types (present calls)) (renamed_sound types (present calls) (present_sound calls)) ig f).0

pub filers_law_marked : FilersLawMarked
unfolding FilersLawMarked FilersLaw RenamedSound
filers_law_marked calls fit types h ig f =
    let s = present calls in
    filers_law (renamed types s) (renamed_sound types s (present_sound calls)) (renamed_fits types h s (after_marked_fits calls fit)) ig f
