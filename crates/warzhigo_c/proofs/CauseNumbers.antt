-- The number of a cause stands for it. Assumes nothing.
use Rattle.std.specs.Prelude.{◌≡◌}
use mathlib.Core.Path.{refl}
use Rattle.rules.specs.Causes.{number_of}
use Rattle.rules.specs.declared.types.Cause.{Cause}
use Rattle.rules.specs.declared.types.Cause.TheVariants as causes
use Rattle.warzhigo_c.specs.Codes.{cause_from}

pub cause_back : (c : Cause) → cause_from (number_of c) ≡ c
unfolding cause_from
cause_back causes.NotSound = refl
cause_back causes.NotThere = refl
cause_back causes.StoreFull = refl
cause_back causes.OwnerFull = refl
cause_back causes.TooDeep = refl
cause_back causes.UnknownKind = refl
cause_back causes.NoOperand = refl
cause_back causes.BadMapping = refl
cause_back causes.BadHeader = refl
cause_back causes.BadLine = refl
cause_back causes.BadLength = refl
cause_back causes.NoRoom = refl
cause_back causes.BadTypes = refl
cause_back causes.BadRunLength = refl
cause_back causes.NoMark = refl
cause_back causes.JournalFull = refl
cause_back causes.PlacedInside = refl
cause_back causes.NamedEarly = refl
cause_back causes.InherentLine = refl
