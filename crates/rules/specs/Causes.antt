-- The numbers of causes, and the cause of a refusal.
use Rattle.std.specs.Prelude.{ℕ, Bool, eqb, Option, None, Some, Result, Ok, Err}
use Rattle.rules.specs.declared.types.Cause.{Cause}
use Rattle.rules.specs.declared.types.Cause.TheVariants as causes

-- the number of a cause, by which a listing and another language are told it
abbrev pub number_of : Cause → ℕ
number_of causes.NotSound = 1
number_of causes.NotThere = 2
number_of causes.StoreFull = 3
number_of causes.OwnerFull = 4
number_of causes.TooDeep = 5
number_of causes.UnknownKind = 6
number_of causes.NoOperand = 7
number_of causes.BadMapping = 8
number_of causes.BadHeader = 9
number_of causes.BadLine = 10
number_of causes.BadLength = 11
number_of causes.NoRoom = 13
number_of causes.BadTypes = 14
number_of causes.BadRunLength = 15
number_of causes.NoMark = 16
number_of causes.JournalFull = 17
number_of causes.PlacedInside = 18
number_of causes.NamedEarly = 19
number_of causes.InherentLine = 20

abbrev pub same_cause : Cause → Cause → Bool
same_cause a b = eqb (number_of a) (number_of b)

-- the cause of a refusal, if there is one
unfoldable pub cause_of : {A : Type 0} → Result A Cause → Option Cause
cause_of (Ok a) = None
cause_of (Err e) = Some e
