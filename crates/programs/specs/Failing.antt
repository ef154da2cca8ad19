-- What a program has written where it failed.
use Rattle.std.specs.Prelude.{ℕ, List, Option}
use Rattle.std.specs.Io.KnownBytes.{Keeps}
use Rattle.programs.specs.declared.failing.Failure.{Failure}
use Rattle.programs.specs.declared.failing.Failure.TheVariants.{Input, Output}

-- nothing, where its input could not be read
abbrev pub KeepsUnread : Failure → Option (List ℕ) → Option (List ℕ) → Type 0
KeepsUnread (Input e) old new = Keeps old new
KeepsUnread (Output e) old new = Unit {0}
