-- What is left of a run of slots that is walked through.
use Rattle.std.specs.Prelude.{ℕ, List}
use Rattle.layout.specs.Columns.{columns}
use Rattle.fragments.specs.Ignoring.{kept_slots}
use Rattle.fragments.specs.declared.kept_slots.KeptSlots.{KeptSlots}

abbrev pub slots_left : KeptSlots → List ℕ
slots_left walk = kept_slots (columns walk.store.now) walk.ignore walk.at walk.end
