-- `new_operation` meets its contract: by the call on a sound buffer. Assumes nothing.
use mathlib.Core.Path.{refl}
use Rattle.rules.specs.Marks.{replaces}
use Rattle.layout.specs.Journal.{entries_for}
use Rattle.undo_log.proofs.Unremembered.{adding_call}
use Rattle.undo_log.proofs.adding_calls.new_operation.Goals as goal

pub returns : goal.returns
unfolding replaces entries_for
returns c =
    adding_call c.args.store.now c.requires _ _ _ c.new_operation.ensures refl refl
