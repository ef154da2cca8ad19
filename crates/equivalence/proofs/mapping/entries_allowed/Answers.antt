-- `entries_allowed` meets its contract: the entries of numbers that exist are tested, and then that the others have no image. Assumes nothing.
use Rattle.std.proofs.Common.{sym, ◌∙◌}
use Rattle.equivalence.proofs.Chained.{and_goes, and_stops}
use Rattle.equivalence.proofs.MappingEntries.{tables_parts}
use Rattle.equivalence.proofs.mapping.entries_allowed.Goals as goal

pub returns-then-images_allowed : goal.returns-then-images_allowed
returns-then-images_allowed c =
    and_goes _ _ (sym c.images_allowed.ensures ∙ c.if-images_allowed.true) c.none_mapped.ensures
    ∙ sym (tables_parts c.args.count c.args.entries.now _ c.min-n.ensures)

pub returns-else-images_allowed : goal.returns-else-images_allowed
returns-else-images_allowed c =
    and_stops _ _ (sym c.images_allowed.ensures ∙ c.if-images_allowed.false) c.if-images_allowed.false
    ∙ sym (tables_parts c.args.count c.args.entries.now _ c.min-n.ensures)
