-- Attributes by their slots: the unignored ones of two runs.
use Rattle.std.specs.Prelude.{ℕ, Bool}
use Rattle.rules.specs.Lists.{same_list}
use Rattle.rules.specs.Shells.{same_attribute}
use Rattle.rules.specs.declared.types.Ignore.{Ignore}
use Rattle.layout.specs.Columns.{Cols}
use Rattle.fragments.specs.Ignoring.{kept_from}

unfoldable pub same_kept : Cols → Ignore → ℕ → ℕ → ℕ → ℕ → Bool
same_kept C ig l el r er = same_list same_attribute (kept_from C ig l el) (kept_from C ig r er)
