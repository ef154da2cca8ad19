-- What is compared of two operations or two blocks by themselves, by what is read off their rows.
use Rattle.std.specs.Prelude.{◌+◌, Bool, ◌&&◌, [], ◌∷◌, map, eqb}
use Rattle.rules.specs.Lists.{every, same_list}
use Rattle.rules.specs.Shells.{unignored_location, same_attribute, same_location}
use Rattle.rules.specs.declared.types.Ignore.{Ignore}
use Rattle.rules.specs.Types.{present}
use Rattle.layout.specs.Columns.{Cols}
use Rattle.fragments.specs.Options.{Options}
use Rattle.fragments.specs.Rows.{row_shell, row_types}
use Rattle.fragments.specs.declared.types.OpHeader.{OpHeader}
use Rattle.fragments.specs.declared.types.ShellRow.{ShellRow}
use Rattle.equivalence.specs.Slots.{same_kept}

unfoldable pub same_heads : OpHeader → OpHeader → Bool
same_heads l r =
    every
    (eqb l.kind r.kind
    ∷ eqb l.regions r.regions
    ∷ eqb l.successors r.successors
    ∷ eqb l.operands r.operands
    ∷ [])

-- without types and attributes
unfoldable pub same_bare_rows : Ignore → ShellRow → ShellRow → Bool
same_bare_rows ig l r =
    every (eqb l.values r.values ∷ same_location (unignored_location ig l.location) (unignored_location ig r.location) ∷ [])

-- types as the store has them, and no attributes
unfoldable pub same_plainly : Cols → ShellRow → ShellRow → Bool
same_plainly C l r = (eqb l.attributes 0 && eqb r.attributes 0) && same_list eqb (row_types C l) (row_types C r)

-- types and attributes
unfoldable pub same_closely : Cols → Options → ShellRow → ShellRow → Bool
same_closely C o l r =
    every
    (same_list eqb (map (present o.types) (row_types C l)) (map (present o.types) (row_types C r))
    ∷ same_kept C o.ignore l.slot (l.slot + l.attributes) r.slot (r.slot + r.attributes)
    ∷ [])

unfoldable pub same_rows : Cols → Options → ShellRow → ShellRow → Bool
same_rows C o l r =
    every
    (eqb l.values r.values
    ∷ same_location (row_shell C o l).location (row_shell C o r).location
    ∷ same_list same_attribute (row_shell C o l).attributes (row_shell C o r).attributes
    ∷ same_list eqb (row_shell C o l).types (row_shell C o r).types
    ∷ [])
