-- `put_row` meets its contract: location and attributes, then the present types. Assumes nothing.
use Rattle.fragments.specs.Options.{options_of}
use Prim.Native.Nat.{ℕ}
use native.Mathlib.Omega.{arith}
use mathlib.Core.List.{List, map}
use mathlib.Core.Path.{ap}
use Rattle.rules.specs.Hash.{leaf, count, list_bytes}
use Rattle.rules.specs.Types.{present}
use Rattle.layout.specs.Columns.{columns}
use Rattle.fragments.specs.Index.{list_in}
use Rattle.fragments.specs.Rows.{row_shell}
use Rattle.keys.specs.Put.{place_bytes}
use Rattle.keys.proofs.Shelling.{shell_bytes_lem}
use Rattle.keys.proofs.Putting.{put_then, put_as}
use Rattle.keys.proofs.shell_bytes.put_row.Goals as goal

pub returns : goal.returns
unfolding row_shell
returns c =
    let a = c.args in
    let C = columns a.store.now in
    let o = options_of a.ignore a.index.now in
    put_as (shell_bytes_lem C o a.row)
    (put_then (place_bytes C a.ignore a.row) (list_bytes count leaf (row_shell C o a.row).types) (omega arith)
    c.put_place-at.ensures c.min-rest.ensures
    (put_as (ap (λ (own : List ℕ). list_bytes count leaf (map (present (list_in a.index.now)) own)) c.words-own.ensures) c.put_types.ensures)
    c.saturating_add.ensures)
