-- `owner_row` meets its contract: each field is read off its column. Assumes nothing.
use Prim.Native.Nat.{◌-◌}
use mathlib.Core.Path.{ap, ap₂, ◌∙◌}
use Rattle.layout.specs.Columns.{Cols, at, columns}
use Rattle.layout.proofs.OwnerKeys.{owner_in_lem}
use Rattle.fragments.specs.declared.rows.OwnColumns.{OwnColumns}
use Rattle.fragments.proofs.ByRows.{OwnFits, own_fits, own_row}
use Rattle.fragments.proofs.rows.owner_row.Goals as goal
use Rattle.fragments.proofs.rows.owner_row.Goals.{Start}

-- the owner's columns have its row
fits : (c : Start) → OwnFits c.args.store.now c.requires.sound c.args.owner
fits c = own_fits c.args.store.now c.requires.sound c.args.owner (owner_in_lem (columns c.args.store.now) c.args.owner c.requires.owner_value)

pub at-requires : goal.at-requires
at-requires c =
    let own = fits ((goal.at.at-requires c).Start) in
    record {
      column_lt_column_count = rw c.own_columns-own.ensures own.location;
      n_bound = rw (c.own_columns-own.ensures, c.owner_number-n.ensures) own.in_location;
    }

pub number-requires : goal.number-requires
number-requires c =
    let own = fits ((goal.at.number-requires c).Start) in
    record {
      column_lt_column_count = rw c.own_columns-own.ensures own.first;
      n_bound = rw (c.own_columns-own.ensures, c.owner_number-n.ensures) own.in_first;
    }

pub span-requires : goal.span-requires
span-requires c =
    let own = fits ((goal.at.span-requires c).Start) in
    record {
      first_lt_column_count = rw c.own_columns-own.ensures own.first;
      end_lt_column_count = rw c.own_columns-own.ensures own.end;
      n_bound = rw (c.own_columns-own.ensures, c.owner_number-n.ensures) own.in_first;
      end_bound = rw (c.own_columns-own.ensures, c.owner_number-n.ensures) own.in_end;
      range_rises = rw (c.own_columns-own.ensures, c.owner_number-n.ensures) own.range.rises;
    }

pub returns : goal.returns
returns c =
    let C : Cols = columns c.args.store.now in
    let place = ap₂ (at C) (ap (λ (own : OwnColumns). own.location) c.own_columns-own.ensures) c.owner_number-n.ensures in
    let first = ap₂ (at C) (ap (λ (own : OwnColumns). own.first) c.own_columns-own.ensures) c.owner_number-n.ensures in
    let end = ap₂ (at C) (ap (λ (own : OwnColumns). own.end) c.own_columns-own.ensures) c.owner_number-n.ensures in
    own_row c.args.store.now c.requires.sound c.args.owner (owner_in_lem C c.args.owner c.requires.owner_value) (c.at.ensures ∙ place)
    c.first_slot.ensures c.key_count.ensures (c.number.ensures ∙ first) (c.span.ensures ∙ ap₂ ◌-◌ end first)
