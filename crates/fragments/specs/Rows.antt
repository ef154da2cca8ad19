-- What an operation or a block has by itself, read off its row: what is compared of two, and what is hashed of one.
use Rattle.std.specs.Prelude.{ℕ, ◌+◌, ◌≤◌, List, map, ◌≡◌, length}
use Rattle.rules.specs.Store.{Store, op_at, regions_of, values_of, max_values}
use Rattle.rules.specs.declared.types.Owner.{Owner}
use Rattle.rules.specs.declared.types.Owner.TheVariants.{Op as of_op, Block as of_block}
use Rattle.rules.specs.Shells.{Shell, shell_of, unignored_location}
use Rattle.rules.specs.Types.{present}
use Rattle.layout.specs.Columns.{Cols, op_location, op_result_first, op_result_end, block_location, block_argument_first, block_argument_end, value_type, slot_count}
use Rattle.layout.specs.Reading.{slice, store_of, consecutive}
use Rattle.fragments.specs.Ignoring.{kept_from}
use Rattle.fragments.specs.Options.{Options, renamed_under}
use Rattle.fragments.specs.declared.rows.OwnColumns.{OwnColumns}
use Rattle.fragments.specs.declared.types.ShellRow.{ShellRow}
use Rattle.fragments.specs.declared.types.OpHeader.{OpHeader}

-- its slots and values are in the columns
pub record RowFits (C : Cols) (r : ShellRow) : Type 0 where
  pub slots : r.slot + r.attributes ≤ slot_count
  pub values : r.value + r.values ≤ max_values

-- the types of its values, as the store has them
abbrev pub row_types : Cols → ShellRow → List ℕ
row_types C r = slice (C value_type) r.value (r.value + r.values)

-- the shell that is read off it
unfoldable pub row_shell : Cols → Options → ShellRow → Shell
row_shell C o r =
    record {
      location = unignored_location o.ignore r.location;
      attributes = kept_from C o.ignore r.slot (r.slot + r.attributes);
      types = map (present o.types) (row_types C r);
    }

-- the columns of an operation's location and results, or of a block's location and arguments
unfoldable pub own_columns : Owner → OwnColumns
own_columns (of_op n) = record { location = op_location; first = op_result_first; end = op_result_end }
own_columns (of_block m) = record { location = block_location; first = block_argument_first; end = block_argument_end }

-- the row is that of an operation or a block
pub record RowOf (C : Cols) (w : Owner) (r : ShellRow) : Type 0 where
  pub fits : RowFits C r
  pub shell : (o : Options) → shell_of (renamed_under o (store_of C)) o.ignore w ≡ row_shell C o r
  pub values : values_of (store_of C) w ≡ consecutive r.value r.values

-- what an operation has besides its row
pub record HeadOf (s : Store) (n : ℕ) (h : OpHeader) : Type 0 where
  pub kind : h.kind ≡ (op_at s n).kind
  pub regions : h.regions ≡ length (regions_of s n)
  pub successors : h.successors ≡ length (op_at s n).successors
  pub operands : h.operands ≡ length (op_at s n).operands
