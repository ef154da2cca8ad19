-- The owner of attributes as the code has it, and where its count of keys stands.
use Rattle.std.specs.Prelude.{ℕ}
use Rattle.rules.specs.Store as rules
use Rattle.rules.specs.declared.types.Owner.TheVariants.{Op as of_op, Block as of_block}
use Rattle.layout.specs.Columns.{Cols, at, op_attributes, block_attributes}
use Rattle.rules.specs.declared.types.Owner.{Owner}

-- the column of attribute counts of operations or of blocks, and the owner's number
unfoldable pub count_column : Owner → ℕ
count_column (of_op n) = op_attributes
count_column (of_block b) = block_attributes

unfoldable pub owner_number : Owner → ℕ
owner_number (of_op n) = n
owner_number (of_block b) = b

unfoldable pub key_count : Cols → Owner → ℕ
key_count C w = at C (count_column w) (owner_number w)
