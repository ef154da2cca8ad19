-- The copier's mapping, owner by owner in the order of the walk: each thing that is copied has the next number of its table as image.
use Rattle.std.specs.Prelude.{ℕ, ◌+◌, ◌≤◌, List, length}
use Rattle.std.specs.List.{flat_map}
use Rattle.rules.specs.Store.{Store, values_of, max_ops, max_blocks, max_values}
use Rattle.rules.specs.declared.types.Owner.{Owner}
use Rattle.rules.specs.Fragments.{op_owner, block_owner}
use Rattle.rules.specs.Mapping.{Mapping, enter_all}
use Rattle.layout.specs.Reading.{consecutive}
use Rattle.copying.specs.declared.images.Copied.{Copied}

-- these have the next numbers as images, one after the other
unfoldable pub next_entered : List ℕ → ℕ → List ℕ → List ℕ
next_entered xs next entries = enter_all xs (consecutive next (length xs)) entries

-- entries for these owners and their values
unfoldable pub owners_entered : Store → List Owner → Copied → Mapping → Mapping
owners_entered s ws next m =
    record {
      values = next_entered (flat_map (values_of s) ws) next.values m.values;
      blocks = next_entered (flat_map block_owner ws) next.blocks m.blocks;
      ops = next_entered (flat_map op_owner ws) next.ops m.ops;
    }

-- how many there are once these are copied
unfoldable pub owners_copied : Store → List Owner → Copied → Copied
owners_copied s ws next =
    record {
      ops = next.ops + length (flat_map op_owner ws);
      blocks = next.blocks + length (flat_map block_owner ws);
      values = next.values + length (flat_map (values_of s) ws);
    }

-- a store may have as many
pub record CopiesFit (s : Store) (ws : List Owner) (next : Copied) : Type 0 where
  pub ops : next.ops + length (flat_map op_owner ws) ≤ max_ops
  pub blocks : next.blocks + length (flat_map block_owner ws) ≤ max_blocks
  pub values : next.values + length (flat_map (values_of s) ws) ≤ max_values
