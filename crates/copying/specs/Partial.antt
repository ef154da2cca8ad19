-- What is written of a copy, owner by owner in the order of the walk.
use Rattle.std.specs.Prelude.{◌≡◌, ℕ, List, ◌++◌, map, get_or, Option}
use Rattle.std.specs.List.{flat_map}
use Rattle.rules.specs.Store.{Store, regions_of, values_of}
use Rattle.rules.specs.declared.types.Owner.{Owner}
use Rattle.rules.specs.Fragments.{op_owner, block_owner}
use Rattle.rules.specs.Copying.{copied_op, copied_block, copied_value, op_copy}
use Rattle.layout.specs.Columns.{columns}
use Rattle.layout.specs.Reading.{store_in}
use Rattle.layout.specs.Soundness.{Arranged}
use Rattle.mutation.specs.Doing.{Behind}

-- the store with the copies of these owners
unfoldable pub copied_by : Store → ℕ → Option ℕ → List Owner → Store
copied_by s n place ws =
    record {
      ops = s.ops ++ map (copied_op s n place) (flat_map op_owner ws);
      blocks = s.blocks ++ map (copied_block s n) (flat_map block_owner ws);
      regions = s.regions ++ map (λ (r : ℕ). op_copy s n (get_or s.regions r 0)) (flat_map (regions_of s) (flat_map op_owner ws));
      values = s.values ++ map (copied_value s n) (flat_map (values_of s) ws);
    }

-- a buffer with the copies of these owners: laid out, and what marks rest on is as it was
pub record Partial (entry : List ℕ) (n : ℕ) (place : Option ℕ) (ws : List Owner) (b : List ℕ) : Type 0 where
  pub reads : store_in b ≡ copied_by (store_in entry) n place ws
  pub arranged : Arranged b
  pub behind : Behind (columns entry) (columns b)
