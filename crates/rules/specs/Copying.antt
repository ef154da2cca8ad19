-- Order 11, "Copying an operation": the operation with all inside it, made once more. Each thing that it defines is copied in the order of the
-- walk, which is the order in which a comparison enters pairs, and gets the next number of its table; an operation's regions come with it.
use Rattle.rules.specs.declared.types.Cause.{Cause}
use Rattle.rules.specs.declared.types.Cause.TheVariants.{NotThere, StoreFull, TooDeep, PlacedInside, NamedEarly}
use Rattle.std.specs.Prelude.{ℕ, ◌+◌, Bool, true, cond, not, ◌&&◌, ◌||◌, List, [], ◌∷◌, ◌++◌, map, eqb, length, get_or, Option, None, Some, is_some}
use Rattle.std.specs.List.{list_all, flat_map}
use Rattle.rules.specs.Lists.{position}
use Rattle.rules.specs.Store.{Store, Op, Block, Value, op_at, block_at, value_at, parent_of, regions_of, op_exists, parent_exists, nesting_holds, totals_hold}
use Rattle.rules.specs.declared.types.Owner.{Owner}
use Rattle.rules.specs.declared.types.Owner.TheVariants.{Op as of_op, Block as of_block}
use Rattle.rules.specs.Fragments.{Step, shell, names, counted, steps, fragment_ops, defines_blocks, defines_values}
use Rattle.rules.specs.declared.types.Sort.TheVariants.{Op as op}
use Rattle.rules.specs.Hash.{Numbering, no_numbers, numbered}
use Rattle.rules.specs.Mapping.{Mapping, empty_mapping, enter_all}

-- ---- numbers

-- the operations that are copied, in the order in which the copies get their numbers: that in which a comparison enters pairs
abbrev pub copied_ops : Store → ℕ → List ℕ
copied_ops s n = fragment_ops s op n

-- the regions of what is copied, operation by operation
unfoldable pub copied_regions : Store → ℕ → List ℕ
copied_regions s n = flat_map (regions_of s) (copied_ops s n)

unfoldable pub or_next : Option ℕ → ℕ → ℕ → ℕ
or_next None next n = n
or_next (Some i) next n = next + i

-- of those that are copied, the one at place i gets the i-th next number; any other keeps its own
unfoldable pub renumbered : List ℕ → ℕ → ℕ → ℕ
renumbered inside next n = or_next (position n inside) next n

unfoldable pub op_copy : Store → ℕ → ℕ → ℕ
op_copy s n m = renumbered (copied_ops s n) (length s.ops) m

unfoldable pub block_copy : Store → ℕ → ℕ → ℕ
block_copy s n b = renumbered (defines_blocks s op n) (length s.blocks) b

unfoldable pub region_copy : Store → ℕ → ℕ → ℕ
region_copy s n r = renumbered (copied_regions s n) (length s.regions) r

unfoldable pub value_copy : Store → ℕ → ℕ → ℕ
value_copy s n v = renumbered (defines_values s op n) (length s.values) v

unfoldable pub owner_copy : Store → ℕ → Owner → Owner
owner_copy s n (of_op m) = of_op (op_copy s n m)
owner_copy s n (of_block b) = of_block (block_copy s n b)

-- ---- the store with the copy

unfoldable pub inner : (ℕ → ℕ) → Option ℕ → Option ℕ
inner f None = None
inner f (Some b) = Some (f b)

-- the copy itself goes to the end of the named block, or has no parent; what is inside it goes with its block
unfoldable pub parent_copy : Store → ℕ → Option ℕ → ℕ → Option ℕ
parent_copy s n place m = cond (eqb m n) place (inner (block_copy s n) (parent_of s m))

-- names of what is defined inside become the copy's, and other names are kept; so are locations, and attributes with their flags
unfoldable pub copied_op : Store → ℕ → Option ℕ → ℕ → Op
copied_op s n place m =
    record {
      kind = (op_at s m).kind;
      parent = parent_copy s n place m;
      location = (op_at s m).location;
      operands = map (value_copy s n) (op_at s m).operands;
      successors = map (block_copy s n) (op_at s m).successors;
      attributes = (op_at s m).attributes;
    }

unfoldable pub copied_block : Store → ℕ → ℕ → Block
copied_block s n b =
    record {
      region = region_copy s n (block_at s b).region;
      location = (block_at s b).location;
      attributes = (block_at s b).attributes;
    }

unfoldable pub copied_value : Store → ℕ → ℕ → Value
copied_value s n v = record { type = (value_at s v).type; owner = owner_copy s n (value_at s v).owner }

unfoldable pub copied : Store → ℕ → Option ℕ → Store
copied s n place =
    record {
      ops = s.ops ++ map (copied_op s n place) (copied_ops s n);
      blocks = s.blocks ++ map (copied_block s n) (defines_blocks s op n);
      regions = s.regions ++ map (λ (r : ℕ). op_copy s n (get_or s.regions r 0)) (copied_regions s n);
      values = s.values ++ map (copied_value s n) (defines_values s op n);
    }

-- what the lent mapping becomes: each thing that is copied, to its copy, and nothing else
unfoldable pub copy_mapping : Store → ℕ → Mapping
copy_mapping s n =
    record {
      values = enter_all (defines_values s op n) (map (value_copy s n) (defines_values s op n)) empty_mapping.values;
      blocks = enter_all (defines_blocks s op n) (map (block_copy s n) (defines_blocks s op n)) empty_mapping.blocks;
      ops = enter_all (fragment_ops s op n) (map (op_copy s n) (fragment_ops s op n)) empty_mapping.ops;
    }

-- ---- the tests

unfoldable pub has_place : List ℕ → ℕ → Bool
has_place xs n = is_some (position n xs)

-- 18: the block lies inside the original
unfoldable pub placed_outside : Store → ℕ → Option ℕ → Bool
placed_outside s n None = true
placed_outside s n (Some b) = not (has_place (defines_blocks s op n) b)

-- what is inside is named only once it has a number
unfoldable pub numbered_names : List ℕ → List ℕ → List ℕ → Bool
numbered_names inside sofar ns = list_all (λ (v : ℕ). not (has_place inside v) || has_place sofar v) ns

unfoldable pub step_in_time : Store → ℕ → Step → Numbering → Bool
step_in_time s n (shell w) N = true
step_in_time s n (names m) N =
    numbered_names (defines_values s op n) N.values (op_at s m).operands
    && numbered_names (defines_blocks s op n) N.blocks (op_at s m).successors
step_in_time s n (counted k) N = true

-- 19: "an operand or successor names something inside that the walk hasn't numbered yet"
unfoldable pub in_time : Store → ℕ → List Step → Numbering → Bool
in_time s n [] N = true
in_time s n (x ∷ xs) N = step_in_time s n x N && in_time s n xs (numbered s x N)

-- 5, for the whole copy
unfoldable pub copy_nests : Store → ℕ → Option ℕ → Bool
copy_nests s n place = list_all (λ (m : ℕ). nesting_holds (copied s n place) (parent_copy s n place m)) (fragment_ops s op n)

-- the causes in order: 1 and 8, which are of what is lent, stand ahead of these
unfoldable pub copy_tests : Store → ℕ → Option ℕ → List (Bool × Cause)
copy_tests s n place =
    (op_exists s n && parent_exists s place, NotThere)
    ∷ (placed_outside s n place, PlacedInside)
    ∷ (in_time s n (steps s op n) no_numbers, NamedEarly)
    ∷ (copy_nests s n place, TooDeep)
    ∷ (totals_hold (copied s n place), StoreFull)
    ∷ []
