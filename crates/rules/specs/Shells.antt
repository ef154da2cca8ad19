-- 01, "Leaves": "Kinds, types, locations, keys and attributes are numbers and equal when the numbers are". The ignore rule, and the
-- shell of an operation or a block: what two of them are compared by, apart from what they name, and what the hash feeds of them.
use Rattle.std.specs.Prelude.{ℕ, ◌/◌, ◌%◌, ◌^◌, Bool, true, false, cond, not, ◌&&◌, List, [], ◌∷◌, map, eqb, length, Option, None, Some}
use Rattle.rules.specs.Lists.{every, same_bool, same_list}
use Rattle.std.specs.List.{filter}
use Rattle.rules.specs.Store.{Store, op_at, block_at, type_of, regions_of, values_of}
use Rattle.rules.specs.declared.types.Attribute.{Attribute}
use Rattle.rules.specs.declared.types.Ignore.{Ignore}
use Rattle.rules.specs.declared.types.Owner.{Owner}
use Rattle.rules.specs.declared.types.Owner.TheVariants.{Op as of_op, Block as of_block}

-- "an attribute is ignored when the bit of its kind (bit 0 the lowest) is set, whatever its key"; "An inherent one is always counted, compared
-- and hashed."
unfoldable pub ignored : Ignore → Attribute → Bool
ignored ig a = not a.inherent && eqb ((ig.bits / 2 ^ a.kind) % 2) 1

-- "Ignored attributes are neither counted nor compared."
unfoldable pub unignored : Ignore → List Attribute → List Attribute
unignored ig as' = filter (λ (a : Attribute). not (ignored ig a)) as'

unfoldable pub unignored_location : Ignore → ℕ → Option ℕ
unignored_location ig l = cond ig.locations None (Some l)

pub record Shell : Type 0 where
  pub location : Option ℕ
  pub attributes : List Attribute
  pub types : List ℕ

unfoldable pub shell_of : Store → Ignore → Owner → Shell
shell_of s ig (of_op n) =
    record {
      location = unignored_location ig (op_at s n).location;
      attributes = unignored ig (op_at s n).attributes;
      types = map (type_of s) (values_of s (of_op n));
    }
shell_of s ig (of_block b) =
    record {
      location = unignored_location ig (block_at s b).location;
      attributes = unignored ig (block_at s b).attributes;
      types = map (type_of s) (values_of s (of_block b));
    }

-- "kind, numbers of regions, successors, operands, results"; of a block the "number of arguments"
unfoldable pub counts_of : Store → Owner → List ℕ
counts_of s (of_op n) =
    (op_at s n).kind
    ∷ length (regions_of s n)
    ∷ length (op_at s n).successors
    ∷ length (op_at s n).operands
    ∷ length (values_of s (of_op n))
    ∷ []
counts_of s (of_block b) = length (values_of s (of_block b)) ∷ []

-- "The flag takes part in equality"
unfoldable pub same_attribute : Attribute → Attribute → Bool
same_attribute a b =
    every
    (eqb a.key b.key
    ∷ eqb a.kind b.kind
    ∷ eqb a.content b.content
    ∷ same_bool a.inherent b.inherent
    ∷ [])

unfoldable pub same_location : Option ℕ → Option ℕ → Bool
same_location None None = true
same_location None (Some b) = false
same_location (Some a) None = false
same_location (Some a) (Some b) = eqb a b

-- "kind, numbers of regions, successors, operands, results; locations unless ignored; attributes; result types", and
-- "number of arguments, location, attributes, argument types"
unfoldable pub same_shells : Store → Ignore → Owner → Owner → Bool
same_shells s ig l r =
    every
    (same_list eqb (counts_of s l) (counts_of s r)
    ∷ same_location (shell_of s ig l).location (shell_of s ig r).location
    ∷ same_list same_attribute (shell_of s ig l).attributes (shell_of s ig r).attributes
    ∷ same_list eqb (shell_of s ig l).types (shell_of s ig r).types
    ∷ [])
