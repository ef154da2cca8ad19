-- What there is to take out of a mapping that a comparison was lent empty: how many operations and blocks have an image, and which values
-- can have one.
use Rattle.std.specs.Prelude.{ℕ, ◌+◌, ◌≤◌, Bool, not, List, ◌≡◌, eqb, length, get_or}
use Rattle.rules.specs.Lists.{count_below}
use Rattle.rules.specs.Store.{Store, value_at, max_blocks, max_ops}
use Rattle.rules.specs.declared.types.Owner.{Owner}
use Rattle.rules.specs.declared.types.Owner.TheVariants.{Op as of_op, Block as of_block}
use Rattle.rules.specs.Mapping.{Mapping, no_image}
use Rattle.rules.specs.Answers.{Compared, eq, neq, refused}

-- a number has an image
unfoldable pub mapped : List ℕ → ℕ → Bool
mapped entries n = not (eqb (get_or entries n no_image) no_image)

-- the entry of an operation or a block
unfoldable pub owner_entry : Mapping → Owner → ℕ
owner_entry m (of_op n) = get_or m.ops n no_image
owner_entry m (of_block b) = get_or m.blocks b no_image

-- no more than so many operations and blocks have an image, and no value has one but with its owner
pub record EnteredBy (s : Store) (m : Mapping) (paired : ℕ) : Type 0 where
  pub owners : count_below max_blocks (mapped m.blocks) + count_below max_ops (mapped m.ops) ≤ paired
  pub values : (v : ℕ) → owner_entry m (value_at s v).owner ≡ no_image → get_or m.values v no_image ≡ no_image
  pub beyond : (v : ℕ) → length s.values ≤ v → get_or m.values v no_image ≡ no_image

-- how many pairs an answer counts; a refusal has entered none
unfoldable pub paired_in : Compared → ℕ
paired_in (eq n) = n
paired_in (neq p n) = n
paired_in (refused cause) = 0
