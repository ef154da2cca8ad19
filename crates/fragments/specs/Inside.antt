-- What tells whether a thing lies inside a fragment, on the way up from it.
use Rattle.std.specs.Prelude.{ℕ, Bool, false, eqb, get_or}
use Rattle.rules.specs.Store.{Store, block_at, op_around}
use Rattle.rules.specs.declared.types.Sort.{Sort}
use Rattle.rules.specs.declared.types.Sort.TheVariants.{Op as op, Block as block, Region as region}

-- the operation that the fragment is, or that is next around it: those inside have larger numbers
unfoldable pub outer_op : Store → Sort → ℕ → ℕ
outer_op s op n = n
outer_op s block n = op_around s n
outer_op s region n = get_or s.regions n 0

-- operation m is the fragment
unfoldable pub is_itself : Sort → ℕ → ℕ → Bool
is_itself op n m = eqb m n
is_itself block n m = false
is_itself region n m = false

-- block b is the fragment, or one of the region's own
unfoldable pub is_outermost : Store → Sort → ℕ → ℕ → Bool
is_outermost s op n b = false
is_outermost s block n b = eqb b n
is_outermost s region n b = eqb (block_at s b).region n
