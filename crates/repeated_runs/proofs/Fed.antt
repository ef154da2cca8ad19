-- What an operation feeds of itself, from the start of the hash on, is its shell hash. Assumes nothing.
use Rattle.std.proofs.Common.{◌≡◌, ℕ, refl}
use Rattle.rules.specs.Store.{Store, op_at, regions_of}
use Rattle.rules.specs.declared.types.Owner.TheVariants.{Op as of_op}
use Rattle.rules.specs.Types.{renamed}
use Rattle.rules.specs.Hash.{fnv_start, fnv_from, fnv, feeds, head_bytes}
use Rattle.rules.specs.Runs.{shell_hash}
use Rattle.fragments.specs.Options.{Options, renamed_under}
use Rattle.hashing.specs.Walked.{owner_bytes}

-- the types of values may be renamed; the head is the same
pub shell_fed : (s : Store) (o : Options) (n : ℕ) → fnv_from fnv_start (owner_bytes s o (of_op n)) ≡ shell_hash (renamed_under o s) o.ignore n
unfolding owner_bytes shell_hash fnv feeds head_bytes renamed op_at regions_of
shell_fed s o n = refl
