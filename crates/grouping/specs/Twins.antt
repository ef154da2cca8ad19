-- A store's operations by their hashes, which are chained by buckets.
use Rattle.std.specs.Prelude.{◌≡◌, ℕ, ◌<◌, List, length, slice_index}
use Rattle.rules.specs.Store.{Store}
use Rattle.rules.specs.declared.types.Sort.TheVariants.{Op as op}
use Rattle.rules.specs.Hash.{hash}
use Rattle.fragments.specs.Options.{Options, renamed_under}
use Rattle.hashing.specs.Chains.{Chained}
use Rattle.hashing.specs.declared.chains.Chains.{Chains}

-- each operation's hash, by its number
pub record HashesOf (s : Store) (o : Options) (hashes : List ℕ) : Type 0 where
  pub many : length hashes ≡ length s.ops
  pub each : (n : ℕ) → n < length s.ops → slice_index hashes n ≡ hash (renamed_under o s) o.ignore op n

pub record Hashed (s : Store) (o : Options) (hashes : List ℕ) (chains : Chains) : Type 0 where
  pub hashes_of : HashesOf s o hashes
  pub chained : Chained hashes chains
