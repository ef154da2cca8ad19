-- What is proved of hashes, beside the four laws.
use Rattle.std.specs.Prelude.{ℕ, true, ◌≡◌}
use mathlib.Core.List.{List}
use Rattle.rules.specs.Store.{Store, sound}
use Rattle.rules.specs.declared.types.Sort.{Sort}
use Rattle.rules.specs.declared.types.Ignore.{Ignore}
use Rattle.rules.specs.Types.{types_hold, renamed}
use Rattle.rules.specs.Hash.{hash}
use Rattle.rules.specs.Answers.{hash_is, hashed}
use Rattle.rules.specs.Laws.{In}
use Rattle.rules.specs.Form.{canonical}

-- the hash is one of the form: `canonical_hash`
unfoldable pub CanonicalHash : Type 0
CanonicalHash = (s : Store) (ig : Ignore) (f : Sort) (a b : ℕ) → canonical s ig f a ≡ canonical s ig f b → hash s ig f a ≡ hash s ig f b

-- a hash of a fragment that exists is given: `hashed_is`
unfoldable pub HashedIs : Type 0
HashedIs =
    (s : Store) → sound s ≡ true → (types : List ℕ) → types_hold types ≡ true → (ig : Ignore) (f : Sort) (n : ℕ) → In s f n
    → hashed true s types ig f n ≡ hash_is (hash (renamed types s) ig f n)
