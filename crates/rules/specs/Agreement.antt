-- Demand 2 toward the Rust: where 01's answers are the Rust's (`Rust`, the Rust's own text).
use Rattle.std.specs.Prelude.{ℕ, Bool, true, false, ◌≡◌}
use Rattle.rules.specs.Store.{Store, sound}
use Rattle.rules.specs.Fragments.{exists}
use Rattle.rules.specs.declared.types.Sort.{Sort}
use Rattle.rules.specs.declared.types.Sort.TheVariants.{Op as op, Block as block, Region as region}
use Rattle.rules.specs.declared.types.Ignore.{Ignore}
use Rattle.rules.specs.Mapping.{Mapping}
use Rattle.rules.specs.Comparison.{Pair, unequal, one_longer, Walk, on, ended, standing, compare}
use Rattle.rules.specs.Hash.{hash}
use Rattle.rules.specs.Rust.{EqResult, Eq, FirstNEQOps, FirstNEQRegions, FirstNEQBlocks, Returned, answers, rust_eq, rust_hash}

-- 01's answer in the Rust's words: the verdict with its pair, and the mapping. It is never `no_answer`: where the two agree the Rust's
-- recursion ends
unfoldable pub named_by : Sort → ℕ → ℕ → EqResult
named_by op l r = FirstNEQOps l r
named_by block l r = FirstNEQBlocks l r
named_by region l r = FirstNEQRegions l r

unfoldable pub named : Pair → EqResult
named p = named_by p.sort p.left p.right

unfoldable pub result_of : Walk → EqResult
result_of (on st) = Eq
result_of (ended (unequal p) st) = named p
result_of (ended (one_longer p) st) = named p

unfoldable pub answered : Walk → Returned
answered w = answers (result_of w) (standing w).mapping

-- the walk has met a list that is, where lengths are tested, exactly one longer on the left; it has ended there
unfoldable pub met_one_longer : Walk → Bool
met_one_longer (on st) = false
met_one_longer (ended (unequal p) st) = false
met_one_longer (ended (one_longer p) st) = true

-- "Verdict, named pair, mapping ... equal ... the Rust's wherever no list of blocks or operations is, where the walk tests lengths, exactly
-- one longer on the left"
unfoldable pub ComparesAsTheRust : Type 0
ComparesAsTheRust =
    (s : Store) → sound s ≡ true → (ig : Ignore) (f : Sort) (l r : ℕ) (m : Mapping)
    → met_one_longer (compare s ig f l r m) ≡ false
    → rust_eq s ig f l r m ≡ answered (compare s ig f l r m)

-- the hash everywhere
unfoldable pub HashesAsTheRust : Type 0
HashesAsTheRust = (s : Store) → sound s ≡ true → (ig : Ignore) (f : Sort) (n : ℕ) → exists s f n ≡ true → rust_hash s ig f n ≡ hash s ig f n
