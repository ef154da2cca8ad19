-- What steps of a walk define is numbered, step by step.
use Rattle.std.specs.Prelude.{◌≡◌, ℕ, ◌+◌, ◌≤◌, List, [], ◌∷◌, length}
use Rattle.std.specs.List.{flat_map}
use Rattle.rules.specs.Store.{Store, values_of, max_values, max_blocks}
use Rattle.rules.specs.Fragments.{Step, step_defines, block_owner}
use Rattle.rules.specs.Hash.{Numbering, numbered}
use Rattle.fragments.specs.Words.{numbers_length, values_numbered, blocks_numbered, Stands}

-- steps one after the other
unfoldable pub numbered_all : Store → List Step → Numbering → Numbering
numbered_all s [] N = N
numbered_all s (x ∷ xs) N = numbered_all s xs (numbered s x N)

-- the values and the blocks that steps define
unfoldable pub values_in : Store → List Step → List ℕ
values_in s xs = flat_map (values_of s) (flat_map step_defines xs)

unfoldable pub blocks_in : List Step → List ℕ
blocks_in xs = flat_map block_owner (flat_map step_defines xs)

-- what these steps define has got the next numbers
pub record Numbers (s : Store) (xs : List Step) (before after : List ℕ) : Type 0 where
  pub long : length after ≡ length before
  pub stands : (N : Numbering) → Stands s N before → Stands s (numbered_all s xs N) after
  pub values : values_numbered after ≡ values_numbered before + length (values_in s xs)
  pub blocks : blocks_numbered after ≡ blocks_numbered before + length (blocks_in xs)

-- all words are there, and numbers are left for what these steps define
pub record DefinitionsFit (s : Store) (xs : List Step) (numbers : List ℕ) : Type 0 where
  pub long : length numbers ≡ numbers_length
  pub values : values_numbered numbers + length (values_in s xs) ≤ max_values
  pub blocks : blocks_numbered numbers + length (blocks_in xs) ≤ max_blocks
