-- Copies and twins do the same work as what they are copies and twins of.
use Rattle.std.specs.Prelude.{ℕ, true, List, length, ◌≡◌, Option, Some}
use Rattle.rules.specs.Store.{Store, sound}
use Rattle.rules.specs.declared.types.Sort.TheVariants.{Op as op}
use Rattle.rules.specs.declared.types.Ignore.{Ignore}
use Rattle.rules.specs.Types.{renamed}
use Rattle.rules.specs.Laws.{In}
use Rattle.rules.specs.MappingLaws.{filed}
use Rattle.rules.specs.Copying.{copied, copy_mapping}
use Rattle.rules.specs.CopyLaws.{Copies}
use Rattle.rules.specs.Grouping.{twin_of}
use Rattle.semantics.specs.SameWork.{WorkAlike}

module _ (Data World Mind : Type 0) where
  -- an accepted copy does the same work as its original, by the mapping that the copier gives: in the store with the copy, under every
  -- ignore rule, whatever types are renamed
  unfoldable pub CopyWork : Type 0
  CopyWork =
      (s : Store) → sound s ≡ true → (n : ℕ) (place : Option ℕ) → Copies s n place → (types : List ℕ) (ig : Ignore)
      → WorkAlike Data World Mind (renamed types (copied s n place)) ig op n (length s.ops) (copy_mapping s n)

  -- an operation's twin does the same work as it, by the mapping that the comparison leaves with the twin on the left
  unfoldable pub TwinWork : Type 0
  TwinWork =
      (s : Store) → sound s ≡ true → (types : List ℕ) (ig : Ignore) (n m : ℕ) → In s op n → twin_of (renamed types s) ig n ≡ Some m
      → WorkAlike Data World Mind (renamed types s) ig op m n (filed (renamed types s) ig op m n)
