-- The key of an operation without regions is what it is and then its names, and all that is numbered by then are its results. Assumes nothing.
use Prim.Native.Nat.{ℕ}
use mathlib.Core.List.{List, [], ◌∷◌, ◌++◌, append-nil}
use mathlib.Core.Path.{◌≡◌, sym, ap, ◌∙◌}
use Rattle.rules.specs.Store.{Store, op_at, regions_of, values_of}
use Rattle.rules.specs.declared.types.Owner.TheVariants.{Op as of_op}
use Rattle.rules.specs.Fragments.{Step, shell, names, block_owner}
use Rattle.rules.specs.declared.types.Sort.TheVariants.{Op as op}
use Rattle.rules.specs.Hash.{no_numbers, numbered, feeds, all_bytes}
use Rattle.rules.specs.Types.{renamed}
use Rattle.rules.specs.Keys.{key}
use Rattle.rules.proofs.RenamedTypes.Renamed.{values_renamed, steps_renamed}
use Rattle.fragments.specs.Options.{Options, renamed_under}
use Rattle.fragments.proofs.Lone.{two_steps}
use Rattle.keys.specs.Put.{owner_bytes}
use Rattle.keys.specs.Written.{names_bytes, steps_bytes}

module _ (s : Store) (o : Options) (n : ℕ) where
  -- what it uses
  abbrev pub own_uses : List ℕ
  own_uses = names_bytes (values_of s (of_op n)) (op_at s n).operands ++ names_bytes [] (op_at s n).successors

  two_bytes : steps_bytes s o (shell (of_op n) ∷ names n ∷ []) no_numbers ≡ owner_bytes s o (of_op n) ++ own_uses
  unfolding renamed op_at all_bytes feeds names_bytes numbered no_numbers block_owner owner_bytes
  two_bytes =
      ap (λ (vs : List ℕ). owner_bytes s o (of_op n) ++ ((names_bytes vs (op_at s n).operands ++ names_bytes [] (op_at s n).successors) ++ [])) (values_renamed o.types s (of_op n))
      ∙ ap (λ (bs : List ℕ). owner_bytes s o (of_op n) ++ bs) (append-nil own_uses)

  pub alone_bytes : regions_of s n ≡ [] → owner_bytes s o (of_op n) ++ own_uses ≡ key (renamed_under o s) o.ignore op n
  unfolding key
  alone_bytes none =
      sym (ap (λ (xs : List Step). steps_bytes s o xs no_numbers) (steps_renamed o.types s op n ∙ two_steps s n none) ∙ two_bytes)
