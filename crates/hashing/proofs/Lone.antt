-- An operation without regions feeds what it is and then its names, and all that is numbered by then are its results. Assumes nothing.
use Rattle.std.proofs.Common.{◌≡◌, ℕ, List, [], ◌∷◌, ◌++◌, sym, ap, ◌∙◌, append_assoc, append-nil}
use Rattle.std.specs.List.{flat_map}
use Rattle.rules.specs.Store.{Store, op_at, regions_of, values_of}
use Rattle.rules.specs.declared.types.Owner.TheVariants.{Op as of_op}
use Rattle.rules.specs.Fragments.{Step, shell, names, block_owner, steps}
use Rattle.rules.specs.declared.types.Sort.TheVariants.{Op as op}
use Rattle.rules.specs.Types.{renamed}
use Rattle.rules.specs.Hash.{fnv_start, fnv_from, fnv, no_numbers, numbered, head_bytes, feeds, uncounted, list_bytes, all_bytes, hash}
use Rattle.rules.proofs.Form.Hashes.{fnv_append}
use Rattle.rules.proofs.RenamedTypes.Renamed.{values_renamed, steps_renamed}
use Rattle.fragments.specs.Options.{Options, renamed_under}
use Rattle.hashing.specs.Walked.{owner_bytes, bytes_in}
use Rattle.fragments.proofs.Lone.{two_steps}

module _ (s : Store) (o : Options) (n : ℕ) where
  abbrev operands : List ℕ
  operands = flat_map (bytes_in (values_of s (of_op n))) (op_at s n).operands

  abbrev successors : List ℕ
  successors = flat_map (bytes_in []) (op_at s n).successors

  two_fed : all_bytes uncounted (renamed_under o s) o.ignore (shell (of_op n) ∷ names n ∷ []) no_numbers ≡ owner_bytes s o (of_op n) ++ (operands ++ successors)
  unfolding renamed op_at regions_of head_bytes all_bytes feeds list_bytes numbered no_numbers block_owner owner_bytes
  two_fed =
      let used : List ℕ → List ℕ = λ vs. flat_map (bytes_in vs) (op_at s n).operands ++ successors in
      ap (λ (vs : List ℕ). owner_bytes s o (of_op n) ++ (used vs ++ [])) (values_renamed o.types s (of_op n))
      ∙ ap (λ (bs : List ℕ). owner_bytes s o (of_op n) ++ bs) (append-nil (operands ++ successors))

  two_walked : regions_of s n ≡ [] → steps (renamed_under o s) op n ≡ shell (of_op n) ∷ names n ∷ []
  two_walked none = steps_renamed o.types s op n ∙ two_steps s n none

  pub fed_alone : regions_of s n ≡ [] → {w₁ w₂ w₃ : ℕ} → w₁ ≡ fnv_from fnv_start (owner_bytes s o (of_op n)) → w₂ ≡ fnv_from w₁ operands → w₃ ≡ fnv_from w₂ successors → w₃ ≡ hash (renamed_under o s) o.ignore op n
  unfolding hash fnv
  fed_alone none e₁ e₂ e₃ =
      e₃
      ∙ ap (λ (w : ℕ). fnv_from w successors) (e₂ ∙ ap (λ (w : ℕ). fnv_from w operands) e₁)
      ∙ ap (λ (w : ℕ). fnv_from w successors) (sym (fnv_append fnv_start (owner_bytes s o (of_op n)) operands))
      ∙ sym (fnv_append fnv_start (owner_bytes s o (of_op n) ++ operands) successors)
      ∙ ap (fnv_from fnv_start) (sym (ap (λ (xs : List Step). all_bytes uncounted (renamed_under o s) o.ignore xs no_numbers) (two_walked none) ∙ two_fed ∙ sym (append_assoc (owner_bytes s o (of_op n)) operands successors)))
