-- A copy is its original's twin, and a twin is an independent operation that is equal: so both do the same work. Assumes nothing.
use Prim.Native.Nat.{ℕ, ◌<◌}
use native.Mathlib.Omega.{arith}
use mathlib.Core.Bool.{true}
use mathlib.Core.List.Memᴰ
use mathlib.Core.List.{List, [], ◌∷◌, Memᴰ}
use Rattle.std.specs.Prelude.{Option}
use mathlib.Core.Path.{◌≡◌, subst}
use borrow.Author.Tests.{ltb-true, lt-ltb}
use lib.ListN.{length}
use Rattle.rules.specs.Store.{Store, op_exists, sound}
use Rattle.rules.specs.Fragments.{exists, fragment_ops}
use Rattle.rules.specs.declared.types.Sort.TheVariants.{Op as op}
use Rattle.rules.specs.Mapping.{Mapping}
use Rattle.rules.specs.Types.{renamed}
use Rattle.rules.specs.Laws.{In}
use Rattle.rules.specs.TypeLaws.{RenamedPremise}
use Rattle.rules.specs.Copying.{copied, copy_tests}
use Rattle.rules.specs.CopyLaws.{Copies, CopySound, CopyEqual, CopyFiled, CopyPremise}
use Rattle.rules.specs.GroupingLaws.{TwinFound}
use Rattle.rules.proofs.Basics.Tests.{and_left}
use Rattle.rules.proofs.Soundness.Accepted.{first_failed_none}
use Rattle.rules.proofs.Copying.Tables.{ops_length}
use Rattle.rules.proofs.RenamedTypes.Under.{renamed_premise}
use Rattle.rules.proofs.Copying.Laws.{copy_equal}
use Rattle.rules.proofs.Copying.Laws.{copy_filed}
use Rattle.rules.proofs.Copying.Laws.{copy_premise}
use Rattle.rules.proofs.Copying.Kept.{copy_sound}
use Rattle.rules.proofs.Grouping.Twins.{twin_found}
use Rattle.semantics.specs.SameWork.{SameWork, WorkAlike}
use Rattle.semantics.specs.Copies.{CopyWork, TwinWork}
use Rattle.semantics.proofs.Below.{op_root}
use Rattle.semantics.proofs.Laws.{same_work}

some_entry : {A : Type 0} (xs : List A) {x : A} → Memᴰ x xs → 0 < length xs
some_entry [] m = absurd (Memᴰ.not-nil m)
some_entry (x ∷ xs) m = omega arith

module _ (s : Store) (sd : sound s ≡ true) (n : ℕ) (place : Option ℕ) (c : Copies s n place) where
  there : op_exists s n ≡ true
  unfolding copy_tests
  there = and_left _ _ (first_failed_none _ c).0

  more_ops : (length s.ops < length (copied s n place).ops) × (n < length s.ops)
  unfolding op_exists
  more_ops =
      let some = some_entry (fragment_ops s op n) (op_root s sd n) in
      let e = ops_length s n place in
      (omega arith, ltb-true n (length s.ops) there)

  original_in : In (copied s n place) op n
  unfolding exists op_exists
  original_in = lt-ltb n (length (copied s n place).ops) (omega (arith, more_ops.0, more_ops.1))

  copy_in : In (copied s n place) op (length s.ops)
  unfolding exists op_exists
  copy_in = lt-ltb (length s.ops) (length (copied s n place).ops) more_ops.0

module _ (Data World Mind : Type 0) where
  pub copy_work : CopyWork Data World Mind
  unfolding CopyWork SameWork CopySound CopyEqual CopyFiled CopyPremise
  copy_work s sd n place c types ig =
      subst (λ (m : Mapping). WorkAlike Data World Mind (renamed types (copied s n place)) ig op n (length s.ops) m)
      (copy_filed s sd n place c types ig)
      (same_work Data World Mind (copied s n place) (copy_sound s sd n place c) types ig op n (length s.ops)
      (original_in s sd n place c) (copy_in s sd n place c) (copy_premise s sd n place c) (copy_equal s sd n place c types ig))

  pub twin_work : TwinWork Data World Mind
  unfolding TwinWork SameWork TwinFound RenamedPremise exists op_exists
  twin_work s sd types ig n m i e =
      let t = twin_found (renamed types s) ig n m e in
      let here : n < length s.ops = ltb-true n (length s.ops) i in
      same_work Data World Mind s sd types ig op m n (lt-ltb m (length s.ops) (omega (arith, t.0))) i ((renamed_premise types s op m n).0 t.1.0) t.1.1
