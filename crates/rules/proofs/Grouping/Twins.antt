-- The twin of an operation is what a search for the first finds: a test that is the premise of the laws and equality. By the laws the two are
-- equal the other way too, and have one hash and one key. Assumes nothing.
use Prim.Native.Nat.{ℕ, ◌+◌, ◌<◌}
use native.Mathlib.Omega.{arith}
use mathlib.Core.Bool.{true, false}
use mathlib.Core.Logic.{◌↔◌}
use Rattle.std.specs.Prelude.{Option, None, Some}
use mathlib.Core.Path.{◌≡◌, refl}
use borrow.Author.Tests.{ltb-true, lt-ltb}
use lib.ListN.{length}
use Rattle.rules.specs.Store.{Store, op_exists}
use Rattle.rules.specs.Fragments.{exists}
use Rattle.rules.specs.declared.types.Sort.TheVariants.{Op as op}
use Rattle.rules.specs.declared.types.Ignore.{Ignore}
use Rattle.rules.specs.Laws.{In, LawsOfSound}
use Rattle.rules.specs.KeyLaws.{EqualKey}
use Rattle.rules.specs.Independence.{independent}
use Rattle.rules.specs.Grouping.{is_twin, twin_of}
use Rattle.rules.specs.GroupingLaws.{IndependentIs, Twins, TwinFound, TwinNone, TwinAlike}
use Rattle.rules.proofs.Basics.Tests.{and_left, and_right, and_both, clash}
use Rattle.rules.proofs.Laws.{one_way, laws_of_sound}
use Rattle.rules.proofs.Keys.Filed.{equal_key}
use Rattle.rules.proofs.Runs.Searched.{first_found, first_none}
use Rattle.rules.proofs.Grouping.Independent.{independent_is}

-- the test of one operation for another
twins_are : (s : Store) (ig : Ignore) (n m : ℕ) → (is_twin s ig n m ≡ true) ↔ Twins s ig m n
unfolding is_twin IndependentIs
twins_are s ig n m =
    let premise = independent_is s op m n in (
      λ h. (premise.0 (and_left _ _ h), and_right (independent s op m n) _ h),
      λ t. and_both _ _ (premise.1 t.0) t.1,
    )

pub twin_found : TwinFound
unfolding TwinFound twin_of
twin_found s ig n m e =
    let found = first_found n 0 (is_twin s ig n) m e in
    let high : m < 0 + n = found.high in (
      omega arith,
      (twins_are s ig n m).0 found.passes,
      λ k l t. clash ((twins_are s ig n k).1 t) (found.fails k (omega arith) l),
    )

none_before : (s : Store) (ig : Ignore) (n : ℕ) → twin_of s ig n ≡ None → (m : ℕ) → m < n → is_twin s ig n m ≡ false
unfolding twin_of
none_before s ig n e m l = first_none n 0 (is_twin s ig n) e m (omega arith) (omega arith)

pub twin_none : TwinNone
unfolding TwinNone TwinFound
twin_none s ig n = (λ e m l t. clash ((twins_are s ig n m).1 t) (none_before s ig n e m l), λ out. go (twin_of s ig n) refl out)
  where
    go : (o : Option ℕ) → twin_of s ig n ≡ o → ((m : ℕ) → m < n → Twins s ig m n → ⊥) → o ≡ None
    go None e out = refl
    go (Some m) e out = let t = twin_found s ig n m e in absurd (out m t.0 t.1)

-- an operation before one that exists
pub earlier_in : (s : Store) (n m : ℕ) → In s op n → m < n → In s op m
unfolding exists op_exists
earlier_in s n m h l = let k : n < length s.ops = ltb-true _ _ h in lt-ltb m (length s.ops) (omega arith)

pub twin_alike : TwinAlike
unfolding TwinAlike TwinFound LawsOfSound EqualKey
twin_alike s sd ig n m i e =
    let t = twin_found s ig n m e in
    let j = earlier_in s n m i t.0 in
    let laws = laws_of_sound s sd ig op in
    (laws.symmetric m n j i t.1.0 t.1.1, laws.hashes m n j i t.1.0 t.1.1, equal_key s sd ig op m n j i (one_way s op m n t.1.0) t.1.1)
