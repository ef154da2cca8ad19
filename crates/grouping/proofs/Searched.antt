-- The search for an operation's twin: all operations before it are to be tried, and one of another hash is no twin, by the laws of hashes. Assumes
-- nothing.
use Prim.Native.Nat.{ℕ, suc, ◌+◌, ◌-◌, ◌<◌, ◌≤◌}
use native.Mathlib.Omega.{arith}
use mathlib.Core.Bool.{Bool, true, false}
use mathlib.Core.List.{List}
use mathlib.Core.Logic.{◌⊎◌, inl, inr}
use mathlib.Core.Path.{◌≡◌, sym, ap, ◌∙◌}
use borrow.Author.Tests.{lt-ltb}
use lib.ListN.{length, get_or}
use Rattle.rules.specs.Store.{Store, op_exists, sound}
use Rattle.rules.specs.Fragments.{exists}
use Rattle.rules.specs.declared.types.Sort.TheVariants.{Op as op}
use Rattle.rules.specs.Runs.{first_of}
use Rattle.rules.specs.Laws.{In, LawsOfSound}
use Rattle.rules.specs.Independence.{independent}
use Rattle.rules.specs.Grouping.{is_twin, twin_of}
use Rattle.rules.specs.GroupingLaws.{IndependentIs}
use Rattle.rules.proofs.Basics.Tests.{and_left, and_right, decided}
use Rattle.rules.proofs.Laws.{laws_of_sound}
use Rattle.rules.proofs.RenamedTypes.Renamed.{exists_renamed, renamed_sound}
use Rattle.rules.proofs.Grouping.Independent.{independent_is}
use Rattle.fragments.specs.Options.{Options, renamed_under}
use Rattle.hashing.proofs.Tried.{left_on}
use Rattle.grouping.specs.Twins.{HashesOf}

-- whether an operation stands for n
abbrev pub stands : Store → Options → ℕ → ℕ → Bool
stands s o n m = is_twin (renamed_under o s) o.ignore n m

-- all operations before n are to be tried
pub all_before : (s : Store) (o : Options) (n : ℕ) → twin_of (renamed_under o s) o.ignore n ≡ left_on (stands s o n) 1 n 0
unfolding twin_of
all_before s o n =
    let all : n ≡ suc n - 1 - 0 = omega arith in
    ap (λ (k : ℕ). first_of k 0 (stands s o n)) all

module _ (s : Store) (sd : sound s ≡ true) (o : Options) (hashes : List ℕ) (h : HashesOf s o hashes) where
  here : (n : ℕ) → n < length s.ops → In (renamed_under o s) op n
  unfolding exists op_exists
  here n l = exists_renamed o.types s op n ∙ lt-ltb n (length s.ops) l

  pub unlike : (n : ℕ) → n < length s.ops → (m : ℕ) → m + 1 ≤ n → (get_or hashes m 0 ≡ get_or hashes n 0 → ⊥) → stands s o n m ≡ false
  unfolding is_twin IndependentIs LawsOfSound
  unlike n l m k ne = go (decided (stands s o n m))
    where
      go : (stands s o n m ≡ true) ⊎ (stands s o n m ≡ false) → stands s o n m ≡ false
      go (inl e) =
          let below : m < length s.ops = omega arith in
          let premise = (independent_is (renamed_under o s) op m n).0 (and_left _ _ e) in
          let laws = laws_of_sound (renamed_under o s) (renamed_sound o.types s sd) o.ignore op in
          let same = laws.hashes m n (here m below) (here n l) premise (and_right (independent (renamed_under o s) op m n) _ e) in
          absurd (ne (h.each m below ∙ same ∙ sym (h.each n l)))
      go (inr e) = e
