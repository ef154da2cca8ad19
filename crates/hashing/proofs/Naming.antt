-- Uses are fed one after the other by their names: what is fed so far and what is left make the whole. Assumes nothing.
use Rattle.std.proofs.Common.{◌≡◌, ℕ, ◌+◌, ◌<◌, ◌≤◌, true, ltb, List, [], length, get_or, refl, ap, ◌∙◌, ltb-true}
use Rattle.std.specs.List.{list_all}
use Rattle.rules.specs.Lists.{position}
use Rattle.rules.specs.Hash.{fnv_from, name_at, name_of, name_bytes}
use Rattle.rules.proofs.Basics.Tests.{all_at}
use Rattle.rules.proofs.Basics.Appended.{mem_get_d}
use Rattle.rules.specs.declared.types.Name.{Name}
use Rattle.rules.specs.declared.types.Name.TheVariants.{StoreNumber}
use Rattle.hashing.specs.Walked.{bytes_in, FeedsUses}
use Rattle.hashing.proofs.Bytes.{LeftOf, entry_fed, entries_fed}

-- an entry of a list of numbers below m
pub entries_below : (m : ℕ) (xs : List ℕ) → list_all (λ (v : ℕ). ltb v m) xs ≡ true → (k d : ℕ) → k < length xs → get_or xs k d < m
entries_below m xs h k d l = ltb-true (get_or xs k d) m (all_at (λ (v : ℕ). ltb v m) xs h (mem_get_d xs k d l))

-- from the use at i on all is left to feed, by whatever bytes the names have
abbrev pub UsesLeft : (ℕ → Name → Type 0) → List ℕ → ℕ → ℕ → ℕ → Type 0
UsesLeft named list word i fed =
    (bytes : ℕ → List ℕ) → ((n : ℕ) (x : Name) → named n x → name_bytes x ≡ bytes n) → LeftOf bytes list word i fed

module _ (named : ℕ → Name → Type 0) (list : List ℕ) (word : ℕ) where
  pub uses_all : UsesLeft named list word 0 word
  uses_all bytes law = refl

  pub uses_next : (i fed r : ℕ) (x : Name) → i < length list → UsesLeft named list word i fed → named (get_or list i 0) x
      → r ≡ fnv_from fed (name_bytes x) → UsesLeft named list word (i + 1) r
  uses_next i fed r x l left here e bytes law = entry_fed bytes list word i fed l (left bytes law) (e ∙ ap (fnv_from fed) (law (get_or list i 0) x here))

  pub uses_none : (i fed : ℕ) → length list ≤ i → UsesLeft named list word i fed → FeedsUses named list word fed
  uses_none i fed l left bytes law = entries_fed bytes list word i fed l (left bytes law)

-- where nothing is defined, a use is named by its number in the store
pub name_outside : (x : Name) (n : ℕ) → x ≡ StoreNumber n → name_bytes x ≡ bytes_in [] n
unfolding name_of name_at position
name_outside x n e = ap (λ (y : Name). name_bytes y) e
