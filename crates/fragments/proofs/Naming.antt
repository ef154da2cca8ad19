-- A word that tells a number names as that number does. Assumes nothing.
use Rattle.std.proofs.Common.{◌≡◌, ℕ, ◌+◌, ◌%◌, ◌<◌, ◌≢◌, List, length, get_or, refl, ap, subst, arith}
use Rattle.std.specs.Prelude.{None, Some}
use Rattle.rules.specs.Lists.{position}
use Rattle.rules.specs.Store.{Store, value_at, max_blocks}
use Rattle.rules.specs.Hash as rules
use Rattle.rules.specs.declared.types.Name.TheVariants.{WalkNumber as walk_number, WalkNumber, StoreNumber}
use Rattle.rules.specs.Hash.{name_at, name_of}
use Rattle.layout.specs.Reading.{owner_code}
use Rattle.fragments.specs.Words.{block_place, Tells, Named, NamesValue, NamesBlock}
use Rattle.rules.specs.declared.types.Name.{Name}

pub name_unset : (word n : ℕ) → word ≡ 0 → Named word n (StoreNumber n)
unfolding name_at Tells
name_unset word n z None t = refl
name_unset word n z (Some i) t = absurd (t.0 z)

pub name_set : (word n r : ℕ) → word ≢ 0 → r < 4294967296 → (r + 2048) % 4294967296 ≡ word + n → Named word n (WalkNumber r)
unfolding name_at Tells
name_set word n r ne few e None t = absurd (ne t)
name_set word n r ne few e (Some i) t =
    let far : word + n ≡ i + 2048 = t.1 in
    let same : r ≡ i = omega arith in
    ap (λ (k : ℕ). walk_number k) same

module _ (numbers : List ℕ) (n : ℕ) (r : Name) where
  pub value_named : (s : Store) → n < length s.values → {place : ℕ} → owner_code (value_at s n).owner ≡ place → Named (get_or numbers place 0) n r → NamesValue s numbers n r
  unfolding name_of
  value_named s l e named N h = named (position n N.values) (subst (λ (i : ℕ). Tells (get_or numbers i 0) n (position n N.values)) e (h.values n l))

  pub block_named : n < max_blocks → Named (get_or numbers (block_place n) 0) n r → NamesBlock numbers n r
  unfolding name_of
  block_named l named s N h = named (position n N.blocks) (h.blocks n l)
