-- A list of uses is put name by name, whatever rule names them. Assumes nothing.
use Prim.Native.Nat.{ℕ}
use mathlib.Core.List.{List, []}
use mathlib.Core.Path.{◌≡◌, ap, ◌∙◌}
use Rattle.rules.specs.Lists.{position}
use Rattle.rules.specs.Hash as rules
use Rattle.rules.specs.Hash.{Numbering, name_at, name_of, name_bytes}
use Rattle.rules.specs.Store.{Store}
use Rattle.fragments.specs.Words.{Stands, NamesBlock}
use Rattle.rules.specs.declared.types.Name.{Name}
use Rattle.rules.specs.declared.types.Name.TheVariants.{StoreNumber}
use Rattle.keys.specs.Put.{Put}
use Rattle.keys.proofs.Putting.{put_as}

-- the bytes of a use by a rule
abbrev pub named_bytes : (ℕ → Name) → ℕ → List ℕ
named_bytes named n = name_bytes (named n)

pub name_put : (x : Name) {y : Name} {a b : List ℕ} {r : ℕ} → x ≡ y → Put (name_bytes x) a b r → Put (name_bytes y) a b r
name_put x e f = put_as (ap name_bytes e) f

-- a use of a block, whatever store the numbering is of
pub block_named : (s : Store) (N : Numbering) {numbers : List ℕ} (b : ℕ) (x : Name) {z : Name} → Stands s N numbers → x ≡ z → NamesBlock numbers b z → x ≡ name_of N.blocks b
block_named s N b x h e f = e ∙ f s N h

-- a use of what is not defined
pub outside_named : (n : ℕ) (x : Name) → x ≡ StoreNumber n → x ≡ name_of [] n
unfolding name_of name_at position
outside_named n x e = e
