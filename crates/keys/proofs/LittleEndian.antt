-- A number's bytes, lowest first, are those that a key holds of it. Assumes nothing.
use Prim.Native.Nat.{ℕ, ◌<◌}
use native.Mathlib.Nat.{mod-eq_of_lt, div-div-eq-div-mul}
use mathlib.Core.Bool.{Bool, true, false}
use mathlib.Core.List.{[], ◌∷◌}
use mathlib.Core.Path.{◌≡◌, refl, sym, ap}
use Rattle.std.specs.Int.{to_le_bytes, from_bool, w32, w64}
use Rattle.rules.specs.Hash.{bytes, tag, leaf, count, flag}

pub tag_lem : (n : ℕ) → n < 256 → n ∷ [] ≡ tag n
unfolding bytes tag
tag_lem n l = ap (λ (b : ℕ). b ∷ []) (sym (mod-eq_of_lt l))

pub leaf_lem : (n : ℕ) → to_le_bytes w32 n ≡ leaf n
unfolding bytes leaf
leaf_lem n = simp div-div-eq-div-mul

pub count_lem : (n : ℕ) → to_le_bytes w64 n ≡ count n
unfolding bytes count
count_lem n = simp div-div-eq-div-mul

pub flag_lem : (b : Bool) → tag (from_bool b) ≡ flag b
unfolding bytes tag flag
flag_lem true = refl
flag_lem false = refl
