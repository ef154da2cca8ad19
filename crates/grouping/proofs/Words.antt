-- The words of all operations, one by one. Assumes nothing.
use Prim.Native.Nat.{ℕ, suc, ◌+◌, ◌<◌}
use native.Mathlib.Omega.{arith}
use mathlib.Core.Bool.{true}
use mathlib.Core.List.{List, [], ◌∷◌, map}
use Rattle.std.specs.Prelude.{Option, None, Some}
use mathlib.Core.Path.{◌≡◌, refl, ap, ap₂, ◌∙◌}
use lib.ListN.{length, get_or}
use Rattle.std.specs.Option.{unwrap_or}
use Rattle.rules.specs.Lists.{numbers_from, numbers_where}
use Rattle.rules.specs.Store.{Store, Op}
use Rattle.rules.specs.declared.types.Ignore.{Ignore}
use Rattle.rules.specs.Grouping.{twin_of, twins_of, no_twin, twin_word}
use Rattle.rules.proofs.Basics.Cut.{map_through}

-- as many words as there are entries, each by its place
by_place : {A : Type 0} (g : ℕ → ℕ) (n : ℕ) (xs : List A) (words : List ℕ) → length words ≡ length xs → ((k : ℕ) → k < length xs → get_or words k 0 ≡ g (n + k))
    → words ≡ map g (numbers_from n (λ (x : A). true) xs)
unfolding numbers_from
by_place g n [] [] e h = refl
by_place g n [] (w ∷ words) e h = absurd (omega arith)
by_place g n (x ∷ xs) [] e h = absurd (omega arith)
by_place g n (x ∷ xs) (w ∷ words) e h =
    let here : n + 0 ≡ n = omega arith in
    ap₂ ◌∷◌ (h 0 (omega arith) ∙ ap g here)
    (by_place g (suc n) xs words (omega arith) (λ k l. let next : n + suc k ≡ suc n + k = omega arith in h (suc k) (omega arith) ∙ ap g next))

pub all_twins : (s : Store) (ig : Ignore) (words : List ℕ) → length words ≡ length s.ops → ((k : ℕ) → k < length s.ops → get_or words k 0 ≡ twin_word (twin_of s ig k))
    → words ≡ map twin_word (twins_of s ig)
unfolding twins_of numbers_where
all_twins s ig words e h =
    by_place (λ (k : ℕ). twin_word (twin_of s ig k)) 0 s.ops words e (λ k l. let same : k ≡ 0 + k = omega arith in h k l ∙ ap (λ (n : ℕ). twin_word (twin_of s ig n)) same)
    ∙ map_through (λ (k : ℕ). twin_word (twin_of s ig k)) twin_word (twin_of s ig) (numbers_from 0 (λ (o : Op). true) s.ops) (λ k m. refl)

-- an answer of the code, with the number of no operation in place of none
pub word_is : (t : Option ℕ) → unwrap_or t no_twin ≡ twin_word t
unfolding twin_word
word_is None = refl
word_is (Some m) = refl
