-- `same_bytes` meets its contract: the library compares two lists entry by entry, as the rules do. Assumes nothing.
use Rattle.std.proofs.Common.{◌≡◌, ℕ, Bool, ◌&&◌, List, [], ◌∷◌, eqb, refl, ap, ◌∙◌}
use lib.Pointwise.{pointwise}
use Rattle.rules.specs.Lists.{same_list}
use Rattle.lines.proofs.texts.same_bytes.Goals as goal

-- the library's word for it, and the rules' own
same_std : (xs ys : List ℕ) → pointwise eqb xs ys ≡ same_list eqb xs ys
unfolding same_list
same_std [] [] = refl
same_std [] (y ∷ ys) = refl
same_std (x ∷ xs) [] = refl
same_std (x ∷ xs) (y ∷ ys) = ap (λ (b : Bool). eqb x y && b) (same_std xs ys)

pub returns : goal.returns
returns c = c.eq.ensures ∙ same_std _ _
