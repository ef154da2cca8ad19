-- `hash_of` meets its contract: a fold by the step of one byte is the hash's own recursion. Assumes nothing.
use Rattle.std.proofs.Common.{◌≡◌, ℕ, List, [], ◌∷◌, refl, ◌∙◌, rules}
use Rattle.std.specs.List.{fold}
use Rattle.rules.specs.Hash.{fnv_start, fnv_byte, fnv_from, fnv}
use Rattle.call_cases.proofs.hash_cases.hash_of.Goals as goal

folded : (w : ℕ) (xs : List ℕ) → fold fnv_byte w xs ≡ fnv_from w xs
unfolding fnv_from
folded w [] = refl
folded w (x ∷ xs) = folded (fnv_byte w x) xs

pub returns : goal.returns
unfolding fnv
returns c =
    let by_bytes : c.fold.result ≡ fold fnv_byte fnv_start c.args.input.now = search rules in
    by_bytes ∙ folded fnv_start c.args.input.now
