-- What a comparison leaves may be lent again: with it another comparison begins, as on a call that asks for an allowed mapping.
-- An answer is any that meets a comparison's contract, be it offered or on what is known to be sound and allowed: they have one.
use Rattle.std.specs.Prelude.{ℕ, Bool, true, List, ◌≡◌}
use Rattle.rules.specs.declared.types.Sort.{Sort}
use Rattle.rules.specs.declared.types.Ignore.{Ignore}
use Rattle.rules.specs.Mapping.{allowed}
use Rattle.rules.specs.Answers.{Compared}
use Rattle.layout.specs.Reading.{store_in}
use Rattle.equivalence.specs.MappingWords.{mapping_of}
use Rattle.equivalence.specs.Calls as comparisons

-- whatever the buffer, the list of types and the numbers, answered or refused; `ok` is whether the buffer is sound
unfoldable pub AllowedAgain : Type 0
AllowedAgain =
    (ok : Bool) (buffer types : List ℕ) (ig : Ignore) (f : Sort) (l r : ℕ) (before after : List ℕ)
    → allowed (store_in buffer) (mapping_of before) ≡ true → (q : Compared) → comparisons.ComparisonAnswers ok buffer types before after ig f l r q
    → allowed (store_in buffer) (mapping_of after) ≡ true
