-- What a chain of tests answers. Assumes nothing.
use Rattle.std.proofs.Common.{◌≡◌, Bool, true, false, ◌&&◌, [], ◌∷◌, refl, sym, ap, ◌∙◌}
use Rattle.rules.specs.Lists.{every}

-- what `a && b` answers: b where a holds, and else no
pub and_goes : (a b : Bool) {t : Bool} → a ≡ true → t ≡ b → t ≡ a && b
and_goes a b p q = q ∙ sym (ap (λ (x : Bool). x && b) p)

pub and_stops : (a b : Bool) {t : Bool} → a ≡ false → t ≡ false → t ≡ a && b
and_stops a b p q = q ∙ sym (ap (λ (x : Bool). x && b) p)

pub and_again : (a b c : Bool) → (a && b) && c ≡ a && (b && c)
and_again false b c = refl
and_again true b c = refl

pub and_true : (b : Bool) → b && true ≡ b
and_true false = refl
and_true true = refl

pub three_tests : (a b c : Bool) → every (a ∷ b ∷ c ∷ []) ≡ (a && b) && c
unfolding every
three_tests a b c = ap (λ (t : Bool). a && (b && t)) (and_true c) ∙ sym (and_again a b c)
