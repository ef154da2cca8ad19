-- A line begins with a letter where that letter is read of its first field. Assumes nothing.
use Rattle.std.proofs.Common.{◌≡◌, ℕ, Bool, true, false, ◌&&◌, List, [], ◌∷◌, Option, None, Some, nat_eq, refl, sym, ap, ◌∙◌}
use Rattle.std.specs.Option.{option_eq}
use Rattle.std.specs.Prelude.{Some}
use Rattle.std.proofs.lemmas.Option.{none-some}
use lib.Dec.{eqb}
use Rattle.rules.specs.Lists.{same_list}
use Rattle.rules.specs.Lines.{field}
use Rattle.rules.specs.Converting.{begins}
use Rattle.rules.specs.Bytes.{is_text}
use Rattle.layout.proofs.Scans.{and_false}
use Rattle.lines.specs.Reading.{one_byte, read, begins_with}

and_true : (a : Bool) → (a && true) ≡ a
and_true true = refl
and_true false = refl

same_field : (p q : ℕ × List (List ℕ)) → Some p ≡ Some q → p ≡ q
same_field p q h = cc

pub first_letter : (b : ℕ) (fs gs : List (List ℕ)) (r : Option ℕ) → field one_byte fs ≡ read r gs → option_eq nat_eq r (Some b) ≡ begins_with b fs
unfolding field same_list
first_letter b [] gs None h = refl
first_letter b [] gs (Some x) h = absurd (none-some (x, gs) h)
first_letter b ([] ∷ fs) gs None h = refl
first_letter b ([] ∷ fs) gs (Some x) h = absurd (none-some (x, gs) h)
first_letter b ((x ∷ []) ∷ fs) gs None h = absurd (none-some (x, fs) (sym h))
first_letter b ((x ∷ []) ∷ fs) gs (Some y) h =
    ap (λ (p : ℕ × List (List ℕ)). eqb p.0 b) (sym (same_field (x, fs) (y, gs) h)) ∙ sym (and_true (eqb x b))
first_letter b ((x ∷ y ∷ xs) ∷ fs) gs None h = sym (and_false (eqb x b) false refl)
first_letter b ((x ∷ y ∷ xs) ∷ fs) gs (Some z) h = absurd (none-some (z, gs) h)

-- the letters by which the converter goes
pub begins_b : (fs : List (List ℕ)) → begins_with 98 fs ≡ begins "b" fs
unfolding begins is_text
begins_b [] = refl
begins_b (f ∷ fs) = refl

pub begins_i : (fs : List (List ℕ)) → begins_with 105 fs ≡ begins "i" fs
unfolding begins is_text
begins_i [] = refl
begins_i (f ∷ fs) = refl
