-- Tests in their order: the first that fails gives the cause, and where none does there is none. Assumes nothing.
use Rattle.rules.specs.declared.types.Cause.{Cause}
use mathlib.Core.Bool.{Bool, true, false, cond}
use Rattle.std.specs.Prelude.{Option, None, Some}
use mathlib.Core.List.{List, [], ◌∷◌}
use mathlib.Core.Path.{◌≡◌, refl, ap, ◌∙◌}
use Rattle.rules.specs.Building.{first_failed}

pub none_fail : first_failed [] ≡ None
unfolding first_failed
none_fail = refl

module _ (t : Bool) (k : Cause) (ts : List (Bool × Cause)) where
  pub fails : t ≡ false → first_failed ((t, k) ∷ ts) ≡ Some k
  unfolding first_failed
  fails h = ap (λ (b : Bool). cond b (first_failed ts) (Some k)) h

  pub passes : {o : Option Cause} → t ≡ true → first_failed ts ≡ o → first_failed ((t, k) ∷ ts) ≡ o
  unfolding first_failed
  passes h e = ap (λ (b : Bool). cond b (first_failed ts) (Some k)) h ∙ e
