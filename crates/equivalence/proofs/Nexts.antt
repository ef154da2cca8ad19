-- What an iterator has left, at a call of `next`. Assumes nothing.
use Rattle.std.specs.Prelude.{Option, Some, None, is_some, true}
use Rattle.std.specs.Iterator.{YieldsFirst}
use Prim.Native.Nat.{ℕ}
use mathlib.Core.Bool.{true≢false}
use mathlib.Core.List.{List, [], ◌∷◌}
use mathlib.Core.Logic.{◌⊎◌, inl, inr}
use mathlib.Core.Path.{◌≡◌, sym, subst, ◌∙◌}

module _ {S : Type 0} (left : S → List ℕ) (s t : S) (r : Option ℕ) (steps : YieldsFirst left s r t) where
  pub item_next : (x : ℕ) → r ≡ Some x → left s ≡ x ∷ left t
  item_next x e = subst (λ (q : Option ℕ). YieldsFirst left s q t) e steps

  pub none_next : r ≡ None → left s ≡ []
  none_next e = let h : YieldsFirst left s None t = subst (λ (q : Option ℕ). YieldsFirst left s q t) e steps in h.0

  pub some_next : is_some r ≡ true → left s ≡ [] → ⊥
  some_next e l = go r e steps
    where
      go : (q : Option ℕ) → is_some q ≡ true → YieldsFirst left s q t → ⊥
      go None k h = absurd (true≢false (sym k))
      go (Some x) k h = let two : ◌≡◌ {A = List ℕ} [] (x ∷ left t) = sym l ∙ h in absurd (true≢false (cc two))

-- of two iterators side by side one has none left
pub over_next : {S T : Type 0} (left : S → List ℕ) (right : T → List ℕ) (s : S) (t : T)
    → ((u : S) × YieldsFirst left s None u) ⊎ ((u : T) × YieldsFirst right t None u) → (left s ≡ []) ⊎ (right t ≡ [])
over_next left right s t (inl h) = inl h.1.0
over_next left right s t (inr h) = inr h.1.0
