-- An equal comparison by what it enters: the operations and blocks of the one fragment and those of the other, pair by pair, each pair with
-- equal shells. What two equal fragments have in common at each place of the walk follows along it, whatever they name. Assumes nothing.
use Prim.Native.Nat.{ℕ}
use mathlib.Core.Bool.{Bool, true, false, cond}
use mathlib.Core.List.{List, [], ◌∷◌, ◌++◌}
use Rattle.std.specs.Prelude.{Option, None, Some}
use Rattle.std.proofs.lemmas.Option.{same_Some, none-some}
use mathlib.Core.Path.{◌≡◌, refl, sym, ap, subst, subst₂, ◌∙◌}
use Rattle.std.specs.List.{flat_map}
use Rattle.rules.specs.Store.{Store}
use Rattle.rules.specs.declared.types.Owner.{Owner}
use Rattle.rules.specs.Fragments.{shell, names, counted, step_defines, defines_owners}
use Rattle.rules.specs.declared.types.Sort.{Sort}
use Rattle.rules.specs.Shells.{same_shells}
use Rattle.rules.specs.declared.types.Ignore.{Ignore}
use Rattle.rules.specs.Mapping.{Mapping, empty_mapping}
use Rattle.rules.specs.Comparison.{State, on, start, standing, compare}
use Rattle.rules.specs.Laws.{equal, Equal}
use Rattle.rules.specs.Form.{Event, step, more, done, events}
use Rattle.rules.proofs.Form.Events.{and_then, enter_owners, meet, lock}
use Rattle.rules.proofs.Form.LockStep.{going}
use Rattle.rules.proofs.Form.Tested.{names_agree}
use Rattle.rules.proofs.Form.Canonical.{in_fragment, goes, pass}

unfoldable pub event_owners : Event → List Owner
event_owners (step x) = step_defines x
event_owners more = []
event_owners done = []

module _ (s : Store) (ig : Ignore) where
  -- these, pair by pair, lead from the one state to the other
  pub data Passed : List Owner → List Owner → State → State → Type 0 where
    over : {st : State} → Passed [] [] st st
    pair : {l r : Owner} {ls rs : List Owner} {st st' : State} → same_shells s ig l r ≡ true → Passed ls rs (enter_owners s l r st) st'
        → Passed (l ∷ ls) (r ∷ rs) st st'

  module _ (ls rs : List Owner) (st st₁ st' : State) (rest : Passed ls rs st₁ st') where
    stayed : Some st ≡ Some st₁ → Passed ls rs st st'
    stayed h = subst (λ (x : State). Passed ls rs x st') (sym (same_Some st st₁ h)) rest

    met : (e e' : Event) → meet s ig e e' st ≡ Some st₁ → Passed (event_owners e ++ ls) (event_owners e' ++ rs) st st'
    unfolding meet event_owners step_defines
    met (step (shell l)) (step (shell r)) h = go (same_shells s ig l r) refl h
      where
        go : (b : Bool) → same_shells s ig l r ≡ b → cond b (Some (enter_owners s l r st)) None ≡ Some st₁ → Passed (l ∷ ls) (r ∷ rs) st st'
        go true e k = pair e (subst (λ (x : State). Passed ls rs x st') (sym (same_Some (enter_owners s l r st) st₁ k)) rest)
        go false e k = absurd (none-some st₁ k)
    met (step (names l)) (step (names r)) h = go (names_agree s l r st) h
      where
        go : (b : Bool) → cond b (Some st) None ≡ Some st₁ → Passed ls rs st st'
        go true k = stayed k
        go false k = absurd (none-some st₁ k)
    met (step (counted j)) (step (counted k)) h = stayed h
    met more more h = stayed h
    met done done h = stayed h
    met (step (shell l)) (step (names r)) h = absurd (none-some st₁ h)
    met (step (shell l)) (step (counted k)) h = absurd (none-some st₁ h)
    met (step (names l)) (step (shell r)) h = absurd (none-some st₁ h)
    met (step (names l)) (step (counted k)) h = absurd (none-some st₁ h)
    met (step (counted j)) (step (shell r)) h = absurd (none-some st₁ h)
    met (step (counted j)) (step (names r)) h = absurd (none-some st₁ h)
    met (step x) more h = absurd (none-some st₁ h)
    met (step x) done h = absurd (none-some st₁ h)
    met more (step y) h = absurd (none-some st₁ h)
    met more done h = absurd (none-some st₁ h)
    met done (step y) h = absurd (none-some st₁ h)
    met done more h = absurd (none-some st₁ h)

  along : (es es' : List Event) (st st' : State) → lock s ig es es' st ≡ Some st' → Passed (flat_map event_owners es) (flat_map event_owners es') st st'
  unfolding lock
  along [] [] st st' h = subst (Passed [] [] st) (same_Some st st' h) over
  along [] (e' ∷ es') st st' h = absurd (none-some st' h)
  along (e ∷ es) [] st st' h = absurd (none-some st' h)
  along (e ∷ es) (e' ∷ es') st st' h = go (meet s ig e e' st) refl (λ st₁ k. along es es' st₁ st' k) h
    where
      go : (o : Option State) → meet s ig e e' st ≡ o
          → ((st₁ : State) → lock s ig es es' st₁ ≡ Some st' → Passed (flat_map event_owners es) (flat_map event_owners es') st₁ st')
          → and_then o (lock s ig es es') ≡ Some st'
          → Passed (event_owners e ++ flat_map event_owners es) (event_owners e' ++ flat_map event_owners es') st st'
      go None m rest k = absurd (none-some st' k)
      go (Some st₁) m rest k = met (flat_map event_owners es) (flat_map event_owners es') st st₁ st' (rest st₁ k) e e' m

-- ---- the whole fragment

pub in_walk : (s : Store) (f : Sort) (n : ℕ) → flat_map event_owners (events s f n) ≡ defines_owners s f n
unfolding defines_owners event_owners
in_walk s f n = in_fragment event_owners step_defines (λ x. refl) refl refl s f n

-- from whatever mapping, if the comparison goes on to its end
pub walked_passed : (s : Store) (ig : Ignore) (f : Sort) (a b : ℕ) (m : Mapping) (st : State) → compare s ig f a b m ≡ on st
    → Passed s ig (defines_owners s f a) (defines_owners s f b) (start m) st
walked_passed s ig f a b m st h =
    subst₂ (λ (ls rs : List Owner). Passed s ig ls rs (start m) st) (in_walk s f a) (in_walk s f b)
    (along s ig (events s f a) (events s f b) (start m) st (sym (pass s ig f m a b) ∙ ap going h))

pub equal_passed : (s : Store) (ig : Ignore) (f : Sort) (a b : ℕ) → Equal s ig f a b
    → Passed s ig (defines_owners s f a) (defines_owners s f b) (start empty_mapping) (standing (compare s ig f a b empty_mapping))
unfolding equal standing
equal_passed s ig f a b h =
    let w = goes (compare s ig f a b empty_mapping) h in
    rw w.1 (walked_passed s ig f a b empty_mapping w.0 w.1)
