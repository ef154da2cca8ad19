-- The walk that lists, as a walk of any kind: each step that tells of something is put behind those that are there. Assumes nothing.
use Rattle.std.proofs.Common.{◌≡◌, ℕ, ◌+◌, ◌<◌, List, [], ◌∷◌, ◌++◌, sym, refl, ap, ◌∙◌, length, arith, append_assoc, append-nil, length-append}
use Rattle.rules.specs.declared.types.Owner.{Owner}
use Rattle.rules.specs.Fragments.{shells}
use Rattle.rules.specs.Fragments as rules
use Rattle.rules.proofs.Basics.Distinct.{concat_map_append}
use Rattle.fragments.proofs.Passing.{StepRelation}
use Rattle.fragments.proofs.Rounds.{each_shell}
use Rattle.copying.specs.declared.steps.Step.{Step}
use Rattle.copying.specs.Steps.{most_steps, step_listed, steps_listed, StepsFit, Listed, step_of}
use Rattle.copying.specs.declared.steps.Step.TheVariants.{OpShell, BlockShell, Names}

steps_append : (xs ys : List rules.Step) → steps_listed (xs ++ ys) ≡ steps_listed xs ++ steps_listed ys
unfolding steps_listed
steps_append xs ys = concat_map_append step_listed xs ys

steps_long : (xs ys : List rules.Step) → length (steps_listed (xs ++ ys)) ≡ length (steps_listed xs) + length (steps_listed ys)
steps_long xs ys = ap length (steps_append xs ys) ∙ length-append (steps_listed xs) (steps_listed ys)

pub listed_none : (walk : List Step) → Listed [] walk walk
unfolding steps_listed
listed_none walk = record { read = sym (append-nil walk) }

pub listed_then : (xs ys : List rules.Step) {a b c : List Step} → Listed xs a b → Listed ys b c → Listed (xs ++ ys) a c
listed_then xs ys {a} {b} {c} f g =
    record {
      read =
          g.read
          ∙ ap (λ (w : List Step). w ++ steps_listed ys) f.read
          ∙ append_assoc a (steps_listed xs) (steps_listed ys)
          ∙ ap (λ (w : List Step). a ++ w) (sym (steps_append xs ys));
    }

pub fit_first : (xs ys : List rules.Step) {walk : List Step} → StepsFit (xs ++ ys) walk → StepsFit xs walk
fit_first xs ys r = record { room = omega (arith, steps_long xs ys, r.room) }

pub fit_rest : (xs ys : List rules.Step) {a b : List Step} → StepsFit (xs ++ ys) a → Listed xs a b → StepsFit ys b
fit_rest xs ys {a} {b} r f =
    let long : length b ≡ length a + length (steps_listed xs) = ap length f.read ∙ length-append a (steps_listed xs) in
    record { room = omega (arith, steps_long xs ys, r.room) }

abbrev pub list_walk : StepRelation (List Step)
list_walk =
    record {
      Does = λ xs a b. Listed xs a b;
      Room = λ xs a. StepsFit xs a;
      none = λ a. listed_none a;
      both = λ xs ys f g. listed_then xs ys f g;
      first = λ xs ys r. fit_first xs ys r;
      rest = λ xs ys r f. fit_rest xs ys r f;
    }

-- one step more
one_step : (x : Step) → steps_listed (step_of x ∷ []) ≡ x ∷ []
unfolding steps_listed step_listed step_of
one_step (OpShell m) = refl
one_step (BlockShell b) = refl
one_step (Names m) = refl

pub listed_one : (x : Step) {a b : List Step} → b ≡ a ++ x ∷ [] → Listed (step_of x ∷ []) a b
listed_one x {a} e = record { read = e ∙ ap (λ (l : List Step). a ++ l) (sym (one_step x)) }

pub fits_one : (x : Step) {a : List Step} → StepsFit (step_of x ∷ []) a → length a < most_steps
fits_one x r = omega (arith, r.room, ap length (one_step x))

-- where a list of shells begins nothing is put
module _ (w : ℕ → Owner) (ns : List ℕ) where
  pub shells_fit : {walk : List Step} → StepsFit (shells w ns) walk → StepsFit (each_shell w ns) walk
  unfolding shells steps_listed step_listed
  shells_fit r = record { room = r.room }

  pub shells_listed : {a b : List Step} → Listed (each_shell w ns) a b → Listed (shells w ns) a b
  unfolding shells steps_listed step_listed
  shells_listed f = record { read = f.read }
