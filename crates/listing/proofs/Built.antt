-- A line that means a building call does what the call does. Assumes nothing.
use Rattle.std.specs.Prelude as std
use Rattle.std.proofs.Common.{◌≡◌, ℕ, List, refl, sym, ap, ap₂, subst, ◌∙◌}
use Rattle.std.specs.Prelude.{Option, None, Some}
use Rattle.std.proofs.lemmas.Option.{same_Some, none-some}
use Rattle.rules.specs.Store.{Store}
use Rattle.rules.specs.Building.{Call, Built, made, accepted, refused}
use Rattle.rules.specs.Lines.{Line, building}
use Rattle.rules.specs.Listings.{Tally, building_does, line_does}
use Rattle.layout.specs.Reading.{store_in}
use Rattle.rules.specs.Causes.{cause_of}
use Rattle.layout.specs.Soundness.{IsSound}
use Rattle.rules.specs.declared.types.Cause.{Cause}
use Rattle.rules.specs.declared.types.Cause.TheVariants.{BadLine}
use Rattle.layout.specs.MarkedReading.{mark_count}
use Rattle.mutation.specs.Types.{made_of, done_of}
use Rattle.mutation.specs.Doing.{Performs}
use Rattle.listing.specs.Building.{led_to, LineDid}

-- what a line that builds answers
abbrev pub Done : Type 0
Done = std.Result (Unit {0}) Cause

-- a line that means nothing
pub unread : (entry : List ℕ) (line : Option Line) → line ≡ None → IsSound entry → LineDid entry entry line (std.Err BadLine)
unfolding line_does led_to cause_of
unread entry line e h =
    record {
      does = λ p t. ap (line_does p (record { store = store_in entry; tally = t })) e;
      sound = h;
      marks = refl;
      unchanged = λ cause q. refl;
    }

-- why a call was refused, if it was
unfoldable refusal_in : Built → Option Cause
refusal_in (made n) = None
refusal_in accepted = None
refusal_in (refused cause) = Some cause

outcome : (b : Built) (s s' : Store) (t : Tally) → building_does b s' (record { store = s; tally = t }) ≡ led_to (record { store = s'; tally = t }) (refusal_in b)
unfolding building_does led_to refusal_in
outcome (made n) s s' t = refl
outcome accepted s s' t = refl
outcome (refused cause) s s' t = refl

refused_is : (b : Built) (cause : Cause) → refusal_in b ≡ Some cause → b ≡ refused cause
unfolding refusal_in
refused_is (made n) cause h = absurd (none-some _ h)
refused_is accepted cause h = absurd (none-some _ h)
refused_is (refused k) cause h = ap refused (same_Some _ _ h)

refusal_of : (r : Done) → cause_of r ≡ refusal_in (done_of r)
unfolding cause_of refusal_in done_of
refusal_of (std.Ok u) = refl
refusal_of (std.Err k) = refl

-- a line that means a call
module _ {entry exit : List ℕ} {c : Call} {line : Option Line} (e : line ≡ Some (building c)) where
  answered : (b : Built) (r : Done) → Performs entry exit c b → cause_of r ≡ refusal_in b → LineDid entry exit line r
  unfolding line_does cause_of mark_count
  answered b r did cause =
      record {
        does = λ p t.
            ap (line_does p (record { store = store_in entry; tally = t })) e
            ∙ ap₂ (λ (x : Built) (s : Store). building_does x s (record { store = store_in entry; tally = t })) (sym did.answered) (sym did.reads)
            ∙ outcome b (store_in entry) (store_in exit) t
            ∙ ap (led_to (record { store = store_in exit; tally = t })) (sym cause);
        sound = did.sound;
        marks = did.behind.marks;
        unchanged = λ k q. did.unchanged k (refused_is b k (sym cause ∙ ap cause_of q));
      }

  pub line_made : (n : ℕ) → Performs entry exit c (made_of (std.Ok n)) → LineDid entry exit line (std.Ok tt)
  unfolding cause_of refusal_in made_of
  line_made n did = answered (made n) (std.Ok tt) did refl

  pub line_refused : (k : Cause) → Performs entry exit c (made_of (std.Err k)) → LineDid entry exit line (std.Err k)
  unfolding cause_of refusal_in made_of
  line_refused k did = answered (refused k) (std.Err k) did refl

  pub line_done : (r : Done) → Performs entry exit c (done_of r) → LineDid entry exit line r
  line_done r did = answered (done_of r) r did (refusal_of r)

-- the same line, said in another way
pub as_meant : {entry exit : List ℕ} {r : Done} {line line' : Option Line} → LineDid entry exit line r → line ≡ line' → LineDid entry exit line' r
as_meant {entry} {exit} {r} h e = subst (λ (l : Option Line). LineDid entry exit l r) e h
