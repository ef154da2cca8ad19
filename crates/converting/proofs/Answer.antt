-- What is printed is the converted listing, which has room then, or the refusal. Assumes nothing.
use Prim.Native.Nat.{ℕ}
use native.Mathlib.Omega.{arith}
use mathlib.Core.List.{List}
use Rattle.std.specs.Prelude.{None}
use mathlib.Core.Path.{◌≡◌, sym, ap, ◌∙◌}
use Rattle.std.specs.Prelude as std
use Rattle.rules.specs.Listings.{refusal, max_listing}
use Rattle.rules.specs.Converting.{convert_refusal, unless_refused, convert, converted}
use Rattle.rules.proofs.Converting.Refused.{first_none}
use Rattle.rules.proofs.Converting.Ready.{rest_none, whole_fits}
use Rattle.lines.specs.Room.{refusal_room}
use Rattle.lines.specs.Writing.{Writes}
use Rattle.rules.specs.declared.types.Edition.{Edition}
use Rattle.lines.specs.declared.writing.LineWriter.{LineWriter}
use Rattle.lines.proofs.Joined.{said, within}
use Rattle.converting.specs.declared.types.Refusal.{Refusal}
use Rattle.converting.specs.Testing.{refusal_of, Tested}
use Rattle.converting.specs.Writing.{Convertible}

module _ (listing : List ℕ) where
  module _ (e : Edition) (t : Tested listing (std.Ok e)) where
    accepted : convert_refusal listing ≡ None
    unfolding refusal_of
    accepted = sym t.refused

    pub convertible_lem : Convertible e listing
    unfolding convert_refusal
    convertible_lem =
        let none_of = first_none _ accepted in
        record { begun = t.begun; ended = rest_none _ _ none_of.1.1.0; fits = whole_fits _ none_of.1.1.1.0 }

    pub converted_said : {a b : LineWriter} → Writes max_listing (converted listing) a b → Writes max_listing (convert listing) a b
    unfolding convert unless_refused
    converted_said w = said w (sym (ap (λ o. unless_refused o (converted listing)) accepted))

  pub refusal_said : (r : Refusal) → Tested listing (std.Err r) → {a b : LineWriter} → Writes refusal_room (refusal r.line r.cause) a b → Writes max_listing (convert listing) a b
  unfolding refusal_of convert unless_refused
  refusal_said r t w = within (said w (sym (ap (λ o. unless_refused o (converted listing)) (sym t.refused)))) (omega arith)
