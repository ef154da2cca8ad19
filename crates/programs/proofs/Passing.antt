-- What is printed for the bytes that were read is what is printed for all that the reader has: one byte more is read than a listing may
-- have, and a longer one is refused by its length alone. Assumes nothing.
use Rattle.rules.specs.declared.types.Cause.TheVariants.{BadLength}
use Rattle.std.proofs.Common.{ℕ, suc, ◌<◌, ◌≤◌, List, [], ◌++◌, Option, None, Some, IfSome, ◌≡◌, ◌∙◌, ap, arith, sym, subst, take, length, length-append, length-take-le, append-nil}
use Rattle.std.proofs.lemmas.Bool.{lt-leb}
use native.Mathlib.Decide.{dec_le}
use Rattle.std.specs.Prelude.{Some}
use Rattle.std.specs.Io.KnownBytes.{Appends, Consumes, IsAtEnd}
use Rattle.rules.specs.Listings.{listed, listing_cause, unless, refusal, twins, sums, max_listing}
use Rattle.rules.specs.Converting.{first_some, convert_refusal, unless_refused, convert}
use Rattle.programs.specs.Commands.{output_of}
use Rattle.programs.specs.declared.commands.Command.{Command}
use Rattle.programs.specs.declared.commands.Command.TheVariants.{Twins, Sums, Convert}

cause_of_long : (bytes : List ℕ) → max_listing < length bytes → listing_cause bytes ≡ Some BadLength
unfolding listing_cause
cause_of_long bytes h = rw (lt-leb (length bytes) max_listing h)

too_long_lem : (c : Command) (bytes : List ℕ) → max_listing < length bytes → output_of c bytes ≡ refusal 1 BadLength
unfolding output_of twins sums listed unless convert convert_refusal first_some unless_refused
too_long_lem Twins bytes h = rw (cause_of_long bytes h)
too_long_lem Sums bytes h = rw (cause_of_long bytes h)
too_long_lem Convert bytes h = rw (cause_of_long bytes h)

-- with what the reader has left
with_rest : (c : Command) (bytes rest : List ℕ) → (length bytes ≤ max_listing → rest ≡ []) → output_of c bytes ≡ output_of c (bytes ++ rest)
with_rest c bytes rest h =
    elim (dec_le (length bytes) max_listing) [
      | yes short ↦ ap (output_of c) (sym (append-nil bytes) ∙ ap (λ l. bytes ++ l) (sym (h short)))
      | no over ↦ too_long_lem c bytes (omega arith) ∙ sym (too_long_lem c (bytes ++ rest) (omega (arith, length-append {A = ℕ})))
    ]

module _ (c : Command) (buffer : List ℕ) (n : ℕ) (long : length buffer ≡ suc max_listing) (fits : n ≤ length buffer) where
  none_left : (rest : List ℕ) → (n < length buffer → rest ≡ []) → length (take n buffer) ≤ max_listing → rest ≡ []
  none_left rest ended h = ended (let e = length-take-le n buffer fits in omega (arith, e))

  pub all_read_lem : (before after old new : Option (List ℕ)) → Consumes before after (take n buffer) → (n < length buffer → IsAtEnd after)
      → Appends old new (output_of c (take n buffer)) → IfSome before (λ bytes. Appends old new (output_of c bytes))
  all_read_lem None after old new taken ended w = tt
  all_read_lem (Some bytes) None old new taken ended w = absurd taken
  all_read_lem (Some bytes) (Some rest) old new taken ended w =
      subst (λ b. Appends old new (output_of c b)) (sym taken) (subst (Appends old new) (with_rest c (take n buffer) rest (none_left rest ended)) w)
