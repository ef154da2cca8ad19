-- What the key calls give: the rules' answers, for every buffer, list of types, ignore rule, number and lent bytes.
use Rattle.std.specs.Prelude.{ℕ, Bool, List, ◌≡◌}
use Rattle.std.specs.Prelude as std
use Rattle.rules.specs.declared.types.Sort.{Sort}
use Rattle.rules.specs.declared.types.Ignore.{Ignore}
use Rattle.rules.specs.Keys as rules
use Rattle.rules.specs.Keys.{keyed}
use Rattle.layout.specs.Reading.{store_in}
use Rattle.rules.specs.declared.types.Cause.{Cause}

-- the rules' answer for each case
unfoldable pub keyed_of : std.Result ℕ Cause → rules.Keyed
keyed_of (std.Ok n) = rules.key_length n
keyed_of (std.Err cause) = rules.refused_key cause

-- of a fragment under a lent list of types, with the lent bytes before and after; `ok` is whether the store is sound
pub record KeyAnswers (ok : Bool) (store types : List ℕ) (ig : Ignore) (f : Sort) (n : ℕ) (before after : List ℕ) (q : rules.Keyed) : Type 0 where
  pub told : (keyed ok (store_in store) types ig f n before).answer ≡ q
  pub bytes : (keyed ok (store_in store) types ig f n before).bytes ≡ after
