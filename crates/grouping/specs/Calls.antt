-- What the calls give: the rules' answers, for every buffer, numbers, list of renamed types, ignore rule and lent words.
use Rattle.std.specs.Prelude.{◌≡◌, ℕ, Bool, List}
use Rattle.std.specs.Prelude as std
use Rattle.rules.specs.declared.types.Sort.{Sort}
use Rattle.rules.specs.declared.types.Ignore.{Ignore}
use Rattle.rules.specs.Independence as rules
use Rattle.rules.specs.Independence.{independence}
use Rattle.rules.specs.Grouping as twins
use Rattle.rules.specs.Grouping.{grouping}
use Rattle.rules.specs.declared.types.Cause.{Cause}
use Rattle.layout.specs.Reading.{store_in}

-- the rules' answer for each case
unfoldable pub independence_of : std.Result Bool Cause → rules.Independence
independence_of (std.Ok answer) = rules.independence_is answer
independence_of (std.Err cause) = rules.refused_independence cause

unfoldable pub grouped_of : std.Result ℕ Cause → twins.Grouped
grouped_of (std.Ok count) = twins.grouped count
grouped_of (std.Err cause) = twins.refused_twins cause

-- of two fragments of a sort; `ok` is whether the store is sound
pub record IndependenceAnswers (ok : Bool) (store : List ℕ) (f : Sort) (a b : ℕ) (q : std.Result Bool Cause) : Type 0 where
  pub told : independence ok (store_in store) f a b ≡ independence_of q

-- of a store's operations under a lent list of types, with the lent words before and after
pub record TwinsAnswers (ok : Bool) (store types : List ℕ) (ig : Ignore) (before after : List ℕ) (q : std.Result ℕ Cause) : Type 0 where
  pub told : grouping ok (store_in store) types ig before ≡ record { answer = grouped_of q; words = after }
