-- What a call for repeated runs gives: the rules' answer, for every buffer, list of renamed types, ignore rule, block and length.
use Rattle.std.specs.Prelude.{ℕ, Bool, List, ◌≡◌}
use Rattle.std.specs.Prelude as std
use Rattle.rules.specs.declared.types.Ignore.{Ignore}
use Rattle.rules.specs.Runs as rules
use Rattle.rules.specs.Runs.{repeated, repeated_of, repeated_run}
use Rattle.rules.specs.declared.types.Cause.{Cause}
use Rattle.layout.specs.Reading.{store_in}
use Rattle.fragments.specs.Options.{renamed_under}
use Rattle.fragments.specs.View.{store_read, options_in}
use Rattle.fragments.specs.declared.view.StoreView.{StoreView}
use Rattle.repeated_runs.specs.declared.types.Starts.{Starts}
use Rattle.repeated_runs.specs.declared.types.Runs.{Runs}

-- the rules' answer for each case
unfoldable pub found_of : std.Result (std.Option Starts) Cause → rules.Repeated
found_of (std.Ok (std.Some two)) = rules.run_found (record { left = two.left; right = two.right })
found_of (std.Ok std.None) = rules.no_run
found_of (std.Err cause) = rules.refused_run cause

-- the answer is the first two of these runs, under an index of renamed types; nothing is refused
abbrev pub FirstTwo : StoreView → Runs → std.Option Starts → Type 0
FirstTwo view x q =
    found_of (std.Ok q) ≡ repeated_of (repeated (renamed_under (options_in view) (store_read view)) (options_in view).ignore x.block x.n)

-- of a block, under a list of renamed types; `ok` is whether the store is sound
pub record RunAnswers (ok : Bool) (store types : List ℕ) (ig : Ignore) (b n : ℕ) (q : std.Result (std.Option Starts) Cause) : Type 0 where
  pub told : repeated_run ok (store_in store) types ig b n ≡ found_of q
