-- The hashes of the operations that came so far are in their places. Assumes nothing.
use Prim.Native.Nat.{ℕ, ◌<◌}
use mathlib.Core.Path.{◌≡◌}
use lib.ListN.{length, get_or}
use Rattle.rules.specs.declared.types.Sort.TheVariants.{Op as op}
use Rattle.rules.specs.Hash.{hash}
use Rattle.layout.specs.Reading.{store_in}
use Rattle.fragments.specs.Options.{renamed_under}
use Rattle.fragments.specs.View.{options_in}
use Rattle.grouping.proofs.hashes.operation_hashes.Given as goal

abbrev pub invariant-loop-n : goal.invariant-loop-n
invariant-loop-n l =
    (length l.hashes ≡ 512)
    × ((k : ℕ) → k < l.n → get_or l.hashes k 0 ≡ hash (renamed_under (options_in l.view) (store_in l.view.store.now)) (options_in l.view).ignore op k)
