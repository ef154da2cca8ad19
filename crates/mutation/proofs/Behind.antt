-- The columns of marks and of the journal stand behind every column that building calls write. Assumes nothing.
use Prim.Native.Nat.{ℕ, ◌<◌}
use native.Mathlib.Omega.{arith}
use mathlib.Core.Bool.{true, false}
use mathlib.Core.Path.{◌≡◌}
use borrow.Author.Tests.{ne_eqb, leb-true}
use lib.Dec.{eqb, leb}
use Rattle.layout.specs.Columns.{block_next}

-- a column behind the last of these is none of them
pub apart : (j : ℕ) → block_next < j → (k : ℕ) → leb k block_next ≡ true → eqb j k ≡ false
apart j l k e = ne_eqb j k (λ q. omega (arith, leb-true k block_next e))
