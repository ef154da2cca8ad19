-- `put` meets its contract: all bytes are written where they fit, and else none. Assumes nothing.
use native.Mathlib.Omega.{arith}
use mathlib.Core.List.{List, ◌++◌}
use mathlib.Core.Path.{refl, ap}
use Prim.Native.Nat.{ℕ}
use lib.ListN.{length, drop}
use Rattle.keys.proofs.Putting.{put_whole, put_short}
use Rattle.keys.proofs.numbers.put.Goals as goal

pub returns-then-end-key : goal.returns-then-end-key
returns-then-end-key c =
    let bytes = c.args.bytes.now in
    put_whole bytes (omega arith) refl c.if-end-key.true (ap (λ (bs : List ℕ). bs ++ drop (length bytes) c.args.key.now) c.copy_from_slice.ensures.after)

pub returns-else-end-key : goal.returns-else-end-key
returns-else-end-key c = put_short c.args.bytes.now (omega arith) refl c.if-end-key.false
