-- The search for a key's slot passes over the keys that are below it, from the first on. Assumes nothing.
use Prim.Native.Nat.{ℕ, zero, suc, ◌+◌, ◌<◌, ◌≤◌}
use native.Mathlib.Nat.{add-zero}
use native.Mathlib.Omega.{arith}
use mathlib.Core.Bool.{Bool, true, false, cond}
use mathlib.Core.Path.{◌≡◌}
use Rattle.std.specs.List.{prefix_len}
use lib.Dec.{ltb}
use lib.ListN.{length, take, drop, get_or}
use lib.Seq.{drop-cons}
use Rattle.layout.specs.Columns.{Cols, at, slot_key}
use Rattle.mutation.specs.SetWrites.{seek}

pub seek_past : (C : Cols) (key i n : ℕ) → i + n ≤ length (C slot_key) → i + prefix_len (λ k. ltb k key) (take n (drop i (C slot_key))) ≡ seek C key i n
unfolding seek at
seek_past C key i zero l = add-zero i
seek_past C key i (suc n) l =
    let k : i < length (C slot_key) = omega arith in
    rw (drop-cons (C slot_key) i 0 k) (go (ltb (get_or (C slot_key) i 0) key) (seek_past C key (suc i) n (omega arith)))
  where
    go : (t : Bool) → suc i + prefix_len (λ k. ltb k key) (take n (drop (suc i) (C slot_key))) ≡ seek C key (suc i) n
        → i + cond t (1 + prefix_len (λ k. ltb k key) (take n (drop (suc i) (C slot_key)))) 0 ≡ cond t (seek C key (suc i) n) i
    go true e = omega (arith, e)
    go false e = add-zero i
