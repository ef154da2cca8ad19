-- `images_of` meets its contract: the images so far stand in front, in the order of the names. Assumes nothing.
use Rattle.std.proofs.Common.{◌≡◌, ℕ, ◌+◌, ◌≤◌, take, map, get_or, length}
use Rattle.rules.specs.Mapping.{or_self}
use Rattle.copying.proofs.writing.images_of.Given as goal

abbrev pub invariant-loop-i : goal.invariant-loop-i
invariant-loop-i l =
    (l.i ≤ length l.names) × (take l.i l.into ≡ map (λ (v : ℕ). or_self (get_or l.mapping (l.base + v) 0) v) (take l.i l.names))
