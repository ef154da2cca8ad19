-- `close` meets its contract, program by program. Assumes nothing.
use Prim.Native.Nat.{ℕ}
use mathlib.Core.Path.{ap₂, subst}
use Rattle.rules.specs.Listings.{per_cent, share, share_line}
use Rattle.lines.specs.Writing.{Writes}
use Rattle.lines.specs.Room.{share_room}
use Rattle.listing.specs.Stepping.{closes}
use Rattle.lines.proofs.Joined.{nothing}
use Rattle.listing.proofs.closing.close.Goals as goal

pub put_share-requires : goal.put_share-requires
put_share-requires c =
    let counted = c.counts-counted.ensures in
    record { share_room_in_bounds = c.requires; equal_le_all = counted.part; all_le_max_ops = counted.few }

pub returns-in-Twins : goal.returns-in-Twins
unfolding closes share
returns-in-Twins c =
    let told = c.counts-counted.ensures in
    let a = c.args in
    let line = c.put_share in
    let cents = ap₂ per_cent told.equal told.all in
    rw c.in-Twins.is (subst (λ (cent : ℕ). Writes share_room (share_line cent) a.out.now line.new.out) cents line.ensures)

pub returns-in-Sums : goal.returns-in-Sums
unfolding closes
returns-in-Sums c = rw c.in-Sums.is (nothing share_room _)
