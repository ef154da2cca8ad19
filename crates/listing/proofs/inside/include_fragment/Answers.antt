-- `include_fragment` meets its contract, sort by sort: the places that are left are included with the operations inside the fragment, and so make
-- its tally. Assumes nothing.
use Prim.Native.Nat.{◌<◌}
use mathlib.Core.Bool.{true}
use mathlib.Core.Path.{◌≡◌, subst}
use Rattle.rules.specs.Fragments.{exists}
use Rattle.rules.specs.declared.types.Sort.{Sort}
use Rattle.rules.specs.declared.types.Sort.TheVariants.{Op as op, Block as block, Region as region}
use Rattle.layout.specs.Columns.{columns}
use Rattle.layout.specs.Reading.{store_in}
use Rattle.fragments.proofs.There.{count_of, there}
use Rattle.listing.specs.Tally.{included_all, Tallied}
use Rattle.listing.proofs.Alike.{ops_included}
use Rattle.listing.proofs.Tallies.{makes_tally}
use Rattle.listing.proofs.inside.include_fragment.Goals as goal
use Rattle.listing.proofs.inside.include_fragment.Goals.{Start}

module _ (c : Start) (f : Sort) (is : c.args.sort ≡ f) where
  here : exists (store_in c.args.store.now) f c.args.n ≡ true
  here = subst (λ (x : Sort). exists (store_in c.args.store.now) x c.args.n ≡ true) is c.requires.n_value

  below : c.args.n < count_of (columns c.args.store.now) f
  below = there (columns c.args.store.now) f c.args.n here

  made : Tallied (store_in c.args.store.now) c.args.sort c.args.n c.args.found c.args.tally.now (included_all c.args.found (ops_included (store_in c.args.store.now) f c.args.n) c.args.tally.now)
  made =
      rw is (makes_tally (store_in c.args.store.now) c.requires.sound.ruled f c.args.n here c.args.found c.args.tally.now (record { long = c.told-tally }))

pub include_op-requires : goal.include_op-requires
include_op-requires c = below ((goal.at.include_op-requires c).Start) op c.in-Op.is

pub include_block-requires : goal.include_block-requires
include_block-requires c =
    below ((goal.at.include_block-requires c).Start) block c.in-Block.is

pub include_region-requires : goal.include_region-requires
include_region-requires c =
    below ((goal.at.include_region-requires c).Start) region c.in-Region.is

pub returns-in-Op : goal.returns-in-Op
unfolding ops_included
returns-in-Op c = rw c.include_op.ensures (made ((goal.at.returns-in-Op c).Start) op c.in-Op.is)

pub returns-in-Block : goal.returns-in-Block
unfolding ops_included
returns-in-Block c = rw c.include_block.ensures (made ((goal.at.returns-in-Block c).Start) block c.in-Block.is)

pub returns-in-Region : goal.returns-in-Region
unfolding ops_included
returns-in-Region c = rw c.include_region.ensures (made ((goal.at.returns-in-Region c).Start) region c.in-Region.is)
