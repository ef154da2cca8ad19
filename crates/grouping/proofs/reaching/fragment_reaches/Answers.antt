-- `fragment_reaches` meets its contract, sort by sort. Assumes nothing.
use Prim.Native.Nat.{◌<◌}
use mathlib.Core.Bool.{Bool, true}
use mathlib.Core.Path.{◌≡◌, sym, ap, subst, ◌∙◌}
use Rattle.rules.specs.Fragments.{exists}
use Rattle.rules.specs.declared.types.Sort.{Sort}
use Rattle.rules.specs.declared.types.Sort.TheVariants.{Op as op, Block as block, Region as region}
use Rattle.layout.specs.Columns.{columns}
use Rattle.layout.specs.Reading.{store_in}
use Rattle.fragments.proofs.There.{count_of, there}
use Rattle.grouping.specs.Reaching.{fragment_reaches}
use Rattle.grouping.proofs.ByParts.{op_whole, block_whole, region_whole}
use Rattle.grouping.proofs.reaching.fragment_reaches.Goals as goal
use Rattle.grouping.proofs.reaching.fragment_reaches.Goals.{Start}

module _ (c : Start) (f : Sort) (is : c.args.other.now.sort ≡ f) where
  here : c.args.x < count_of (columns c.args.other.now.store.now) f
  here = there (columns c.args.other.now.store.now) f c.args.x (subst (λ (g : Sort). exists (store_in c.args.other.now.store.now) g c.args.x ≡ true) is c.requires)

  -- what is so of this sort is so of the call
  told : {r : Bool} → r ≡ fragment_reaches (store_in c.args.other.now.store.now) f c.args.other.now.n c.args.x
      → r ≡ fragment_reaches (store_in c.args.other.now.store.now) c.args.other.now.sort c.args.other.now.n c.args.x
  told e = e ∙ sym (ap (λ (g : Sort). fragment_reaches (store_in c.args.other.now.store.now) g c.args.other.now.n c.args.x) is)

pub op_reaches-requires : goal.op_reaches-requires
op_reaches-requires c = here ((goal.at.op_reaches-requires c).Start) op c.in-Op.is

pub block_reaches-requires : goal.block_reaches-requires
block_reaches-requires c = here ((goal.at.block_reaches-requires c).Start) block c.in-Block.is

pub region_reaches-requires : goal.region_reaches-requires
region_reaches-requires c = here ((goal.at.region_reaches-requires c).Start) region c.in-Region.is

pub returns-in-Op : goal.returns-in-Op
returns-in-Op c =
    let is : c.args.other.now.sort ≡ op = c.in-Op.is in
    told ((goal.at.returns-in-Op c).Start) op is (rw is at c.op_reaches.ensures ∙ op_whole _ _ _)

pub returns-in-Block : goal.returns-in-Block
returns-in-Block c =
    let is : c.args.other.now.sort ≡ block = c.in-Block.is in
    told ((goal.at.returns-in-Block c).Start) block is (rw is at c.block_reaches.ensures ∙ block_whole _ _ _)

pub returns-in-Region : goal.returns-in-Region
returns-in-Region c =
    let is : c.args.other.now.sort ≡ region = c.in-Region.is in
    told ((goal.at.returns-in-Region c).Start) region is (rw is at c.region_reaches.ensures ∙ region_whole _ _ _)
