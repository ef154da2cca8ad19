-- `outer_op` meets its contract: the operation around a block or a region is read from the words as the rules have it. Assumes nothing.
use Prim.Native.Nat.{◌<◌}
use native.Mathlib.Omega.{arith}
use mathlib.Core.Bool.{true}
use mathlib.Core.Path.{◌≡◌, sym, ap, subst, ◌∙◌}
use Rattle.rules.specs.Fragments.{exists}
use Rattle.rules.specs.declared.types.Sort.{Sort}
use Rattle.rules.specs.declared.types.Sort.TheVariants.{Op as op, Block as block, Region as region}
use Rattle.layout.specs.Columns.{columns}
use Rattle.layout.specs.Reading.{store_in}
use Rattle.layout.proofs.Laid.{laid_facts}
use Rattle.fragments.specs.Inside.{outer_op}
use Rattle.fragments.proofs.There.{count_of, there}
use Rattle.fragments.proofs.Upward.{outer_block, outer_region}
use Rattle.fragments.proofs.inside.Fragment.outer_op.Goals as goal
use Rattle.fragments.proofs.inside.Fragment.outer_op.Goals.{Start}

module _ (c : Start) (f : Sort) (is : c.args.self.now.sort ≡ f) where
  -- it is a fragment of this sort
  here : c.args.self.now.n < count_of (columns c.args.self.now.store.now) f
  here = there (columns c.args.self.now.store.now) f c.args.self.now.n (subst (λ (x : Sort). exists (store_in c.args.self.now.store.now) x c.args.self.now.n ≡ true) is c.args.self.now.exists)

  as_sort : outer_op (store_in c.args.self.now.store.now) f c.args.self.now.n ≡ outer_op (store_in c.args.self.now.store.now) c.args.self.now.sort c.args.self.now.n
  as_sort = sym (ap (λ (x : Sort). outer_op (store_in c.args.self.now.store.now) x c.args.self.now.n) is)

pub returns-in-Op : goal.returns-in-Op
unfolding outer_op
returns-in-Op c = as_sort ((goal.at.returns-in-Op c).Start) op c.in-Op.is

pub op_around-requires-clause-block_bound : goal.op_around-requires-clause-block_bound
op_around-requires-clause-block_bound c = here ((goal.at.op_around-requires-clause-block_bound c).Start) block c.in-Block.is

pub returns-in-Block : goal.returns-in-Block
returns-in-Block c =
    let start = (goal.at.returns-in-Block c).Start in
    let e : c.args.self.now.sort ≡ block = c.in-Block.is in
    c.op_around.ensures ∙ outer_block c.args.self.now.store.now c.args.self.now.sound c.args.self.now.n (here start block e) ∙ as_sort start block e

pub number-requires-clause-n_bound : goal.number-requires-clause-n_bound
number-requires-clause-n_bound c =
    omega (
      arith,
      (laid_facts (columns c.args.self.now.store.now) c.args.self.now.sound.laid).counts.regions,
      here ((goal.at.number-requires-clause-n_bound c).Start) region c.in-Region.is,
    )

pub returns-in-Region : goal.returns-in-Region
returns-in-Region c =
    let start = (goal.at.returns-in-Region c).Start in
    let e : c.args.self.now.sort ≡ region = c.in-Region.is in
    c.number.ensures ∙ outer_region c.args.self.now.store.now c.args.self.now.sound c.args.self.now.n (here start region e) ∙ as_sort start region e
