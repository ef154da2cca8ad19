-- `is_outermost` meets its contract: no block is an operation, and the region of a block is read from its word. Assumes nothing.
use Prim.Native.Nat.{ℕ}
use mathlib.Core.Path.{◌≡◌, sym, ap, ◌∙◌}
use lib.Dec.{eqb}
use Rattle.rules.specs.declared.types.Sort.{Sort}
use Rattle.rules.specs.declared.types.Sort.TheVariants.{Op as op, Block as block, Region as region}
use Rattle.layout.specs.Reading.{store_in}
use Rattle.fragments.specs.Inside.{is_outermost}
use Rattle.fragments.proofs.Few.{block_low}
use Rattle.fragments.proofs.Upward.{of_region}
use Rattle.fragments.proofs.inside.Fragment.is_outermost.Goals as goal
use Rattle.fragments.proofs.inside.Fragment.is_outermost.Goals.{Start}

as_sort : (c : Start) (f : Sort) → c.args.self.now.sort ≡ f
    → is_outermost (store_in c.args.self.now.store.now) f c.args.self.now.n c.args.b ≡ is_outermost (store_in c.args.self.now.store.now) c.args.self.now.sort c.args.self.now.n c.args.b
as_sort c f is = sym (ap (λ (x : Sort). is_outermost (store_in c.args.self.now.store.now) x c.args.self.now.n c.args.b) is)

pub returns-in-Op : goal.returns-in-Op
unfolding is_outermost
returns-in-Op c = as_sort ((goal.at.returns-in-Op c).Start) op c.in-Op.is

pub returns-in-Block : goal.returns-in-Block
unfolding is_outermost
returns-in-Block c = as_sort ((goal.at.returns-in-Block c).Start) block c.in-Block.is

pub number-requires-clause-n_bound : goal.number-requires-clause-n_bound
number-requires-clause-n_bound c = block_low _ c.args.self.now.sound _ c.requires

pub returns-in-Region : goal.returns-in-Region
returns-in-Region c =
    let a = c.args in
    ap (λ (r : ℕ). eqb r a.self.now.n) c.number.ensures
    ∙ of_region a.self.now.store.now a.self.now.sound a.self.now.n a.b c.requires
    ∙ as_sort ((goal.at.returns-in-Region c).Start) region c.in-Region.is
