-- `placed_outside` meets its contract: with no block there is nothing to lie inside, and a block that is named exists. Assumes nothing.
use Rattle.std.proofs.Common.{◌≡◌, true, ap, sym, subst, ◌∙◌}
use mathlib.Core.Bool.{not}
use Rattle.rules.specs.Store.{parent_exists}
use Rattle.rules.specs.declared.types.Sort.TheVariants.{Op as op}
use Rattle.rules.specs.Copying.{placed_outside}
use Rattle.layout.specs.Columns.{columns}
use Rattle.layout.specs.Reading.{store_in}
use Rattle.layout.proofs.Tabulate.{block_in_lem}
use Rattle.fragments.proofs.There.{is_there}
use Rattle.copying.proofs.inside.placed_outside.Goals as goal

pub block_inside-requires : goal.block_inside-requires
unfolding parent_exists
block_inside-requires c =
    block_in_lem (columns c.args.store.now) c.in-Some.b
    (subst (λ p. parent_exists (store_in c.args.store.now) p ≡ true) c.in-Some.is c.requires.parent_value)

pub returns-in_default : goal.returns-in_default
unfolding placed_outside
returns-in_default c = sym (ap (λ p. placed_outside (store_in c.args.store.now) c.args.n p) c.in_default.is)

pub invariant_of-whole : goal.invariant_of-whole
invariant_of-whole c =
    record { sound = c.requires.sound; exists = is_there (columns c.args.store.now) op c.args.n c.requires.n_bound }

pub returns : goal.returns
unfolding placed_outside
returns c =
    ap not c.block_inside.ensures ∙ sym (ap (λ p. placed_outside (store_in c.args.store.now) c.args.n p) c.in-Some.is)
