-- `holds_nothing` meets its contract by its two tests. Assumes nothing.
use Rattle.std.proofs.Common.{◌≡◌, true, sym, ◌∙◌, subst, eqb-true}
use Rattle.rules.specs.Store.{regions_of}
use Rattle.rules.specs.Fragments.{exists}
use Rattle.rules.specs.declared.types.Sort.TheVariants.{Op as op}
use Rattle.layout.specs.Columns.{columns}
use Rattle.layout.specs.Reading.{store_in}
use Rattle.fragments.proofs.There.{there}
use Rattle.fragments.proofs.Lone.{no_children}
use Rattle.fragments.proofs.regionless.holds_nothing.Goals as goal

pub op_regions-requires : goal.op_regions-requires
op_regions-requires c =
    let b = c.args.store.now in
    let n = c.args.n in
    record {
      sound = c.requires.sound;
      n_bound = there (columns b) op n (subst (λ x. exists (store_in b) x n ≡ true) c.in-Op.is c.requires.n_value);
    }

pub returns-in-Op : goal.returns-in-Op
returns-in-Op c =
    let a = c.args in
    λ e. (c.in-Op.is, no_children (regions_of (store_in a.store.now) a.n) (sym c.op_regions.ensures ∙ eqb-true c.op_regions.result 0 e))
