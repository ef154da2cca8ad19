-- `is_twin` meets its contract: independence reads no type, and so is the same under present types. Assumes nothing.
use mathlib.Core.Bool.{Bool, ◌&&◌}
use mathlib.Core.Path.{sym, ap, ◌∙◌}
use Rattle.rules.specs.declared.types.Sort.TheVariants.{Op as op}
use Rattle.rules.specs.Laws.{equal}
use Rattle.rules.specs.Grouping.{is_twin}
use Rattle.rules.proofs.RenamedTypes.Under.{independent_renamed}
use Rattle.layout.specs.Columns.{columns}
use Rattle.layout.specs.Reading.{store_in}
use Rattle.fragments.specs.Options.{renamed_under}
use Rattle.fragments.specs.View.{options_in}
use Rattle.fragments.proofs.There.{is_there}
use Rattle.grouping.proofs.finding.is_twin.Goals as goal

pub are_independent-requires-clause-a_value : goal.are_independent-requires-clause-a_value
are_independent-requires-clause-a_value c = is_there (columns c.args.view.now.store.now) op c.args.m c.requires.m_bound

pub are_independent-requires-clause-b_value : goal.are_independent-requires-clause-b_value
are_independent-requires-clause-b_value c = is_there (columns c.args.view.now.store.now) op c.args.n c.requires.n_bound

pub returns-then-not-are_independent-clause-value : goal.returns-then-not-are_independent-clause-value
unfolding is_twin
returns-then-not-are_independent-clause-value c =
    let a = c.args in
    let o = options_in a.view.now in
    let s = store_in a.view.now.store.now in
    sym (ap (λ (b : Bool). b && equal (renamed_under o s) o.ignore op a.m a.n) (independent_renamed o.types s op a.m a.n ∙ sym c.are_independent.ensures ∙ c.if-not-are_independent.true))

pub returns-clause-value : goal.returns-clause-value
unfolding is_twin
returns-clause-value c =
    let a = c.args in
    let o = options_in a.view.now in
    let s = store_in a.view.now.store.now in
    c.equal_ops.ensures.value
    ∙ sym (ap (λ (b : Bool). b && equal (renamed_under o s) o.ignore op a.m a.n) (independent_renamed o.types s op a.m a.n ∙ sym c.are_independent.ensures ∙ c.if-not-are_independent.false))
