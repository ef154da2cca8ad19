-- `are_independent` meets its contract: the same fragment, or two that don't reach into each other. Assumes nothing.
use mathlib.Core.Bool.{not}
use mathlib.Core.Path.{ap, sym, ◌∙◌}
use borrow.Author.Tests.{eq-eqb, ne_eqb}
use Rattle.grouping.proofs.Apart.{same_independent, reached, not_reached}
use Rattle.grouping.proofs.independence.are_independent.Goals as goal

pub returns-then-a-b : goal.returns-then-a-b
returns-then-a-b c = same_independent _ _ _ _ (eq-eqb _ _ c.if-a-b.true)

pub returns-then-not-reaches : goal.returns-then-not-reaches
returns-then-not-reaches c =
    ap not c.reaches-then-not-reaches.ensures ∙ not_reached _ _ _ _ (ne_eqb _ _ c.if-a-b.false) (sym c.reaches.ensures ∙ c.if-not-reaches.true)

pub returns-else-not-reaches : goal.returns-else-not-reaches
returns-else-not-reaches c = ap not c.reaches.ensures ∙ reached _ _ _ _ (ne_eqb _ _ c.if-a-b.false) (sym c.reaches.ensures ∙ c.if-not-reaches.false)
