-- `same_type` meets its contract: equal numbers have one present type, and without words each type is its own. Assumes nothing.
use mathlib.Core.Bool.{not}
use mathlib.Core.Path.{sym, ap, ap₂, ◌∙◌}
use borrow.Author.Tests.{eqb-true, ne_eqb}
use lib.Dec.{eqb}
use Rattle.fragments.proofs.Indexed.{present_alone}
use Rattle.fragments.proofs.lookup.same_type.Goals as goal

pub returns-else-not-is_empty : goal.returns-else-not-is_empty
returns-else-not-is_empty c =
    let a = c.args in
    let none = eqb-true _ _ (sym c.is_empty.ensures ∙ c.if-not-is_empty.false) in
    ap not c.if-not-is_empty.false
    ∙ sym (ap₂ eqb (present_alone a.index.now a.a none) (present_alone a.index.now a.b none) ∙ ne_eqb a.a a.b c.if-a-b.false)
