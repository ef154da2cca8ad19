-- `present` meets its contract: the row that was found is the only one with this old type. Assumes nothing.
use mathlib.Core.Path.{sym, ◌∙◌}
use borrow.Author.Tests.{eqb-true}
use Rattle.fragments.proofs.Indexed.{table_of, present_alone, present_itself, present_row}
use Rattle.fragments.proofs.lookup.present.Goals as goal

pub returns-then-is_empty : goal.returns-then-is_empty
returns-then-is_empty c = sym (present_alone c.args.index.now c.args.t (eqb-true _ _ (sym c.is_empty.ensures ∙ c.if-is_empty.true)))

pub returns-in-Some : goal.returns-in-Some
returns-in-Some c =
    let words = table_of c.args.index.now c.requires c.is_empty.ensures c.if-is_empty.false in
    sym (present_row c.args.index.now words (c.in-Some.ensures.finds words.rows words.entered))

pub returns-in-None : goal.returns-in-None
returns-in-None c =
    let words = table_of c.args.index.now c.requires c.is_empty.ensures c.if-is_empty.false in
    sym (present_itself c.args.index.now words c.args.t (c.in-None.ensures.finds words.rows words.entered))
