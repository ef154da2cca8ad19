-- `marks_hold` meets its contract: the copy has the buffer's words, and the rows are tested on it. Assumes nothing.
use Prim.Native.Nat.{ℕ}
use mathlib.Core.Bool.{true}
use mathlib.Core.List.{List}
use mathlib.Core.Path.{◌≡◌, sym, ap, ◌∙◌}
use Rattle.layout.specs.Columns.{columns}
use Rattle.validation.specs.Lending.{words_hold, rows_hold_in}
use Rattle.validation.proofs.Marks.{words_fail, rows_tell}
use Rattle.validation.proofs.lent.marks_hold.Goals as goal

pub returns-then-not-words_hold : goal.returns-then-not-words_hold
returns-then-not-words_hold c =
    words_fail (columns c.args.store.now) c.requires.nonzero (sym c.words_hold.ensures ∙ c.if-not-words_hold.true)

pub returns : goal.returns
returns c =
    let words : words_hold (columns c.args.store.now) ≡ true = sym c.words_hold.ensures ∙ c.if-not-words_hold.false in
    c.rows_hold.ensures ∙ ap (λ (b : List ℕ). rows_hold_in (columns b)) c.copy_from_slice.ensures.after
    ∙ rows_tell (columns c.args.store.now) c.requires.nonzero words
