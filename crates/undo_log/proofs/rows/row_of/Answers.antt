-- `row_of` meets its contract: the numbers of the rows are gone through from the oldest on. Assumes nothing.
use Prim.Native.Nat.{ℕ}
use mathlib.Core.Path.{ap, ◌∙◌}
use native.Mathlib.Omega.{arith}
use borrow.Author.Tests.{tests}
use lib.Dec.{eqb}
use Rattle.std.proofs.Common.{rules}
use Rattle.std.proofs.lemmas.Iterator.{YieldsList-from_slice}
use Rattle.std.proofs.lemmas.Iterator.Search.{position_from_yields_List}
use Rattle.layout.specs.Columns.{columns, mark_number}
use Rattle.layout.specs.MarkedReading.{mark_count}
use Rattle.layout.specs.Reading.{slice}
use Rattle.layout.proofs.Buffer.{columns_shaped}
use Rattle.undo_log.proofs.Listed.{first_words}
use Rattle.undo_log.proofs.Sought.{position_row}
use Rattle.undo_log.proofs.rows.row_of.Goals as goal

pub returns : goal.returns
unfolding mark_count
returns c =
    let C = columns c.args.store.now in
    let k = c.args.mark in
    position_from_yields_List (λ (x : ℕ). eqb x k) _ _ c.position.result c.position.ensures.ran (YieldsList-from_slice c.words.result.now cc) (λ x b q j. search (rules, tests))
    ∙ position_row C k c.words.result.now
    (c.words.ensures ∙ ap (slice (C mark_number) 0) c.number-count.ensures
    ∙ first_words C mark_number (mark_count C) (omega (arith, columns_shaped c.args.store.now c.told-store mark_number)))
