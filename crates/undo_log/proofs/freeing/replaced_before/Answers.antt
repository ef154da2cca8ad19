-- `replaced_before` meets its contract: an entry counts by its sort. Assumes nothing.
use Prim.Native.Nat.{ℕ}
use mathlib.Core.Path.{◌∙◌}
use native.Mathlib.Omega.{arith}
use borrow.Author.Tests.{tests}
use lib.Dec.{ltb}
use Rattle.std.proofs.Common.{rules}
use Rattle.std.proofs.lemmas.Iterator.{YieldsList-from_slice}
use Rattle.std.proofs.lemmas.Iterator.Consumers.{YieldsList-from_filter, count_from_yields_List}
use Rattle.layout.specs.Columns.{columns, journal_sort}
use Rattle.layout.proofs.Buffer.{columns_shaped}
use Rattle.undo_log.proofs.Listed.{first_words}
use Rattle.undo_log.proofs.Gone.{counted}
use Rattle.undo_log.proofs.freeing.replaced_before.Goals as goal

pub returns : goal.returns
returns c =
    let C = columns c.args.store.now in
    count_from_yields_List c.filter.result c.count.result c.count.ensures.ran
    (YieldsList-from_filter _ (λ (x : ℕ). ltb x 2) (YieldsList-from_slice c.words.result.now cc) (cc) (λ x b q j. search (rules, tests)))
    ∙ counted C c.args.n c.words.result.now (c.words.ensures ∙ first_words C journal_sort c.args.n (omega (arith, columns_shaped c.args.store.now c.told-store journal_sort)))
