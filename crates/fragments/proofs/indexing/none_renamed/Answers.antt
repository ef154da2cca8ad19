-- `none_renamed` meets its contract: a lookup tells of each present type whether it has a row. Assumes nothing.
use Prim.Native.Nat.{ℕ}
use mathlib.Core.Bool.{Bool, not, ◌&&◌}
use mathlib.Core.List.{List, []}
use mathlib.Core.Path.{sym, ap, ap₂, ◌∙◌}
use lib.ListN.{get_or}
use Rattle.std.proofs.lemmas.List.{take_all}
use Rattle.std.proofs.lemmas.List.Folds.{list_all_more, list_all_at}
use Rattle.std.specs.List.{list_all}
use Rattle.rules.specs.Types.{old_types, stands_in}
use Rattle.fragments.proofs.Told.{found_told, all_present}
use Rattle.fragments.proofs.indexing.none_renamed.Goals as goal

pub returns-then-is_some : goal.returns-then-is_some
returns-then-is_some c =
    let types = c.args.types.now in
    let whole = c.requires.whole_and_few.whole in
    let p : ℕ → Bool = λ t. not (stands_in (old_types types) t) in
    let told = found_told types whole c.args.index.now c.requires.rows _ _ (c.row_of.ensures.finds _ c.requires.rows.entered) in
    sym
    (sym (all_present types whole p)
    ∙ ap (list_all (λ (row : List ℕ). p (get_or row 1 0))) (sym c.as_chunks.ensures.front)
    ∙ list_all_at (λ (row : List ℕ). p (get_or row 1 0)) c.as_chunks.result.0.now c.loop-present.present-index [] c.loop-present-test.true
    (sym told ∙ ap not (sym c.is_some.ensures ∙ c.if-is_some.true)))

pub loop-present-preserved : goal.loop-present-preserved
loop-present-preserved c =
    let types = c.args.types.now in
    let p : ℕ → Bool = λ t. not (stands_in (old_types types) t) in
    let told = found_told types c.requires.whole_and_few.whole c.args.index.now c.requires.rows _ _ (c.row_of.ensures.finds _ c.requires.rows.entered) in
    list_all_more (λ (row : List ℕ). p (get_or row 1 0)) c.as_chunks.result.0.now c.loop-present.present-index [] c.loop-present-test.true
    ∙ ap₂ ◌&&◌ c.loop-present.invariant (sym told ∙ ap not (sym c.is_some.ensures ∙ c.if-is_some.false))

pub returns : goal.returns
returns c =
    let types = c.args.types.now in
    let p : ℕ → Bool = λ t. not (stands_in (old_types types) t) in
    let rows = c.as_chunks.result.0.now in
    sym
    (sym (all_present types c.requires.whole_and_few.whole p)
    ∙ ap (list_all (λ (row : List ℕ). p (get_or row 1 0))) (sym c.as_chunks.ensures.front ∙ sym (take_all c.loop-present.present-index rows c.loop-present-test.false))
    ∙ c.loop-present.invariant)
