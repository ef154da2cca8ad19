-- `copy_cause` meets its contract: it makes the tests in their order. Assumes nothing.
use mathlib.Core.Path.{sym, ◌∙◌}
use Rattle.layout.specs.Reading.{store_in}
use Rattle.rules.specs.Causes.{cause_of}
use Rattle.copying.proofs.Refusing.{exists_op, inside, early, deep, full, clear}
use Rattle.copying.proofs.cloning.copy_cause.Goals as goal

pub returns-then-not-placed_outside : goal.returns-then-not-placed_outside
unfolding cause_of
returns-then-not-placed_outside c =
    let a = c.args in
    let r = c.requires in
    sym (inside (store_in c.args.original.now.store.now) c.args.original.now.n a.parent (exists_op c.args.original.now.store.now c.args.original.now.n c.args.original.now.exists) r
    (sym c.placed_outside.ensures ∙ c.if-not-placed_outside.true))

pub returns-then-not-in_time : goal.returns-then-not-in_time
unfolding cause_of
returns-then-not-in_time c =
    let a = c.args in
    let r = c.requires in
    sym (early (store_in c.args.original.now.store.now) c.args.original.now.n a.parent (exists_op c.args.original.now.store.now c.args.original.now.n c.args.original.now.exists) r
    (sym c.placed_outside.ensures ∙ c.if-not-placed_outside.false)
    (sym c.in_time.ensures ∙ c.if-not-in_time.true))

pub returns-then-not-copy_nests : goal.returns-then-not-copy_nests
unfolding cause_of
returns-then-not-copy_nests c =
    let a = c.args in
    let r = c.requires in
    sym (deep (store_in c.args.original.now.store.now) c.args.original.now.n a.parent (exists_op c.args.original.now.store.now c.args.original.now.n c.args.original.now.exists) r
    (sym c.placed_outside.ensures ∙ c.if-not-placed_outside.false)
    (sym c.in_time.ensures ∙ c.if-not-in_time.false)
    (sym c.copy_nests.ensures ∙ c.if-not-copy_nests.true))

pub returns-then-not-copy_totals_hold : goal.returns-then-not-copy_totals_hold
unfolding cause_of
returns-then-not-copy_totals_hold c =
    let a = c.args in
    let r = c.requires in
    sym (full (store_in c.args.original.now.store.now) c.args.original.now.n a.parent (exists_op c.args.original.now.store.now c.args.original.now.n c.args.original.now.exists) r
    (sym c.placed_outside.ensures ∙ c.if-not-placed_outside.false)
    (sym c.in_time.ensures ∙ c.if-not-in_time.false)
    (sym c.copy_nests.ensures ∙ c.if-not-copy_nests.false)
    (sym (c.copy_totals_hold.ensures a.parent) ∙ c.if-not-copy_totals_hold.true))

pub returns : goal.returns
unfolding cause_of
returns c =
    let a = c.args in
    let r = c.requires in
    sym (clear (store_in c.args.original.now.store.now) c.args.original.now.n a.parent (exists_op c.args.original.now.store.now c.args.original.now.n c.args.original.now.exists) r
    (sym c.placed_outside.ensures ∙ c.if-not-placed_outside.false)
    (sym c.in_time.ensures ∙ c.if-not-in_time.false)
    (sym c.copy_nests.ensures ∙ c.if-not-copy_nests.false)
    (sym (c.copy_totals_hold.ensures a.parent) ∙ c.if-not-copy_totals_hold.false))
