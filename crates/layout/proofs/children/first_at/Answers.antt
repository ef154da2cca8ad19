-- `first_at` meets its contract: each turn leaves the rest to search, until a word is w or none is left. Assumes nothing.
use native.Mathlib.Omega.{arith}
use mathlib.Core.Path.{refl, sym, ◌∙◌}
use Rattle.layout.specs.Columns.{columns}
use Rattle.layout.proofs.Finds.{word_none, word_here, word_next}
use Rattle.layout.proofs.children.first_at.Goals as goal

pub loop-i-init : goal.loop-i-init
loop-i-init c = refl

pub returns-then-at-w : goal.returns-then-at-w
returns-then-at-w c =
    let a = c.args in
    let i = c.loop-i.i in
    sym ((c.loop-i.invariant ∙ word_here (columns a.store.now) a.column a.w i a.e (omega arith) (sym c.at.ensures ∙ c.if-at-w.true)))

pub loop-i-preserved : goal.loop-i-preserved
loop-i-preserved c =
    let a = c.args in
    let i = c.loop-i.i in
    c.loop-i.invariant
    ∙ word_next (columns a.store.now) a.column a.w i a.e (omega arith) (λ e. c.if-at-w.false (c.at.ensures ∙ e))

pub returns : goal.returns
returns c =
    let a = c.args in
    let i = c.loop-i.i in
    sym ((c.loop-i.invariant ∙ word_none (columns a.store.now) a.column a.w i a.e (omega arith)))
