-- `child_linked` meets its contract: without an owner there is no link to test; else the link and the end of the owner's range are tested. Assumes nothing.
use mathlib.Core.Bool.{Bool, true, cond}
use mathlib.Core.Path.{sym, ap, ap₂, ◌∙◌}
use Prim.Native.Nat.{ℕ, ◌-◌}
use borrow.Author.Tests.{lt-ltb, le-ltb}
use Rattle.layout.specs.Columns.{columns, at}
use Rattle.layout.specs.Soundness.{link_holds}
use Rattle.layout.specs.Families.{child_linked_by}
use Rattle.layout.proofs.links.child_linked.Goals as goal

pub returns-then-word-family : goal.returns-then-word-family
unfolding child_linked_by
returns-then-word-family c =
    let a = c.args in
    let C = columns a.store.now in
    sym (ap (λ (b : Bool). cond b true (link_holds a.next (at C a.family.links a.n) (at C a.family.ends (a.word - a.family.offset)) a.n)) (lt-ltb _ _ c.if-word-family.true))

pub returns : goal.returns
unfolding child_linked_by
returns c =
    let a = c.args in
    let C = columns a.store.now in
    c.link_holds.ensures
    ∙ ap₂ (λ (l e : ℕ). link_holds a.next l e a.n) c.at.ensures c.number-end.ensures
    ∙ sym (ap (λ (b : Bool). cond b true (link_holds a.next (at C a.family.links a.n) (at C a.family.ends (a.word - a.family.offset)) a.n)) (le-ltb _ _ c.if-word-family.false))
