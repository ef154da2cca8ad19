-- `link_holds` meets its contract: the link is compared with the next child, and the end only where there is none. Assumes nothing.
use mathlib.Core.Path.{sym}
use Rattle.layout.proofs.Linking.{link_differs, link_inner, link_last}
use Rattle.layout.proofs.links.link_holds.Goals as goal

pub returns-then-link-next : goal.returns-then-link-next
returns-then-link-next c = let a = c.args in sym (link_differs a.next a.link a.end a.n c.if-link-next.true)

pub returns-then-next-ne0 : goal.returns-then-next-ne0
returns-then-next-ne0 c = let a = c.args in sym (link_inner a.next a.link a.end a.n c.if-link-next.false c.if-next-ne0.true)

pub returns : goal.returns
returns c = let a = c.args in sym (link_last a.next a.link a.end a.n c.if-link-next.false c.if-next-ne0.false)
