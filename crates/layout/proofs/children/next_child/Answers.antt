-- `next_child` meets its contract: the next child is found by a link, or by a search of its owner's range. Assumes nothing.
use native.Mathlib.Omega.{arith}
use mathlib.Core.Path.{sym, ◌∙◌}
use Rattle.layout.proofs.Linking.{behind_facts}
use Rattle.layout.proofs.Following.{by_link, by_search}
use Rattle.layout.proofs.children.next_child.Goals as goal

pub overflow_sub-from : goal.overflow_sub-from
overflow_sub-from g c =
    omega (arith, (behind_facts _ _ _ _ c.args.from (sym c.is_behind.ensures ∙ c.if-is_behind.true)).above)

pub number-requires-clause-n_bound : goal.number-requires-clause-n_bound
number-requires-clause-n_bound g c =
    let f = behind_facts _ _ _ _ c.args.from (sym c.is_behind.ensures ∙ c.if-is_behind.true) in
    omega (arith, f.exists, c.number-count.ensures, c.requires.linked)

pub returns-then-is_behind : goal.returns-then-is_behind
returns-then-is_behind g c =
    by_link c.requires.children c.args.from c.number-count.ensures c.is_behind.ensures c.if-is_behind.true c.number.ensures c.linked.ensures

pub returns : goal.returns
returns g c =
    by_search c.requires.children c.args.from c.number-2.ensures c.max-start.ensures c.number-end.ensures c.first_at.ensures
