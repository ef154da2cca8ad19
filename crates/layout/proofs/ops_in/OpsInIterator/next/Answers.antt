-- Each step of a walk through a block's operations gives the first that is left, or none is. Assumes nothing.
use Rattle.std.proofs.Common.{◌≡◌, ◌+◌, ◌<◌, ◌∷◌, arith, rules}
use Rattle.rules.specs.Store.{ops_of}
use Rattle.layout.specs.Columns.{columns}
use Rattle.layout.specs.Reading.{op_count, store_in}
use Rattle.layout.specs.Children.{on_from}
use Rattle.layout.proofs.Laid.{Laid, laid_facts}
use Rattle.layout.proofs.ChildList.{ops_facts}
use Rattle.layout.proofs.Seeking.{NextChild, next_op, none_next}
use Rattle.layout.proofs.ops_in.OpsInIterator.next.Goals as goal

pub returns-in_err-n-clause-steps : goal.returns-in_err-n-clause-steps
returns-in_err-n-clause-steps c =
    let s = c.args.self.now in
    let ended = none_next s.from (ops_of (store_in s.store.now) s.block) _ c.next_op.ensures c.in_err-n.was in
    search (rules, c.from_residual.ensures)

pub overflow_add-self : goal.overflow_add-self
overflow_add-self c =
    let s = c.args.self.now in
    let laid : Laid (columns s.store.now) = laid_facts _ s.arranged.laid in
    let found : NextChild (ops_of (store_in s.store.now) s.block) s.from c.in_ok-n.n = next_op (store_in s.store.now) s.block s.from _ _ c.next_op.ensures c.in_ok-n.was in
    let here : c.in_ok-n.n < op_count (columns s.store.now) = (ops_facts _ laid s.block found.child).exists in
    let few : c.in_ok-n.n < 512 = omega (arith, here, laid.counts.ops) in
    record { fits = omega (arith, few) }

pub returns-clause-steps : goal.returns-clause-steps
returns-clause-steps c =
    let s = c.args.self.now in
    (next_op (store_in s.store.now) s.block s.from _ _ c.next_op.ensures c.in_ok-n.was).rest

pub returns-clause-goes : goal.returns-clause-goes
returns-clause-goes c =
    let s = c.args.self.now in
    let found : NextChild (ops_of (store_in s.store.now) s.block) s.from c.in_ok-n.n = next_op (store_in s.store.now) s.block s.from _ _ c.next_op.ensures c.in_ok-n.was in
    let rest : on_from s.from (ops_of (store_in s.store.now) s.block) ≡ c.in_ok-n.n ∷ on_from (c.in_ok-n.n + 1) (ops_of (store_in s.store.now) s.block) = found.rest in
    search rules
