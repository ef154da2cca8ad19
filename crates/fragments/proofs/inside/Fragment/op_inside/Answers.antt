-- `op_inside` meets its contract: with no operation of a larger number around, the one come to is the fragment or lies outside; an operation that has
-- no parent lies outside too, and one in an outermost block inside. Assumes nothing.
use Rattle.std.proofs.Common.{◌≡◌, ◌<◌, ◌≤◌, ap, sym, subst, ◌∙◌, arith}
use Rattle.rules.specs.Fragments.{fragment_ops}
use Rattle.rules.specs.Copying.{has_place}
use Rattle.layout.specs.Columns.{columns, at, op_parent}
use Rattle.layout.specs.Reading.{store_in}
use Rattle.fragments.specs.Inside.{outer_op}
use Rattle.fragments.proofs.Few.{op_low}
use Rattle.fragments.proofs.Upward.{InBlock, stopped, op_alone, op_in_lem, around_op, block_own, block_in_lem}
use Rattle.fragments.proofs.inside.Fragment.op_inside.Goals as goal
use Rattle.fragments.proofs.inside.Fragment.op_inside.Goals.{In-loop-at, In-Some}

-- it is not come to yet
higher : (c : In-loop-at) → outer_op (store_in c.args.self.now.store.now) c.args.self.now.sort c.args.self.now.n < c.loop-at.at
higher c = omega (arith, c.outer_op-outer.ensures, c.loop-at-test.true)

-- the block that the operation stands in
in_block : (c : In-Some) → InBlock c.args.self.now.store.now c.args.self.now.sound c.args.self.now.sort c.args.self.now.n c.args.self.now.exists c.loop-at.at c.in-Some.b
in_block c =
    let a = c.args in
    let some = c.in-Some.ensures in
    subst (InBlock a.self.now.store.now a.self.now.sound a.self.now.sort a.self.now.n a.self.now.exists c.loop-at.at) (sym some.1)
    (op_in_lem a.self.now.store.now a.self.now.sound a.self.now.sort a.self.now.n a.self.now.exists
    c.loop-at.at c.number.result c.loop-at.invariant.bound (higher ((goal.at.In-Some c).In-loop-at))
    c.number.ensures (λ e. let z : ◌<◌ 0 c.number.result = omega (arith, some.0) in omega arith))

pub number-requires-clause-n_bound : goal.number-requires-clause-n_bound
number-requires-clause-n_bound c = op_low _ c.args.self.now.sound _ c.loop-at.invariant.bound

pub returns-in_default : goal.returns-in_default
returns-in_default c =
    let a = c.args in
    let no : 1 ≤ c.number.result → ⊥ = c.in_default.ensures in
    let none : at (columns a.self.now.store.now) op_parent c.loop-at.at ≡ 0 = omega (arith, c.number.ensures, no) in
    sym (op_alone a.self.now.store.now a.self.now.sound a.self.now.sort a.self.now.n a.self.now.exists
    c.loop-at.at c.loop-at.invariant.bound (higher ((goal.at.returns-in_default c).In-loop-at)) none)
    ∙ c.loop-at.invariant.same

pub is_outermost-requires : goal.is_outermost-requires
is_outermost-requires c = (in_block ((goal.at.is_outermost-requires c).In-Some)).block_in

pub returns-then-is_outermost : goal.returns-then-is_outermost
returns-then-is_outermost c =
    let a = c.args in
    let p = in_block ((goal.at.returns-then-is_outermost c).In-Some) in
    sym (block_own a.self.now.store.now a.self.now.sound a.self.now.sort a.self.now.n a.self.now.exists c.in-Some.b p.block_in (sym c.is_outermost.ensures ∙ c.if-is_outermost.true))
    ∙ sym p.same
    ∙ c.loop-at.invariant.same

pub op_around-at-requires-clause-block_bound : goal.op_around-at-requires-clause-block_bound
op_around-at-requires-clause-block_bound c = (in_block ((goal.at.op_around-at-requires-clause-block_bound c).In-Some)).block_in

pub loop-at-smaller : goal.loop-at-smaller
loop-at-smaller c =
    let p = in_block ((goal.at.loop-at-smaller c).In-Some) in
    omega (arith, p.smaller, c.op_around-at.ensures)

pub loop-at-preserved : goal.loop-at-preserved
loop-at-preserved c =
    let a = c.args in
    let b = a.self.now.store.now in
    let p = in_block ((goal.at.loop-at-preserved c).In-Some) in
    record {
      bound = omega (arith, around_op b a.self.now.sound c.in-Some.b p.block_in, c.op_around-at.ensures);
      same =
          ap (has_place (fragment_ops (store_in b) a.self.now.sort a.self.now.n)) c.op_around-at.ensures
          ∙ sym (block_in_lem b a.self.now.sound a.self.now.sort a.self.now.n a.self.now.exists c.in-Some.b p.block_in (sym c.is_outermost.ensures ∙ c.if-is_outermost.false))
          ∙ sym p.same
          ∙ c.loop-at.invariant.same;
    }

pub returns : goal.returns
returns c =
    let a = c.args in
    let low : c.loop-at.at ≤ outer_op (store_in a.self.now.store.now) a.self.now.sort a.self.now.n = omega (arith, c.outer_op-outer.ensures, c.loop-at-test.false) in
    c.is_itself.ensures
    ∙ stopped a.self.now.store.now a.self.now.sound a.self.now.sort a.self.now.n a.self.now.exists c.loop-at.at low
    ∙ c.loop-at.invariant.same
