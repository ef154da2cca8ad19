-- `value_inside` meets its contract: a value lies inside where its owner does, which the lowest bit of the owner's word tells to be an operation or a
-- block. Assumes nothing.
use Rattle.std.proofs.Common.{sym, ◌∙◌}
use Rattle.fragments.proofs.Few.{value_low}
use Rattle.fragments.proofs.Upward.{result_op, result_in, argument_block, argument_in}
use Rattle.fragments.proofs.inside.Fragment.value_inside.Goals as goal

pub number-owner-requires-clause-n_bound : goal.number-owner-requires-clause-n_bound
number-owner-requires-clause-n_bound c = value_low _ c.args.self.now.sound _ c.requires

pub op_inside-requires : goal.op_inside-requires
op_inside-requires c =
    let a = c.args in
    result_op a.self.now.store.now a.self.now.sound a.self.now.sort a.self.now.n a.self.now.exists
    a.v c.requires c.number-owner.result c.number-owner.ensures c.if-owner-eq0.true

pub returns-then-owner-eq0 : goal.returns-then-owner-eq0
returns-then-owner-eq0 c =
    let a = c.args in
    c.op_inside.ensures
    ∙ sym (result_in a.self.now.store.now a.self.now.sound a.self.now.sort a.self.now.n a.self.now.exists
    a.v c.requires c.number-owner.result c.number-owner.ensures c.if-owner-eq0.true)

pub block_inside-requires : goal.block_inside-requires
block_inside-requires c =
    let a = c.args in
    argument_block a.self.now.store.now a.self.now.sound a.self.now.sort a.self.now.n a.self.now.exists
    a.v c.requires c.number-owner.result c.number-owner.ensures c.if-owner-eq0.false

pub returns : goal.returns
returns c =
    let a = c.args in
    c.block_inside.ensures
    ∙ sym (argument_in a.self.now.store.now a.self.now.sound a.self.now.sort a.self.now.n a.self.now.exists
    a.v c.requires c.number-owner.result c.number-owner.ensures c.if-owner-eq0.false)
