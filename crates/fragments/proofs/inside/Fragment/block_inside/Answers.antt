-- `block_inside` meets its contract: a block that is not outermost lies inside where the operation around it does. Assumes nothing.
use Rattle.std.proofs.Common.{ap, sym, ◌∙◌, arith}
use Rattle.rules.specs.Fragments.{fragment_ops}
use Rattle.rules.specs.Copying.{has_place}
use Rattle.layout.specs.Reading.{store_in}
use Rattle.fragments.proofs.Upward.{around_op, block_own, block_in_lem}
use Rattle.fragments.proofs.inside.Fragment.block_inside.Goals as goal

pub op_inside-requires : goal.op_inside-requires
op_inside-requires c = omega (arith, c.op_around.ensures, around_op c.args.self.now.store.now c.args.self.now.sound c.args.b c.requires)

pub returns-then-is_outermost : goal.returns-then-is_outermost
returns-then-is_outermost c =
    let a = c.args in
    c.if-is_outermost.true
    ∙ sym (block_own a.self.now.store.now a.self.now.sound a.self.now.sort a.self.now.n a.self.now.exists a.b c.requires (sym c.is_outermost.ensures ∙ c.if-is_outermost.true))

pub returns-else-is_outermost : goal.returns-else-is_outermost
returns-else-is_outermost c =
    let a = c.args in
    c.op_inside.ensures
    ∙ ap (has_place (fragment_ops (store_in a.self.now.store.now) a.self.now.sort a.self.now.n)) c.op_around.ensures
    ∙ sym (block_in_lem a.self.now.store.now a.self.now.sound a.self.now.sort a.self.now.n a.self.now.exists a.b c.requires (sym c.is_outermost.ensures ∙ c.if-is_outermost.false))
