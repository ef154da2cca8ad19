-- `op_eq_map` meets its contract: where the shells differ nothing is entered, and else the operation and its values are. Assumes nothing.
use Rattle.std.proofs.Common.{arith, ap, sym, ◌∙◌}
use Rattle.rules.specs.declared.types.Owner.TheVariants.{Op as of_op}
use Rattle.layout.specs.Columns.{columns}
use Rattle.layout.specs.Reading.{store_in, consecutive}
use Rattle.layout.proofs.Laid.{laid_facts}
use Rattle.fragments.specs.Options.{Options}
use Rattle.fragments.specs.View.{options_in}
use Rattle.equivalence.specs.MappingWords.{values_mapped}
use Rattle.equivalence.proofs.Paired.{Side, op_side, ops_unlike, ops_alike}
use Rattle.equivalence.proofs.pairing.op_eq_map.Goals as goal

pub overflow_cast-result : goal.overflow_cast-result
overflow_cast-result c = record { fits = omega (arith, (laid_facts (columns c.args.view.now.store.now) c.args.view.now.readable.sound.laid).counts.ops) }

pub overflow_cast-result-then-not-op_shells_eq : goal.overflow_cast-result-then-not-op_shells_eq
overflow_cast-result-then-not-op_shells_eq c = record { fits = omega (arith, (laid_facts (columns c.args.view.now.store.now) c.args.view.now.readable.sound.laid).counts.ops) }

pub overflow_cast-rhs : goal.overflow_cast-rhs
overflow_cast-rhs c = record { fits = omega (arith, (laid_facts (columns c.args.view.now.store.now) c.args.view.now.readable.sound.laid).counts.ops) }

pub returns-then-not-op_shells_eq : goal.returns-then-not-op_shells_eq
returns-then-not-op_shells_eq c =
    let a = c.args in
    let rule : Options = options_in a.view.now in
    ops_unlike (store_in a.view.now.store.now) rule a.pair.lhs a.pair.rhs a.mapping.now a.paired
    (sym c.op_shells_eq.ensures ∙ c.if-not-op_shells_eq.true)

pub map_op-requires : goal.map_op-requires
map_op-requires c = omega (arith, (laid_facts (columns c.args.view.now.store.now) c.args.view.now.readable.sound.laid).counts.ops)

pub map_values-requires-clause-right_bound : goal.map_values-requires-clause-right_bound
map_values-requires-clause-right_bound c =
    let a = c.args in
    let rule : Options = options_in a.view.now in
    let sides : Side (columns a.view.now.store.now) (of_op a.pair.lhs) (of_op a.pair.rhs) c.op_row-l.result c.op_row-r.result =
    op_side a.view.now.store.now rule a.pair.lhs a.pair.rhs c.args.view.now.readable.sound c.requires.lhs_bound c.requires.rhs_bound c.op_row-l.ensures
    c.op_row-r.ensures (sym c.op_shells_eq.ensures ∙ c.if-not-op_shells_eq.false) in
    sides.right_fits

pub returns : goal.returns
returns c =
    let a = c.args in
    let rule : Options = options_in a.view.now in
    let sides : Side (columns a.view.now.store.now) (of_op a.pair.lhs) (of_op a.pair.rhs) c.op_row-l.result c.op_row-r.result =
    op_side a.view.now.store.now rule a.pair.lhs a.pair.rhs c.args.view.now.readable.sound c.requires.lhs_bound c.requires.rhs_bound c.op_row-l.ensures
    c.op_row-r.ensures (sym c.op_shells_eq.ensures ∙ c.if-not-op_shells_eq.false) in
    let l = c.op_row-l.result in
    let r = c.op_row-r.result in
    ops_alike (store_in a.view.now.store.now) rule a.pair.lhs a.pair.rhs a.mapping.now a.paired c.map_values.new.mapping (consecutive l.value l.values)
    (consecutive r.value l.values)
    (sym c.op_shells_eq.ensures ∙ c.if-not-op_shells_eq.false) sides.left sides.right
    (c.map_values.ensures ∙ ap (λ m. values_mapped m (consecutive l.value l.values) (consecutive r.value l.values)) c.map_op.ensures)
