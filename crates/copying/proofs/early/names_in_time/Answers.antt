-- `names_in_time` meets its contract: a scan of the operands and one of the successors, each of which ends at the first that lies inside and has no
-- number yet. Assumes nothing.
use Rattle.std.proofs.Common.{ap, ◌∙◌, arith}
use Rattle.rules.specs.Fragments.{defines_values, defines_blocks}
use Rattle.rules.specs.declared.types.Sort.TheVariants.{Op as op}
use Rattle.rules.specs.Copying.{numbered_names}
use Rattle.layout.specs.Columns.{columns}
use Rattle.layout.specs.Reading.{store_in}
use Rattle.fragments.proofs.Named.{operand_there, successor_there}
use Rattle.fragments.proofs.There.{is_there}
use Rattle.copying.proofs.InTime.{names_over, name_timely, name_late, operands_late, operands_first}
use Rattle.copying.proofs.early.names_in_time.Goals as goal

pub invariant_of-whole : goal.invariant_of-whole
invariant_of-whole c =
    record { sound = c.args.original.now.sound; exists = is_there (columns c.args.original.now.store.now) op c.args.original.now.n c.args.original.now.exists }

pub invariant_of-whole-in-loop-b : goal.invariant_of-whole-in-loop-b
invariant_of-whole-in-loop-b c =
    record { sound = c.args.original.now.sound; exists = is_there (columns c.args.original.now.store.now) op c.args.original.now.n c.args.original.now.exists }

pub value_in_time-requires : goal.value_in_time-requires
value_in_time-requires c =
    operand_there c.args.original.now.store.now c.args.original.now.sound c.args.m c.requires c.operands_of-v-items.ensures c.loop-v.v-index 0 c.loop-v-test.true

pub loop-v-preserved : goal.loop-v-preserved
loop-v-preserved c =
    λ N h.
    name_timely (defines_values (store_in c.args.original.now.store.now) op c.args.original.now.n) N.values c.operands_of-v-items.result.now c.loop-v.v-index (c.loop-v.invariant N h)
    c.loop-v-test.true (c.value_in_time.ensures N h) c.if-not-value_in_time.false

pub returns-then-not-value_in_time : goal.returns-then-not-value_in_time
returns-then-not-value_in_time c =
    let inside = defines_values (store_in c.args.original.now.store.now) op c.args.original.now.n in
    λ N h. operands_late (store_in c.args.original.now.store.now) c.args.original.now.n c.args.m N
    (name_late inside N.values c.operands_of-v-items.result.now c.loop-v.v-index (c.loop-v.invariant N h)
    c.loop-v-test.true (c.value_in_time.ensures N h) c.if-not-value_in_time.true
    ∙ ap (numbered_names inside N.values) c.operands_of-v-items.ensures)

pub block_in_time-requires : goal.block_in_time-requires
block_in_time-requires c =
    successor_there c.args.original.now.store.now c.args.original.now.sound _ (omega (arith, c.requires, c.args.original.now.exists)) c.successors_of-b-items.ensures c.loop-b.b-index 0 c.loop-b-test.true

pub loop-b-preserved : goal.loop-b-preserved
loop-b-preserved c =
    λ N h.
    name_timely (defines_blocks (store_in c.args.original.now.store.now) op c.args.original.now.n) N.blocks c.successors_of-b-items.result.now c.loop-b.b-index (c.loop-b.invariant N h)
    c.loop-b-test.true (c.block_in_time.ensures N h) c.if-not-block_in_time.false

pub returns-then-not-block_in_time : goal.returns-then-not-block_in_time
returns-then-not-block_in_time c =
    let values = defines_values (store_in c.args.original.now.store.now) op c.args.original.now.n in
    let blocks = defines_blocks (store_in c.args.original.now.store.now) op c.args.original.now.n in
    λ N h. operands_first (store_in c.args.original.now.store.now) c.args.original.now.n c.args.m N
    (names_over values N.values c.operands_of-v-items.result.now c.loop-v.v-index (c.loop-v.invariant N h) c.loop-v-test.false
    ∙ ap (numbered_names values N.values) c.operands_of-v-items.ensures)
    (name_late blocks N.blocks c.successors_of-b-items.result.now c.loop-b.b-index (c.loop-b.invariant N h)
    c.loop-b-test.true (c.block_in_time.ensures N h) c.if-not-block_in_time.true
    ∙ ap (numbered_names blocks N.blocks) c.successors_of-b-items.ensures)

pub returns : goal.returns
returns c =
    let values = defines_values (store_in c.args.original.now.store.now) op c.args.original.now.n in
    let blocks = defines_blocks (store_in c.args.original.now.store.now) op c.args.original.now.n in
    λ N h. operands_first (store_in c.args.original.now.store.now) c.args.original.now.n c.args.m N
    (names_over values N.values c.operands_of-v-items.result.now c.loop-v.v-index (c.loop-v.invariant N h) c.loop-v-test.false
    ∙ ap (numbered_names values N.values) c.operands_of-v-items.ensures)
    (names_over blocks N.blocks c.successors_of-b-items.result.now c.loop-b.b-index (c.loop-b.invariant N h) c.loop-b-test.false
    ∙ ap (numbered_names blocks N.blocks) c.successors_of-b-items.ensures)
