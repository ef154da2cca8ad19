-- `operation_hashes` meets its contract: each operation exists, and with each turn one hash more is in its place. Assumes nothing.
use Rattle.std.proofs.Common.{◌<◌, ◌≤◌, ◌≡◌, ◌≢◌, length, sym, ◌∙◌, arith, below_more, length-set, get_or-set_other, get_or-set_same}
use lib.Seq.{length-take-le}
use Rattle.std.proofs.lemmas.List.{get_or-take}
use Rattle.rules.specs.declared.types.Sort.TheVariants.{Op as op}
use Rattle.layout.specs.Columns.{columns}
use Rattle.layout.specs.Reading.{op_count, store_in}
use Rattle.layout.proofs.Laid.{laid_facts}
use Rattle.layout.proofs.Tabulate.{ops_length}
use Rattle.fragments.proofs.Few.{op_low}
use Rattle.fragments.proofs.There.{is_there}
use Rattle.grouping.proofs.hashes.operation_hashes.Goals as goal
use Rattle.grouping.proofs.hashes.operation_hashes.Goals.{In-loop-n}

below : (c : In-loop-n) → c.loop-n.n < op_count (columns c.args.view.now.store.now)
unfolding op_count
below c = omega (arith, c.number-n-end.ensures, c.loop-n-test.true)

low : (c : In-loop-n) → c.loop-n.n < 512
low c = op_low c.args.view.now.store.now c.args.view.now.readable.sound c.loop-n.n (below c)

pub existing_hash-requires : goal.existing_hash-requires
existing_hash-requires c = is_there (columns c.args.view.now.store.now) op c.loop-n.n (below ((goal.at.existing_hash-requires c).In-loop-n))

pub offset_bounds-hashes-n : goal.offset_bounds-hashes-n
offset_bounds-hashes-n c = record { fits = omega (arith, low ((goal.at.offset_bounds-hashes-n c).In-loop-n)) }

pub bounds-hashes-n : goal.bounds-hashes-n
bounds-hashes-n c = low ((goal.at.bounds-hashes-n c).In-loop-n)

pub loop-n-preserved : goal.loop-n-preserved
loop-n-preserved c = (
  length-set _ _ _ ∙ c.loop-n.invariant.0,
  below_more _ _
      (λ k l. let ne : k ≢ c.loop-n.n = omega arith in rw get_or-set_other (c.loop-n.invariant.1 k l))
      (let here : c.loop-n.n < length c.loop-n.hashes = omega (arith, c.loop-n.invariant.0, low ((goal.at.loop-n-preserved c).In-loop-n)) in
      rw get_or-set_same c.existing_hash.ensures),
)

pub returns : goal.returns
unfolding op_count
returns c =
    let C = columns c.args.view.now.store.now in
    let many : length (store_in c.args.view.now.store.now).ops ≡ op_count C = ops_length C in
    let few : op_count C ≤ length c.loop-n.hashes = omega (arith, c.loop-n.invariant.0, (laid_facts C c.args.view.now.readable.sound.laid).counts.ops) in
    record {
      many = length-take-le (op_count C) c.loop-n.hashes few ∙ sym many;
      each = λ n l. get_or-take (op_count C) c.loop-n.hashes n 0 (omega (arith, l, many)) ∙ c.loop-n.invariant.1 n (omega (arith, l, many, c.number-n-end.ensures, c.loop-n-test.false));
    }
