-- `find_twins` meets its contract: fewer words than operations are cause 13, and of any others those in front are written. Assumes nothing.
use Prim.Native.Nat.{ℕ, ◌≤◌}
use native.Mathlib.Omega.{arith}
use mathlib.Core.Bool.{true}
use mathlib.Core.Path.{◌≡◌, sym, subst, ◌∙◌}
use lib.ListN.{length, take}
use lib.Seq.{length-take-le}
use Rattle.rules.specs.Types.{types_hold}
use Rattle.layout.specs.Columns.{columns}
use Rattle.layout.specs.Reading.{op_count, store_in}
use Rattle.layout.proofs.Laid.{laid_facts}
use Rattle.layout.proofs.Tabulate.{ops_length}
use Rattle.fragments.specs.Index.{list_in}
use Rattle.fragments.proofs.Indexed.{index_holds}
use Rattle.fragments.specs.View.{options_in}
use Rattle.grouping.specs.Twins.{HashesOf}
use Rattle.grouping.proofs.Answering.{too_short, found}
use Rattle.grouping.proofs.finding.find_twins.Goals as goal
use Rattle.grouping.proofs.finding.find_twins.Goals.{After-number-count}

holds : (c : After-number-count) → types_hold (list_in c.args.view.now.index.now) ≡ true
holds c = index_holds c.args.view.now.index.now c.args.view.now.readable.indexed

-- how many operations there are
counted : (c : After-number-count) → c.number-count.result ≡ op_count (columns c.args.view.now.store.now)
unfolding op_count
counted c = c.number-count.ensures

all_counted : (c : After-number-count) → c.number-count.result ≡ length (store_in c.args.view.now.store.now).ops
all_counted c = counted c ∙ sym (ops_length (columns c.args.view.now.store.now))

few : (c : After-number-count) → c.number-count.result ≤ 512
few c = omega (arith, counted c, (laid_facts (columns c.args.view.now.store.now) c.args.view.now.readable.sound.laid).counts.ops)

pub returns-then-twins-count : goal.returns-then-twins-count
returns-then-twins-count c =
    let a = c.args in
    let at = (goal.at.returns-then-twins-count c).After-number-count in
    too_short a.view.now.store.now (list_in a.view.now.index.now) a.view.now.ignore a.twins.now (holds at) (omega (arith, c.if-twins-count.true, all_counted at))

pub slice_bounds-hashes-end : goal.slice_bounds-hashes-end
slice_bounds-hashes-end c = omega (arith, c.operation_hashes.array_long, few ((goal.at.slice_bounds-hashes-end c).After-number-count))

pub slice_bounds-write_twins-end : goal.slice_bounds-write_twins-end
slice_bounds-write_twins-end c =
    sym (length-take-le _ _ (omega (arith, c.operation_hashes.array_long, few ((goal.at.slice_bounds-write_twins-end c).After-number-count))))

pub write_twins-requires-clause-hashes : goal.write_twins-requires-clause-hashes
write_twins-requires-clause-hashes c =
    subst (λ (n : ℕ). HashesOf (store_in c.args.view.now.store.now) (options_in c.args.view.now) (take n c.operation_hashes.new.hashes))
    (sym (counted ((goal.at.write_twins-requires-clause-hashes c).After-number-count))) c.operation_hashes.ensures

pub write_twins-requires-clause-twins_len : goal.write_twins-requires-clause-twins_len
write_twins-requires-clause-twins_len c =
    length-take-le c.number-count.result c.args.twins.now c.if-twins-count.false ∙ counted ((goal.at.write_twins-requires-clause-twins_len c).After-number-count)

pub returns : goal.returns
returns c =
    let a = c.args in
    let at = (goal.at.returns c).After-number-count in
    found a.view.now.store.now (list_in a.view.now.index.now) a.view.now.ignore a.twins.now (holds at) (omega (arith, c.if-twins-count.false, all_counted at))
    c.number-count.result (all_counted at) c.write_twins.new.twins (c.write_twins.auto.twins ∙ length-take-le c.number-count.result a.twins.now c.if-twins-count.false) c.write_twins.ensures
