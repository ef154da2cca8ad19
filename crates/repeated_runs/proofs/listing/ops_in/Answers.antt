-- `ops_in` meets its contract: the operations that came are written, one behind the other. Assumes nothing.
use Rattle.std.proofs.Common.{◌≡◌, ℕ, ◌+◌, ◌<◌, List, [], ◌∷◌, ◌++◌, length, take, set, ap, ◌∙◌, add-one, arith, length-append, length-set, take-suc-set}
use Rattle.rules.specs.Store.{ops_of}
use Rattle.rules.proofs.Runs.Answered.{few_ops}
use Rattle.layout.specs.Columns.{columns}
use Rattle.layout.specs.OpsLeft.{ops_left}
use Rattle.layout.specs.Reading.{op_count, store_in}
use Rattle.layout.proofs.Laid.{laid_facts}
use Rattle.fragments.proofs.Ordered.{op_in_lem}
use Rattle.fragments.proofs.Yielded.{item_comes, all_came, comes_mem, came_fewer}
use Rattle.repeated_runs.proofs.listing.ops_in.Goals as goal
use Rattle.repeated_runs.proofs.listing.ops_in.Goals.{In-Some}

op_comes : (c : In-Some) → c.loop-n.yielded ++ c.in-Some.n ∷ ops_left c.next.new.self ≡ ops_of (store_in c.args.store.now) c.args.b
op_comes c =
    item_comes ops_left _ _ _ _ (ap ops_left c.into_iter-n-iterator.ensures.into_iter_gives ∙ c.new-n-items.ensures) c.loop-n.yielded_by c.next.new.self _ _ c.in-Some.is c.next.ensures.steps

-- a block has room for one more
one_more : (c : In-Some) → c.loop-n.passed < 512
one_more c =
    let fewer = came_fewer _ _ _ _ (op_comes c) in
    let few = few_ops (store_in c.args.store.now) c.requires.sound.ruled c.args.b in
    omega (arith, fewer, few, length-append c.loop-n.yielded (c.in-Some.n ∷ []))

pub overflow_cast-ops : goal.overflow_cast-ops
overflow_cast-ops c =
    let C = columns c.args.store.now in
    let here : c.in-Some.n < op_count C = op_in_lem C c.args.b _ (comes_mem _ _ _ _ (op_comes ((goal.at.overflow_cast-ops c).In-Some))) in
    record { fits = omega (arith, here, (laid_facts C c.requires.sound.laid).counts.ops) }

pub bounds-ops-passed : goal.bounds-ops-passed
bounds-ops-passed c = omega (arith, one_more ((goal.at.bounds-ops-passed c).In-Some), c.loop-n.invariant.2)

pub loop-n-preserved : goal.loop-n-preserved
loop-n-preserved c =
    let m = c.loop-n in
    let n = c.in-Some.n in
    let room : m.passed < length m.ops = omega (arith, one_more ((goal.at.loop-n-preserved c).In-Some), m.invariant.2) in
    let written : take (m.passed + 1) (set m.ops m.passed n) ≡ take m.passed m.ops ++ (n ∷ []) =
    ap (λ (k : ℕ). take k (set m.ops m.passed n)) (add-one m.passed) ∙ take-suc-set m.ops m.passed n room in (
      omega (arith, m.invariant.0, length-append m.yielded (n ∷ [])),
      written ∙ ap (λ (xs : List ℕ). xs ++ (n ∷ [])) m.invariant.1,
      length-set m.ops m.passed n ∙ m.invariant.2,
    )

pub returns : goal.returns
returns c =
    let m = c.loop-n in
    let came = all_came ops_left _ _ _ _ (ap ops_left c.into_iter-n-iterator.ensures.into_iter_gives ∙ c.new-n-items.ensures) m.yielded_by c.next.new.self _ c.in-None.is c.next.ensures.steps in
    record { lists = record { many = m.invariant.0 ∙ ap length came; first = m.invariant.1 ∙ came }; ops_long = m.invariant.2 }
