-- `first_uses_may_agree` meets its contract: it is false only at an operand that tells the runs apart. Assumes nothing.
use Prim.Native.Nat.{ℕ, ◌<◌}
use native.Mathlib.Omega.{arith}
use mathlib.Core.Bool.{true}
use mathlib.Core.List.{List, Memᴰ}
use mathlib.Core.Path.{◌≡◌, sym, ap, subst, ◌∙◌}
use lib.Dec.{ltb}
use lib.ListN.{length, get_or}
use Rattle.std.proofs.lemmas.Slice.Zip.{zip_turn}
use Rattle.std.specs.Iterator.Adapters.{zip_first, zip_second}
use Rattle.std.specs.Slice.Iter.{iter_rest}
use Rattle.std.specs.List.{list_all}
use Rattle.layout.specs.Columns.{columns}
use Rattle.layout.specs.Reading.{op_count, value_count, store_in}
use Rattle.equivalence.proofs.Named.{operands_below}
use Rattle.equivalence.proofs.Pairs.{below_at}
use Rattle.repeated_runs.specs.Walked.{left_results}
use Rattle.repeated_runs.proofs.Listed.{op_here}
use Rattle.repeated_runs.proofs.FirstOperands.{uses_differ}
use Rattle.repeated_runs.proofs.uses.first_uses_may_agree.Goals as goal
use Rattle.repeated_runs.proofs.uses.first_uses_may_agree.Goals.{Start, In-Some}

left_here : (c : Start) → get_or c.args.ops.now c.args.two.left 0 < op_count (columns c.args.store.now)
left_here c = op_here c.requires.sound c.requires.runs_in.listed c.args.two.left (omega (arith, c.requires.runs_in.some, c.requires.runs_in.left))

-- a turn's operands stand at one place
pair_turn : (c : In-Some) → (length c.loop-value.yielded < length c.operands_of-l.result.now)
    × (length c.loop-value.yielded < length c.operands_of-r.result.now)
    × ((d : ℕ) → c.in-Some.value.now ≡ get_or c.operands_of-l.result.now (length c.loop-value.yielded) d)
    × ((d : ℕ) → c.in-Some.other.now ≡ get_or c.operands_of-r.result.now (length c.loop-value.yielded) d)
pair_turn c =
    let first : iter_rest (zip_first c.into_iter-value-iterator.result) ≡ c.operands_of-l.result.now = cc in
    let second : iter_rest (zip_second c.into_iter-value-iterator.result) ≡ c.operands_of-r.result.now = cc in
    zip_turn c.operands_of-l.result.now c.operands_of-r.result.now c.loop-value.yielded _ _ c.next.new.self _ first second c.loop-value.yielded_by (c.in-Some.value, c.in-Some.other) c.in-Some.is c.next.ensures.steps

pub operands_of-l-requires-clause-n_bound : goal.operands_of-l-requires-clause-n_bound
operands_of-l-requires-clause-n_bound c = left_here ((goal.at.operands_of-l-requires-clause-n_bound c).Start)

pub operands_of-r-requires-clause-n_bound : goal.operands_of-r-requires-clause-n_bound
operands_of-r-requires-clause-n_bound c =
    op_here c.requires.sound c.requires.runs_in.listed c.args.two.right (omega (arith, c.requires.runs_in.some, c.requires.runs_in.right))

pub may_define-requires-clause-value_bound : goal.may_define-requires-clause-value_bound
may_define-requires-clause-value_bound c =
    let l = c.operands_of-l.result.now in
    let S = store_in c.args.store.now in
    let k = length c.loop-value.yielded in
    let turn = pair_turn ((goal.at.may_define-requires-clause-value_bound c).In-Some) in
    let below = operands_below c.args.store.now c.requires.sound (get_or c.args.ops.now c.args.two.left 0) (left_here ((goal.at.may_define-requires-clause-value_bound c).Start)) in
    let listed : list_all (λ (v : ℕ). ltb v (value_count (columns c.args.store.now))) l ≡ true =
    subst (λ (vs : List ℕ). list_all (λ (v : ℕ). ltb v (value_count (columns c.args.store.now))) vs ≡ true) (sym c.operands_of-l.ensures) below in
    subst (λ (v : ℕ). v < value_count (columns c.args.store.now)) (sym (turn.2 0)) (below_at _ l listed k turn.0)

pub returns-then-not-may_define : goal.returns-then-not-may_define
returns-then-not-may_define c types ig e =
    let turn = pair_turn ((goal.at.returns-then-not-may_define c).In-Some) in
    let k = length c.loop-value.yielded in
    let left = turn.2 0 ∙ ap (λ (vs : List ℕ). get_or vs k 0) c.operands_of-l.ensures in
    let right = turn.3 0 ∙ ap (λ (vs : List ℕ). get_or vs k 0) c.operands_of-r.ensures in
    let outside = c.may_define.ensures c.if-not-may_define.true in
    uses_differ c.requires.runs_in types ig k (subst (λ (vs : List ℕ). k < length vs) c.operands_of-l.ensures turn.0) (λ same. c.if-value-other.true (left ∙ same ∙ sym right))
    (λ m. outside (subst (λ (v : ℕ). Memᴰ v (left_results (store_in c.args.store.now) c.args.ops.now c.args.two)) (sym left) m))
