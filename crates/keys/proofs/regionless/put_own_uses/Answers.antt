-- `put_own_uses` meets its contract: the operands, then the successors. Assumes nothing.
use Rattle.std.proofs.Common.{rules}
use Prim.Native.Nat.{◌+◌, ◌-◌}
use native.Mathlib.Omega.{arith}
use mathlib.Core.List.{[]}
use mathlib.Core.Path.{◌≡◌, sym, ap, ◌∙◌}
use Rattle.rules.specs.Store.{Store, op_at, values_of}
use Rattle.rules.specs.declared.types.Owner.TheVariants.{Op as of_op}
use Rattle.rules.specs.Hash.{name_of}
use Rattle.layout.specs.Reading.{tabulate_from, consecutive, store_in}
use Rattle.keys.proofs.Putting.{put_then, put_as}
use Rattle.keys.specs.Written.{names_bytes}
use Rattle.keys.proofs.Naming.{outside_named}
use Rattle.keys.proofs.regionless.put_own_uses.Goals as goal

pub returns : goal.returns
unfolding consecutive tabulate_from names_bytes
returns c =
    let store : Store = store_in c.args.store.now in
    let n = c.args.n in
    let r = c.op_row-row.result in
    let many : r.value + r.values - r.value ≡ r.values = omega arith in
    let own : consecutive r.value (r.value + r.values - r.value) ≡ values_of store (of_op n) =
    ap (consecutive r.value) many ∙ sym c.op_row-row.ensures.values in
    put_then (names_bytes (values_of store (of_op n)) (op_at store n).operands) (names_bytes [] (op_at store n).successors) (omega arith)
    (put_as (λ i. names_bytes (own i) (c.operands_of.ensures i))
    (c.put_uses-at.ensures (name_of (consecutive r.value (r.value + r.values - r.value))) (λ i x l h. search rules)))
    c.min-rest.ensures
    (put_as (ap (names_bytes []) c.successors_of-successors.ensures) (c.put_uses.ensures (name_of []) (λ i x l h. search (rules, outside_named))))
    c.saturating_add.ensures
