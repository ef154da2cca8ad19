-- `put_names` meets its contract: the operands, then the successors, and nothing is numbered. Assumes nothing.
use Rattle.std.proofs.Common.{rules}
use Prim.Native.Nat.{ℕ, ◌<◌}
use native.Mathlib.Omega.{arith}
use mathlib.Core.Bool.{true}
use mathlib.Core.Path.{◌≡◌, sym, ap, subst}
use lib.Dec.{ltb}
use lib.ListN.{length, get_or}
use Rattle.std.specs.List.{list_all}
use Rattle.rules.specs.Store.{Store, op_at, max_blocks}
use Rattle.rules.specs.Hash.{name_of}
use Rattle.layout.specs.Reading.{value_count, store_in}
use Rattle.layout.specs.Columns.{columns}
use Rattle.layout.proofs.Tabulate.{ops_length, values_length}
use Rattle.fragments.proofs.Rounds.{operands_there, successors_few, below_at}
use Rattle.keys.proofs.Putting.{put_then, put_as}
use Rattle.keys.specs.Written.{names_bytes}
use Rattle.keys.proofs.Naming.{block_named}
use Rattle.keys.proofs.Writing.{wrote_names}
use Rattle.keys.proofs.names.put_names.Goals as goal

pub put_uses-at-requires : goal.put_uses-at-requires
put_uses-at-requires c =
    let store : Store = store_in c.args.store.now in
    let inside : c.args.n < length store.ops =
    subst (λ (k : ℕ). c.args.n < k) (sym (ops_length (columns c.args.store.now))) c.requires.n_bound in
    let count : ℕ = value_count (columns c.args.store.now) in
    let there : list_all (λ (v : ℕ). ltb v count) (op_at store c.args.n).operands ≡ true =
    subst (λ (k : ℕ). list_all (λ (v : ℕ). ltb v k) (op_at store c.args.n).operands ≡ true) (values_length (columns c.args.store.now))
    (operands_there store c.requires.sound.ruled c.args.n inside) in
    let list = c.operands_of-operands.result.now in
    let below : (i : ℕ) → i < length list → get_or list i 0 < count =
    below_at count list (subst (λ xs. list_all (λ (v : ℕ). ltb v count) xs ≡ true) (sym c.operands_of-operands.ensures) there) in
    search rules

pub put_uses-requires : goal.put_uses-requires
put_uses-requires c =
    let store : Store = store_in c.args.store.now in
    let inside : c.args.n < length store.ops =
    subst (λ (k : ℕ). c.args.n < k) (sym (ops_length (columns c.args.store.now))) c.requires.n_bound in
    let few : list_all (λ (b : ℕ). ltb b max_blocks) (op_at store c.args.n).successors ≡ true =
    successors_few store c.requires.sound.ruled c.args.n inside in
    let list = c.successors_of-successors.result.now in
    let below : (i : ℕ) → i < length list → get_or list i 0 < max_blocks =
    below_at max_blocks list (subst (λ xs. list_all (λ (b : ℕ). ltb b max_blocks) xs ≡ true) (sym c.successors_of-successors.ensures) few) in
    search rules

pub returns : goal.returns
unfolding names_bytes
returns c =
    let store : Store = store_in c.args.store.now in
    let n = c.args.n in
    λ o. wrote_names store o n
    (λ N h. put_then (names_bytes N.values (op_at store n).operands) (names_bytes N.blocks (op_at store n).successors) (omega arith)
    (put_as (ap (names_bytes N.values) c.operands_of-operands.ensures) (c.put_uses-at.ensures (name_of N.values) (λ i x l p. search rules)))
    c.min-rest.ensures
    (put_as (ap (names_bytes N.blocks) c.successors_of-successors.ensures) (c.put_uses.ensures (name_of N.blocks) (λ i x l p. search (rules, block_named store N))))
    c.saturating_add.ensures)
