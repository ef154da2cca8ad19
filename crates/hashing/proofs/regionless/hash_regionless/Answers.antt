-- `hash_regionless` meets its contract: what the operation is goes into the word, then its operands, of which its own results are numbered, and its
-- successors, of which none is. Assumes nothing.
use Rattle.std.proofs.Common.{◌≡◌, ℕ, ◌+◌, ◌-◌, List, [], ◌++◌, length, sym, ap, ◌∙◌, arith, rules}
use Rattle.std.specs.List.{flat_map}
use Rattle.rules.specs.Store.{values_of}
use Rattle.rules.specs.declared.types.Owner.TheVariants.{Op as of_op}
use Rattle.rules.specs.Hash.{fnv_start, fnv_from, leaf, count, name_of, name_bytes}
use Rattle.layout.specs.Columns.{columns}
use Rattle.layout.specs.Reading.{tabulate_from, consecutive, store_of}
use Rattle.layout.proofs.Laid.{laid_facts}
use Rattle.fragments.specs.View.{options_in}
use Rattle.hashing.specs.Walked.{bytes_in}
use Rattle.hashing.proofs.Reading.{head_fed, row_fed}
use Rattle.rules.specs.declared.types.Name.TheVariants.{StoreNumber}
use Rattle.hashing.proofs.Lone.{fed_alone}
use Rattle.hashing.proofs.Naming.{name_outside}
use Rattle.hashing.proofs.regionless.hash_regionless.Goals as goal

pub at-requires : goal.at-requires
at-requires c =
    record {
      column_lt_column_count = omega arith;
      n_bound = omega (arith, (laid_facts (columns c.args.view.now.store.now) c.args.view.now.readable.sound.laid).counts.ops, c.requires.n_bound);
    }

pub returns : goal.returns
unfolding consecutive tabulate_from
returns c =
    let C = columns c.args.view.now.store.now in
    let n = c.args.n in
    let o = options_in c.args.view.now in
    let row = c.op_row-row in
    let shell = c.hash_row.new.state.word in
    let fed = c.hash_uses.new.state.word in
    let start = c.hash_head.ensures ∙ ap (λ w. fnv_from w (leaf c.at.result ++ count 0)) c.new-state.ensures in
    let head = head_fed C n c.requires.n_bound fnv_start c.at.ensures (sym (ap length c.requires.n_value)) start in
    let many : row.result.value + row.result.values - row.result.value ≡ row.result.values = omega arith in
    let own : consecutive row.result.value (row.result.value + row.result.values - row.result.value) ≡ values_of (store_of C) (of_op n) =
    ap (consecutive row.result.value) many ∙ sym row.ensures.values in
    let operands =
    c.hash_uses.ensures (bytes_in (consecutive row.result.value (row.result.value + row.result.values - row.result.value))) (λ v x p. let named : x ≡ name_of (consecutive row.result.value (row.result.value + row.result.values - row.result.value)) v = search rules in ap name_bytes named) in
    let successors = c.hash_uses-2.ensures (bytes_in []) (λ b x p. let named : x ≡ StoreNumber b = search rules in name_outside x b named) in
    fed_alone (store_of C) o n c.requires.n_value (row_fed row.ensures o fnv_start head c.hash_row.ensures)
    (operands ∙ (λ i. fnv_from shell (flat_map (bytes_in (own i)) (c.operands_of.ensures i))))
    (successors ∙ ap (λ (xs : List ℕ). fnv_from fed (flat_map (bytes_in []) xs)) c.successors_of.ensures)
