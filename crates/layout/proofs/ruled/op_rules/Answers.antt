-- `op_rules` meets its contract, test by test. Assumes nothing.
use Prim.Native.Nat.{ℕ, ◌*◌, ◌<◌}
use native.Mathlib.Omega.{arith}
use mathlib.Core.Path.{◌≡◌, sym, ap₂, ◌∙◌}
use Rattle.rules.specs.Store.{attributes_hold}
use Rattle.layout.specs.Columns.{columns}
use Rattle.layout.specs.Reading.{slots_of, attributes_from, op_of}
use Rattle.layout.specs.Soundness.{op_rules}
use Rattle.layout.proofs.Laid.{Laid, OpLaid, laid_facts}
use Rattle.layout.proofs.Scans.{fails, next, last, above, within}
use Rattle.layout.proofs.ruled.op_rules.Goals as goal

pub returns-then-not-operands_exist : goal.returns-then-not-operands_exist
unfolding op_rules
returns-then-not-operands_exist c = sym (fails _ 0 (sym c.operands_exist.ensures ∙ c.if-not-operands_exist.true))

pub returns-then-not-successors_exist : goal.returns-then-not-successors_exist
unfolding op_rules
returns-then-not-successors_exist c = sym (fails _ 1 (sym c.successors_exist.ensures ∙ c.if-not-successors_exist.true))

pub number-requires : goal.number-requires
number-requires c =
    let laid : Laid (columns c.args.store.now) = laid_facts _ c.requires.arranged.laid in
    let low : c.args.n < 512 = omega (arith, laid.counts.ops, c.requires.n_bound) in
    record { column_lt_column_count = omega arith; n_bound = low }

pub returns-then-number-gt-MAX_NESTING : goal.returns-then-number-gt-MAX_NESTING
unfolding op_rules
returns-then-number-gt-MAX_NESTING c = sym (fails _ 2 (above c.number.ensures c.if-number-gt-MAX_NESTING.true))

pub at_most-requires : goal.at_most-requires
at_most-requires c =
    let laid : Laid (columns c.args.store.now) = laid_facts _ c.requires.arranged.laid in
    let row : OpLaid (columns c.args.store.now) c.args.n = laid.op c.args.n c.requires.n_bound in
    let low : c.args.n < 512 = omega (arith, laid.counts.ops, c.requires.n_bound) in
    record {
      first_lt_column_count = omega arith;
      end_lt_column_count = omega arith;
      row_bound = low;
      end_bound = low;
      range_rises = row.regions.range.rises;
    }

pub returns-then-not-at_most : goal.returns-then-not-at_most
unfolding op_rules
returns-then-not-at_most c = sym (fails _ 3 (sym c.at_most.ensures ∙ c.if-not-at_most.true))

pub at_most-requires-2 : goal.at_most-requires-2
at_most-requires-2 c =
    let laid : Laid (columns c.args.store.now) = laid_facts _ c.requires.arranged.laid in
    let row : OpLaid (columns c.args.store.now) c.args.n = laid.op c.args.n c.requires.n_bound in
    let low : c.args.n < 512 = omega (arith, laid.counts.ops, c.requires.n_bound) in
    record {
      first_lt_column_count = omega arith;
      end_lt_column_count = omega arith;
      row_bound = low;
      end_bound = low;
      range_rises = row.results.range.rises;
    }

pub returns-then-not-at_most-2 : goal.returns-then-not-at_most-2
unfolding op_rules
returns-then-not-at_most-2 c = sym (fails _ 4 (sym c.at_most-2.ensures ∙ c.if-not-at_most-2.true))

pub at_most-requires-3 : goal.at_most-requires-3
at_most-requires-3 c =
    let laid : Laid (columns c.args.store.now) = laid_facts _ c.requires.arranged.laid in
    let row : OpLaid (columns c.args.store.now) c.args.n = laid.op c.args.n c.requires.n_bound in
    let low : c.args.n < 512 = omega (arith, laid.counts.ops, c.requires.n_bound) in
    record {
      first_lt_column_count = omega arith;
      end_lt_column_count = omega arith;
      row_bound = low;
      end_bound = low;
      range_rises = row.operands.range.rises;
    }

pub returns-then-not-at_most-3 : goal.returns-then-not-at_most-3
unfolding op_rules
returns-then-not-at_most-3 c = sym (fails _ 5 (sym c.at_most-3.ensures ∙ c.if-not-at_most-3.true))

pub at_most-requires-4 : goal.at_most-requires-4
at_most-requires-4 c =
    let laid : Laid (columns c.args.store.now) = laid_facts _ c.requires.arranged.laid in
    let row : OpLaid (columns c.args.store.now) c.args.n = laid.op c.args.n c.requires.n_bound in
    let low : c.args.n < 512 = omega (arith, laid.counts.ops, c.requires.n_bound) in
    record {
      first_lt_column_count = omega arith;
      end_lt_column_count = omega arith;
      row_bound = low;
      end_bound = low;
      range_rises = row.successors.range.rises;
    }

pub returns-then-not-at_most-4 : goal.returns-then-not-at_most-4
unfolding op_rules
returns-then-not-at_most-4 c = sym (fails _ 6 (sym c.at_most-4.ensures ∙ c.if-not-at_most-4.true))

pub overflow_cast-n : goal.overflow_cast-n
overflow_cast-n c =
    let laid : Laid (columns c.args.store.now) = laid_facts _ c.requires.arranged.laid in
    let low : c.args.n < 512 = omega (arith, laid.counts.ops, c.requires.n_bound) in
    omega (arith, low)

pub number-requires-2 : goal.number-requires-2
number-requires-2 c =
    let laid : Laid (columns c.args.store.now) = laid_facts _ c.requires.arranged.laid in
    let low : c.args.n < 512 = omega (arith, laid.counts.ops, c.requires.n_bound) in
    record { column_lt_column_count = omega arith; n_bound = low }

pub attributes_hold-requires : goal.attributes_hold-requires
unfolding slots_of
attributes_hold-requires c =
    let laid : Laid (columns c.args.store.now) = laid_facts _ c.requires.arranged.laid in
    let row : OpLaid (columns c.args.store.now) c.args.n = laid.op c.args.n c.requires.n_bound in
    let low : c.args.n < 512 = omega (arith, laid.counts.ops, c.requires.n_bound) in
    let first : c.first_slot-first.result ≡ 8 * c.args.n = c.first_slot-first.ensures in
    record {
      count_bound = omega (arith, c.number-2.ensures, row.keys);
      first_bound = omega (arith, low);
    }

pub returns : goal.returns
unfolding op_rules op_of
returns c =
    let a = c.args in
    let C = columns a.store.now in
    let keys =
    c.attributes_hold.ensures ∙ ap₂ (λ (f n : ℕ). attributes_hold (attributes_from C f n)) c.first_slot-first.ensures c.number-2.ensures in
    sym
    (next _ _ (sym c.operands_exist.ensures ∙ c.if-not-operands_exist.false)
    (next _ _ (sym c.successors_exist.ensures ∙ c.if-not-successors_exist.false)
    (next _ _ (within c.number.ensures c.if-number-gt-MAX_NESTING.false)
    (next _ _ (sym c.at_most.ensures ∙ c.if-not-at_most.false)
    (next _ _ (sym c.at_most-2.ensures ∙ c.if-not-at_most-2.false)
    (next _ _ (sym c.at_most-3.ensures ∙ c.if-not-at_most-3.false)
    (next _ _ (sym c.at_most-4.ensures ∙ c.if-not-at_most-4.false)
    (last _ (sym keys)))))))))
