-- `block_rules` meets its contract, test by test. Assumes nothing.
use Prim.Native.Nat.{ℕ, ◌+◌, ◌*◌}
use native.Mathlib.Omega.{arith}
use mathlib.Core.Path.{◌≡◌, sym, ap₂, ◌∙◌}
use Rattle.rules.specs.Store.{attributes_hold}
use Rattle.layout.specs.Columns.{columns, first_block_slot}
use Rattle.layout.specs.Reading.{slots_of, attributes_from, block_of}
use Rattle.layout.specs.Soundness.{block_rules}
use Rattle.layout.proofs.Laid.{laid_facts}
use Rattle.layout.proofs.Scans.{fails, next, last}
use Rattle.layout.proofs.ruled.block_rules.Goals as goal

pub returns-then-not-block_after : goal.returns-then-not-block_after
unfolding block_rules
returns-then-not-block_after c = sym (fails _ 0 (sym c.block_after.ensures ∙ c.if-not-block_after.true))

pub at_most-requires : goal.at_most-requires
at_most-requires c =
    let h = laid_facts (columns c.args.store.now) c.requires.arranged.laid in
    let a = (h.block c.args.m c.requires.m_bound).arguments.range in
    record {
      first_lt_column_count = omega arith;
      end_lt_column_count = omega arith;
      row_bound = omega (arith, h.counts.blocks);
      end_bound = omega (arith, h.counts.blocks);
      range_rises = a.rises;
    }

pub returns-then-not-at_most : goal.returns-then-not-at_most
unfolding block_rules
returns-then-not-at_most c = sym (fails _ 1 (sym c.at_most.ensures ∙ c.if-not-at_most.true))

pub overflow_cast-m : goal.overflow_cast-m
overflow_cast-m c =
    let h = laid_facts (columns c.args.store.now) c.requires.arranged.laid in
    omega (arith, h.counts.blocks)

pub number-requires : goal.number-requires
number-requires c =
    let h = laid_facts (columns c.args.store.now) c.requires.arranged.laid in
    record { column_lt_column_count = omega arith; n_bound = omega (arith, h.counts.blocks) }

pub attributes_hold-requires : goal.attributes_hold-requires
unfolding slots_of
attributes_hold-requires c =
    let h = laid_facts (columns c.args.store.now) c.requires.arranged.laid in
    let first : c.first_slot-first.result ≡ first_block_slot + 8 * c.args.m = c.first_slot-first.ensures in
    record {
      count_bound = omega (arith, c.number.ensures, (h.block c.args.m c.requires.m_bound).keys);
      first_bound = omega (arith, h.counts.blocks);
    }

pub returns : goal.returns
unfolding block_rules block_of
returns c =
    let a = c.args in
    let keys =
    c.attributes_hold.ensures
    ∙ ap₂ (λ (f n : ℕ). attributes_hold (attributes_from (columns a.store.now) f n)) c.first_slot-first.ensures c.number.ensures in
    sym
    (next _ _ (sym c.block_after.ensures ∙ c.if-not-block_after.false)
    (next _ _ (sym c.at_most.ensures ∙ c.if-not-at_most.false)
    (last _ (sym keys))))
