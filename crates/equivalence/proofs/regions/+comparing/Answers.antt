-- The four calls that go round meet their contracts together: the number of operations below falls at each round, and each loop's rest,
-- from the words as they are, is the whole from the words as they were. Assumes nothing.
use Rattle.std.specs.Prelude.{Ok}
use Prim.Native.Nat.{ℕ, ◌+◌, ◌*◌, ◌<◌}
use native.Mathlib.Omega.{arith}
use mathlib.Core.Logic.{inl, inr}
use mathlib.Core.Path.{◌≡◌, sym, ap, ap₂, subst, ◌∙◌}
use lib.ListN.{get_or}
use Rattle.std.proofs.Common.{rules, ⊎_elim}
use Rattle.rules.specs.Store.{Store, op_around, ops_of, regions_of}
use Rattle.rules.specs.Comparison.{Walk, each_pair}
use Rattle.layout.specs.Columns.{columns}
use Rattle.layout.specs.Reading.{store_in}
use Rattle.layout.specs.OpsLeft.{ops_left}
use Rattle.layout.proofs.Laid.{laid_facts}
use Rattle.layout.proofs.Ranges.{range, range_empty, regions_range}
use Rattle.fragments.specs.BlocksLeft.{blocks_left}
use Rattle.fragments.specs.Options.{Options}
use Rattle.fragments.specs.Order.{BlocksExist}
use Rattle.fragments.specs.View.{options_in}
use Rattle.fragments.proofs.Ordered.{op_in_lem, block_in_lem}
use Rattle.fragments.proofs.Below.{below, around_list, around_region}
use Rattle.equivalence.specs.Compares.{state_of, PairedFits}
use Rattle.equivalence.specs.Compares.{Compares}
use Rattle.equivalence.specs.Walked.{left_of, right_of, lefts, rights, region_walk, op_walk, ops_walk, lists_walk}
use Rattle.equivalence.proofs.Telling.{told_same}
use Rattle.equivalence.proofs.Nexts.{over_next}
use Rattle.equivalence.proofs.Zipped.{Zips, Turn, each_zips, rest_begins, turn, step_fits, turn_ends, turn_rest, each_ends}
use Rattle.equivalence.proofs.Rounds.{region_lists, names_disagree, names_passed, grows_region, grows_op, grows_ops_in, few_first, first_ended, few_second, second_ended, third_starts, block_around, op_behind, region_in, range_next}
use Rattle.equivalence.proofs.regions.+comparing.Goals as goal
use Rattle.equivalence.proofs.regions.+comparing.Goals.{blocks_eq-In-Some, check_ops_in-In-Some, op_eq_mapped-In-Some}

blocks_zips : (s : Store) (o : Options) → Zips (ops_walk s o) (each_pair (ops_walk s o))
blocks_zips s o = each_zips (ops_walk s o) (grows_ops_in s o)

ops_zips : (s : Store) (o : Options) → Zips (op_walk s o) (each_pair (op_walk s o))
ops_zips s o = each_zips (op_walk s o) (grows_op s o)

regions_zips : (s : Store) (o : Options) → Zips (region_walk s o) (each_pair (region_walk s o))
regions_zips s o = each_zips (region_walk s o) (grows_region s o)

-- ---- two lists of blocks

pub blocks_eq-map_blocks-requires-clause-paired_fits : goal.blocks_eq-map_blocks-requires-clause-paired_fits
blocks_eq-map_blocks-requires-clause-paired_fits t c =
    few_first (store_in c.args.view.now.store.now) (options_in c.args.view.now) c.args.lists (state_of c.args.mapping.now c.args.paired) c.requires.paired_fits

pub blocks_eq-returns-in_err-entered : goal.blocks_eq-returns-in_err-entered
blocks_eq-returns-in_err-entered t c =
    told_same _ _ {u = c.in_err-entered.field-0.0} (search rules)
    (first_ended (store_in c.args.view.now.store.now) (options_in c.args.view.now) c.args.lists (state_of c.args.mapping.now c.args.paired) _ _ c.in_err-entered.was c.map_blocks.ensures)

pub blocks_eq-map_ops-requires-clause-paired_fits : goal.blocks_eq-map_ops-requires-clause-paired_fits
blocks_eq-map_ops-requires-clause-paired_fits t c =
    few_second (store_in c.args.view.now.store.now) (options_in c.args.view.now) c.args.lists (state_of c.args.mapping.now c.args.paired) c.map_blocks.new.mapping
    c.in_ok-entered.was c.map_blocks.ensures c.requires.paired_fits

pub blocks_eq-returns-in_err-count : goal.blocks_eq-returns-in_err-count
blocks_eq-returns-in_err-count t c =
    told_same _ _ {u = c.in_err-count.field-0.0} (search rules)
    (second_ended (store_in c.args.view.now.store.now) (options_in c.args.view.now) c.args.lists (state_of c.args.mapping.now c.args.paired) c.map_blocks.new.mapping
    c.in_ok-entered.was c.map_blocks.ensures _ _ c.in_err-count.was c.map_ops.ensures)

-- the third pass is what is left of the walk
third : (t : ℕ) (c : blocks_eq-In-Some t)
    → lists_walk (store_in c.args.view.now.store.now) (options_in c.args.view.now) c.args.lists (state_of c.args.mapping.now c.args.paired)
    ≡ each_pair (ops_walk (store_in c.args.view.now.store.now) (options_in c.args.view.now)) (lefts (store_in c.args.view.now.store.now) c.args.lists)
    (rights (store_in c.args.view.now.store.now) c.args.lists) (state_of c.map_ops.new.mapping c.in_ok-count.count)
third t c =
    third_starts (store_in c.args.view.now.store.now) (options_in c.args.view.now) c.args.lists (state_of c.args.mapping.now c.args.paired) c.map_blocks.new.mapping
    c.in_ok-entered.was c.map_blocks.ensures c.map_ops.new.mapping c.in_ok-count.was c.map_ops.ensures

blocks_come : (t : ℕ) (c : blocks_eq-In-Some t)
    → Turn (ops_walk (store_in c.args.view.now.store.now) (options_in c.args.view.now)) (each_pair (ops_walk (store_in c.args.view.now.store.now) (options_in c.args.view.now)))
    (lefts (store_in c.args.view.now.store.now) c.args.lists) (rights (store_in c.args.view.now.store.now) c.args.lists) (blocks_left c.next.new.self.a) (blocks_left c.next.new.self.b)
    (each_pair (ops_walk (store_in c.args.view.now.store.now) (options_in c.args.view.now)) (lefts (store_in c.args.view.now.store.now) c.args.lists)
    (rights (store_in c.args.view.now.store.now) c.args.lists) (state_of c.map_ops.new.mapping c.in_ok-count.count))
    (state_of c.loop-lhs.mapping c.loop-lhs.count) c.in-Some.lhs c.in-Some.rhs
blocks_come t c =
    turn (blocks_zips (store_in c.args.view.now.store.now) (options_in c.args.view.now)) c.loop-lhs.invariant.2 c.in-Some.ensures.steps.0 c.in-Some.ensures.steps.1

pub blocks_eq-check_ops_in-requires : goal.blocks_eq-check_ops_in-requires
blocks_eq-check_ops_in-requires t c =
    let at = goal.at.blocks_eq-check_ops_in-requires t c in
    let S = store_in c.args.view.now.store.now in
    let l = left_of c.args.lists in
    let r = right_of c.args.lists in
    let here = blocks_come t (at.In-Some) in
    let same : below S (op_around S c.in-Some.lhs) ≡ below S (around_list S l) = block_around S l c.in-Some.lhs here.l_in in
    let falls : 4 * below S (op_around S c.in-Some.lhs) < 4 * below S (around_list S l) + 1 = omega arith in
    let fits = subst (λ (v : Walk). PairedFits v) (third t (at.In-Some)) c.requires.paired_fits in (
      subst (λ (j : ℕ). 4 * below S (op_around S c.in-Some.lhs) < j) c.decreases falls,
      (
        block_in_lem _ l _ c.requires.lists_exist.0 here.l_in,
        (block_in_lem _ r _ c.requires.lists_exist.1 here.r_in, step_fits (blocks_zips S (options_in c.args.view.now)) here fits),
      ),
    )

pub blocks_eq-returns-in_err-count-2 : goal.blocks_eq-returns-in_err-count-2
blocks_eq-returns-in_err-count-2 t c =
    let at = goal.at.blocks_eq-returns-in_err-count-2 t c in
    subst (λ (v : Walk). Compares v c.from_residual-in_err-count-2.result c.check_ops_in.new.mapping) (sym (third t (at.In-Some)))
    (turn_ends (blocks_zips (store_in c.args.view.now.store.now) (options_in c.args.view.now)) (blocks_come t (at.In-Some)) _ _ c.check_ops_in.ensures
    c.in_err-count-2.field-0.0 _ c.in_err-count-2.was (search rules))

pub blocks_eq-loop-lhs-preserved : goal.blocks_eq-loop-lhs-preserved
blocks_eq-loop-lhs-preserved t c =
    let at = goal.at.blocks_eq-loop-lhs-preserved t c in (
      _,
      _,
      turn_rest (blocks_zips (store_in c.args.view.now.store.now) (options_in c.args.view.now)) (blocks_come t (at.In-Some)) _ _ c.check_ops_in.ensures c.in_ok-count-2.was,
    )

pub blocks_eq-returns : goal.blocks_eq-returns
blocks_eq-returns t c =
    subst (λ (v : Walk). Compares v (Ok c.loop-lhs.count) c.loop-lhs.mapping)
    (sym (third_starts (store_in c.args.view.now.store.now) (options_in c.args.view.now) c.args.lists (state_of c.args.mapping.now c.args.paired) c.map_blocks.new.mapping
    c.in_ok-entered.was c.map_blocks.ensures c.map_ops.new.mapping c.in_ok-count.was c.map_ops.ensures))
    (each_ends (ops_walk (store_in c.args.view.now.store.now) (options_in c.args.view.now)) c.loop-lhs.invariant.2
    (over_next blocks_left blocks_left c.loop-lhs.lhs-iterator.a c.loop-lhs.lhs-iterator.b c.in-None.ensures.steps))

-- ---- the operations of two blocks

ops_come : (t : ℕ) (c : check_ops_in-In-Some t)
    → Turn (op_walk (store_in c.args.view.now.store.now) (options_in c.args.view.now)) (each_pair (op_walk (store_in c.args.view.now.store.now) (options_in c.args.view.now)))
    (ops_of (store_in c.args.view.now.store.now) c.args.pair.lhs) (ops_of (store_in c.args.view.now.store.now) c.args.pair.rhs) (ops_left c.next.new.self.a) (ops_left c.next.new.self.b)
    (ops_walk (store_in c.args.view.now.store.now) (options_in c.args.view.now) c.args.pair.lhs c.args.pair.rhs (state_of c.args.mapping.now c.args.paired))
    (state_of c.loop-lhs.mapping c.loop-lhs.count) c.in-Some.lhs c.in-Some.rhs
ops_come t c =
    turn (ops_zips (store_in c.args.view.now.store.now) (options_in c.args.view.now)) c.loop-lhs.invariant.2 c.in-Some.ensures.steps.0 c.in-Some.ensures.steps.1

pub check_ops_in-loop-lhs-init : goal.check_ops_in-loop-lhs-init
unfolding ops_walk
check_ops_in-loop-lhs-init t c =
    let given = c.into_iter-lhs-iterator.ensures.into_iter_gives in
    let zipped = c.zip-lhs-items.ensures in (
      _,
      _,
      rest_begins _ (ops_of (store_in c.args.view.now.store.now) c.args.pair.lhs) (ops_of (store_in c.args.view.now.store.now) c.args.pair.rhs) _ _ c.args.mapping.now c.args.paired
          ((λ i. ops_left (given i).a) ∙ ap ops_left zipped.first ∙ c.new.ensures)
          ((λ i. ops_left (given i).b) ∙ ap ops_left zipped.second ∙ c.new-2.ensures),
    )

pub check_ops_in-op_eq_mapped-requires : goal.check_ops_in-op_eq_mapped-requires
check_ops_in-op_eq_mapped-requires t c =
    let S = store_in c.args.view.now.store.now in
    let here = ops_come t ((goal.at.check_ops_in-op_eq_mapped-requires t c).In-Some) in
    let fewer : below S c.in-Some.lhs < below S (op_around S c.args.pair.lhs) =
    op_behind S c.args.view.now.readable.sound.ruled c.args.pair.lhs c.in-Some.lhs here.l_in in
    let falls : 4 * below S c.in-Some.lhs + 3 < 4 * below S (op_around S c.args.pair.lhs) = omega arith in (
      subst (λ (j : ℕ). 4 * below S c.in-Some.lhs + 3 < j) c.decreases falls,
      (
        op_in_lem _ c.args.pair.lhs _ here.l_in,
        (op_in_lem _ c.args.pair.rhs _ here.r_in, step_fits (ops_zips S (options_in c.args.view.now)) here c.requires.paired_fits),
      ),
    )

pub check_ops_in-returns-in_err-count : goal.check_ops_in-returns-in_err-count
check_ops_in-returns-in_err-count t c =
    turn_ends (ops_zips (store_in c.args.view.now.store.now) (options_in c.args.view.now))
    (ops_come t ((goal.at.check_ops_in-returns-in_err-count t c).In-Some)) _ _ c.op_eq_mapped.ensures c.in_err-count.field-0.0 _ c.in_err-count.was (search rules)

pub check_ops_in-loop-lhs-preserved : goal.check_ops_in-loop-lhs-preserved
check_ops_in-loop-lhs-preserved t c = (
  _,
  _,
  turn_rest (ops_zips (store_in c.args.view.now.store.now) (options_in c.args.view.now))
      (ops_come t ((goal.at.check_ops_in-loop-lhs-preserved t c).In-Some)) _ _ c.op_eq_mapped.ensures c.in_ok-count.was,
)

pub check_ops_in-returns : goal.check_ops_in-returns
check_ops_in-returns t c =
    each_ends (op_walk (store_in c.args.view.now.store.now) (options_in c.args.view.now)) c.loop-lhs.invariant.2
    (over_next ops_left ops_left c.loop-lhs.lhs-iterator.a c.loop-lhs.lhs-iterator.b c.in-None.ensures.steps)

-- ---- two operations that are paired

regions_come : (t : ℕ) (c : op_eq_mapped-In-Some t)
    → Turn (region_walk (store_in c.args.view.now.store.now) (options_in c.args.view.now)) (each_pair (region_walk (store_in c.args.view.now.store.now) (options_in c.args.view.now)))
    (regions_of (store_in c.args.view.now.store.now) c.args.pair.lhs) (regions_of (store_in c.args.view.now.store.now) c.args.pair.rhs)
    (range c.next.new.self.a.start c.next.new.self.a.end) (range c.next.new.self.b.start c.next.new.self.b.end)
    (op_walk (store_in c.args.view.now.store.now) (options_in c.args.view.now) c.args.pair.lhs c.args.pair.rhs (state_of c.args.mapping.now c.args.paired))
    (state_of c.loop-l.mapping c.loop-l.count) c.in-Some.l c.in-Some.r
regions_come t c =
    let s = c.in-Some.ensures.steps in
    turn (regions_zips (store_in c.args.view.now.store.now) (options_in c.args.view.now)) c.loop-l.invariant.2
    (range_next _ _ _ _ _ (omega (arith, s.0)) (omega (arith, s.0)) (omega (arith, s.0)) (omega (arith, s.0)))
    (range_next _ _ _ _ _ (omega (arith, s.1)) (omega (arith, s.1)) (omega (arith, s.1)) (omega (arith, s.1)))

pub op_eq_mapped-overflow_cast-result : goal.op_eq_mapped-overflow_cast-result
op_eq_mapped-overflow_cast-result t c =
    let few = (laid_facts (columns c.args.view.now.store.now) c.args.view.now.readable.sound.laid).counts.ops in record { fits = omega (arith, few, c.requires.lhs_bound) }

pub op_eq_mapped-overflow_cast-result-then-not-names_agree : goal.op_eq_mapped-overflow_cast-result-then-not-names_agree
op_eq_mapped-overflow_cast-result-then-not-names_agree t c =
    let few = (laid_facts (columns c.args.view.now.store.now) c.args.view.now.readable.sound.laid).counts.ops in record { fits = omega (arith, few, c.requires.rhs_bound) }

pub op_eq_mapped-returns-then-not-names_agree : goal.op_eq_mapped-returns-then-not-names_agree
op_eq_mapped-returns-then-not-names_agree t c =
    names_disagree (store_in c.args.view.now.store.now) (options_in c.args.view.now) c.args.pair.lhs c.args.pair.rhs c.args.mapping.now c.args.paired
    (sym c.names_agree.ensures ∙ c.if-not-names_agree.true)

pub op_eq_mapped-number-requires-clause-n_bound : goal.op_eq_mapped-number-requires-clause-n_bound
op_eq_mapped-number-requires-clause-n_bound t c =
    let few = (laid_facts (columns c.args.view.now.store.now) c.args.view.now.readable.sound.laid).counts.ops in omega (arith, few, c.requires.lhs_bound)

pub op_eq_mapped-number-requires-2-clause-n_bound : goal.op_eq_mapped-number-requires-2-clause-n_bound
op_eq_mapped-number-requires-2-clause-n_bound t c =
    let few = (laid_facts (columns c.args.view.now.store.now) c.args.view.now.readable.sound.laid).counts.ops in omega (arith, few, c.requires.lhs_bound)

pub op_eq_mapped-number-requires-3-clause-n_bound : goal.op_eq_mapped-number-requires-3-clause-n_bound
op_eq_mapped-number-requires-3-clause-n_bound t c =
    let few = (laid_facts (columns c.args.view.now.store.now) c.args.view.now.readable.sound.laid).counts.ops in omega (arith, few, c.requires.rhs_bound)

pub op_eq_mapped-number-requires-4-clause-n_bound : goal.op_eq_mapped-number-requires-4-clause-n_bound
op_eq_mapped-number-requires-4-clause-n_bound t c =
    let few = (laid_facts (columns c.args.view.now.store.now) c.args.view.now.readable.sound.laid).counts.ops in omega (arith, few, c.requires.rhs_bound)

pub op_eq_mapped-loop-l-init : goal.op_eq_mapped-loop-l-init
op_eq_mapped-loop-l-init t c =
    let S = store_in c.args.view.now.store.now in
    let laid = laid_facts (columns c.args.view.now.store.now) c.args.view.now.readable.sound.laid in
    let given = c.into_iter-l-iterator.ensures.into_iter_gives in
    let zipped = c.zip-l-items.ensures in
    let begun = names_passed S (options_in c.args.view.now) c.args.pair.lhs c.args.pair.rhs c.args.mapping.now c.args.paired
    (sym c.names_agree.ensures ∙ c.if-not-names_agree.false) in (
      _,
      _,
      rw begun
          (rest_begins _ (regions_of S c.args.pair.lhs) (regions_of S c.args.pair.rhs) _ _ c.args.mapping.now c.args.paired
          ((λ i. range (given i).a.start (given i).a.end) ∙ (λ i. range (zipped.first i).start (zipped.first i).end) ∙ ap₂ range c.number.ensures c.number-2.ensures
          ∙ sym (regions_range _ laid c.args.pair.lhs c.requires.lhs_bound))
          ((λ i. range (given i).b.start (given i).b.end) ∙ (λ i. range (zipped.second i).start (zipped.second i).end) ∙ ap₂ range c.number-3.ensures c.number-4.ensures
          ∙ sym (regions_range _ laid c.args.pair.rhs c.requires.rhs_bound))),
    )

pub op_eq_mapped-region_eq-requires : goal.op_eq_mapped-region_eq-requires
unfolding around_list
op_eq_mapped-region_eq-requires t c =
    let S = store_in c.args.view.now.store.now in
    let here = regions_come t ((goal.at.op_eq_mapped-region_eq-requires t c).In-Some) in
    let l = c.in-Some.l in
    let around : get_or S.regions l 0 ≡ c.args.pair.lhs = around_region S c.args.pair.lhs l here.l_in in
    let falls : 4 * below S (get_or S.regions l 0) + 2 < 4 * below S c.args.pair.lhs + 3 = omega arith in (
      subst (λ (j : ℕ). 4 * below S (get_or S.regions l 0) + 2 < j) c.decreases falls,
      (
        region_in _ c.args.pair.lhs l here.l_in,
        (region_in _ c.args.pair.rhs _ here.r_in, step_fits (regions_zips S (options_in c.args.view.now)) here c.requires.paired_fits),
      ),
    )

pub op_eq_mapped-returns-in_err-count : goal.op_eq_mapped-returns-in_err-count
op_eq_mapped-returns-in_err-count t c =
    turn_ends (regions_zips (store_in c.args.view.now.store.now) (options_in c.args.view.now))
    (regions_come t ((goal.at.op_eq_mapped-returns-in_err-count t c).In-Some)) _ _ c.region_eq.ensures c.in_err-count.field-0.0 _ c.in_err-count.was (search rules)

pub op_eq_mapped-loop-l-preserved : goal.op_eq_mapped-loop-l-preserved
op_eq_mapped-loop-l-preserved t c = (
  _,
  _,
  turn_rest (regions_zips (store_in c.args.view.now.store.now) (options_in c.args.view.now))
      (regions_come t ((goal.at.op_eq_mapped-loop-l-preserved t c).In-Some)) _ _ c.region_eq.ensures c.in_ok-count.was,
)

pub op_eq_mapped-returns : goal.op_eq_mapped-returns
op_eq_mapped-returns t c =
    each_ends (region_walk (store_in c.args.view.now.store.now) (options_in c.args.view.now)) c.loop-l.invariant.2
    (⊎_elim (λ h. inl (range_empty _ _ (omega (arith, h.1)))) (λ h. inr (range_empty _ _ (omega (arith, h.1)))) c.in-None.ensures.steps)

-- ---- two regions

pub region_eq-blocks_eq-requires : goal.region_eq-blocks_eq-requires
unfolding BlocksExist left_of right_of around_list
region_eq-blocks_eq-requires t c =
    let a = c.args in
    let S = store_in a.view.now.store.now in
    let o = options_in a.view.now in
    let same_lists = region_lists S o c.args.view.now.readable.sound.ruled a.pair.lhs a.pair.rhs (state_of a.mapping.now a.paired) in
    let falls : 4 * below S (get_or S.regions a.pair.lhs 0) + 1 < 4 * below S (get_or S.regions a.pair.lhs 0) + 2 = omega arith in (
      subst (λ (j : ℕ). 4 * below S (get_or S.regions a.pair.lhs 0) + 1 < j) c.decreases falls,
      ((c.requires.lhs_bound, c.requires.rhs_bound), subst (λ (w : Walk). PairedFits w) same_lists c.requires.paired_fits),
    )

pub region_eq-returns : goal.region_eq-returns
region_eq-returns t c =
    let a = c.args in
    let S = store_in a.view.now.store.now in
    let o = options_in a.view.now in
    let same_lists = region_lists S o c.args.view.now.readable.sound.ruled a.pair.lhs a.pair.rhs (state_of a.mapping.now a.paired) in
    let compared = c.blocks_eq in
    subst (λ (w : Walk). Compares w compared.result compared.new.mapping) (sym same_lists) compared.ensures
