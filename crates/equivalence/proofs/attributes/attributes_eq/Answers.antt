-- `attributes_eq` meets its contract: it goes through both runs from one kept slot to the next. Assumes nothing.
use mathlib.Core.Logic.{inl, inr}
use mathlib.Core.Path.{sym, ◌∙◌}
use Rattle.std.proofs.Common.{rules}
use Rattle.layout.specs.Columns.{columns}
use Rattle.fragments.specs.SlotsLeft.{slots_left}
use Rattle.equivalence.proofs.Kept.{walk_begins, both_end, one_ends, x_in, y_in, heads_differ, walk_goes_on}
use Rattle.equivalence.proofs.Nexts.{none_next, some_next}
use Rattle.equivalence.proofs.attributes.attributes_eq.Goals as goal

pub loop-i-init : goal.loop-i-init
loop-i-init c = (
  _,
  _,
  walk_begins (columns c.args.store.now) c.args.ignore c.args.l c.args.lend c.args.r c.args.rend c.new-ls.ensures c.new-rs.ensures
      c.requires.lend_le_slot_count c.requires.rend_le_slot_count,
)

pub attribute_eq-requires-clause-l_lt_slot_count : goal.attribute_eq-requires-clause-l_lt_slot_count
attribute_eq-requires-clause-l_lt_slot_count c = x_in _ _ _ _ _ _ c.loop-i.invariant.2 c.in-Some-Some.ensures.steps c.in-Some-Some.ensures'.steps

pub attribute_eq-requires-clause-r_lt_slot_count : goal.attribute_eq-requires-clause-r_lt_slot_count
attribute_eq-requires-clause-r_lt_slot_count c = y_in _ _ _ _ _ _ c.loop-i.invariant.2 c.in-Some-Some.ensures.steps c.in-Some-Some.ensures'.steps

pub returns-then-not-attribute_eq : goal.returns-then-not-attribute_eq
returns-then-not-attribute_eq c =
    heads_differ _ _ _ _ _ _ c.loop-i.invariant.2 c.in-Some-Some.ensures.steps c.in-Some-Some.ensures'.steps (sym c.attribute_eq.ensures ∙ c.if-not-attribute_eq.true)

pub loop-i-preserved : goal.loop-i-preserved
loop-i-preserved c =
    (_, _, walk_goes_on _ _ _ _ _ _ c.loop-i.invariant.2 c.in-Some-Some.ensures.steps c.in-Some-Some.ensures'.steps (sym c.attribute_eq.ensures ∙ c.if-not-attribute_eq.false))

pub returns-in-None-None : goal.returns-in-None-None
returns-in-None-None c =
    both_end _ _ _ _ _ _ c.loop-i.invariant.2 (none_next slots_left c.loop-i.ls c.next.new.self _ c.next.ensures.steps c.in-None-None.is-0)
    (none_next slots_left c.loop-i.rs c.next-in-loop-i.new.self _ c.next-in-loop-i.ensures.steps c.in-None-None.is-1)

pub returns-in-Some-None : goal.returns-in-Some-None
returns-in-Some-None c =
    one_ends _ _ _ _ _ _ c.loop-i.invariant.2
    (inl (
      some_next slots_left c.loop-i.ls c.next.new.self _ c.next.ensures.steps (search rules),
      none_next slots_left c.loop-i.rs c.next-in-loop-i.new.self _ c.next-in-loop-i.ensures.steps (search rules),
    ))

pub returns-in-Some-None-2 : goal.returns-in-Some-None-2
returns-in-Some-None-2 c =
    one_ends _ _ _ _ _ _ c.loop-i.invariant.2
    (inr (
      none_next slots_left c.loop-i.ls c.next.new.self _ c.next.ensures.steps (search rules),
      some_next slots_left c.loop-i.rs c.next-in-loop-i.new.self _ c.next-in-loop-i.ensures.steps (search rules),
    ))
