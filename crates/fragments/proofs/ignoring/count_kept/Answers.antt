-- As many attributes are left as slots. Assumes nothing.
use Prim.Native.Nat.{ℕ}
use native.Mathlib.Omega.{arith}
use mathlib.Core.List.{List}
use mathlib.Core.Logic.{inl}
use mathlib.Core.Path.{ap, sym, ◌∙◌}
use lib.ListN.{length, length-map}
use Rattle.std.proofs.lemmas.Iterator.Consumers.{YieldsList-from_first, count_from_yields_List}
use Rattle.layout.specs.Columns.{columns}
use Rattle.fragments.specs.Ignoring.{kept_slots}
use Rattle.fragments.specs.SlotsLeft.{slots_left}
use Rattle.fragments.proofs.Kept.{kept_by_slots, slots_few}
use Rattle.fragments.proofs.ignoring.count_kept.Goals as goal

pub count-requires-clause-fits : goal.count-requires-clause-fits
count-requires-clause-fits c =
    let few = slots_few (columns c.args.store.now) c.args.ignore c.args.first c.args.end in
    inl (omega (arith, ap (λ (slots : List ℕ). length slots) c.new.ensures, few, c.requires.end_le_slot_count))

pub overflow_cast-result : goal.overflow_cast-result
overflow_cast-result c =
    let few = slots_few (columns c.args.store.now) c.args.ignore c.args.first c.args.end in
    omega (arith, c.count.ensures.bound, ap (λ (slots : List ℕ). length slots) c.new.ensures, few, c.requires.end_le_slot_count)

pub returns : goal.returns
returns c =
    let slots = kept_slots (columns c.args.store.now) c.args.ignore c.args.first c.args.end in
    count_from_yields_List _ _ c.count.ensures.ran (YieldsList-from_first (λ (x : ℕ). x) slots_left slots c.new.ensures)
    ∙ sym (ap (λ (xs : List _). length xs) (kept_by_slots (columns c.args.store.now) c.args.ignore c.args.first c.args.end) ∙ length-map slots _)
