-- The next slot is the first of those that are left, as all before it are ignored. Assumes nothing.
use Prim.Native.Nat.{ℕ, ◌+◌, ◌<◌, ◌≤◌}
use native.Mathlib.Omega.{arith}
use mathlib.Core.Bool.{true, false}
use mathlib.Core.List.{List, ◌∷◌}
use mathlib.Core.Path.{◌≡◌, ap, subst}
use lib.ListN.{length}
use Rattle.std.proofs.Common.{rules, tests}
use Rattle.std.proofs.lemmas.Iterator.{first_from_Range}
use Rattle.std.specs.Option.{MatchOption}
use Rattle.std.specs.Prelude as std
use Rattle.rules.specs.Shells.{ignored}
use Rattle.layout.specs.Columns.{columns}
use Rattle.layout.specs.Reading.{attribute_at}
use Rattle.fragments.specs.Ignoring.{kept_slots}
use Rattle.fragments.specs.SlotsLeft.{slots_left}
use Rattle.fragments.specs.declared.kept_slots.KeptSlots.{KeptSlots}
use Rattle.fragments.proofs.Kept.{slots_next, slots_over}
use Rattle.fragments.proofs.kept_slots.KeptSlotsIterator.next.Goals as goal
use Rattle.fragments.proofs.kept_slots.KeptSlotsIterator.next.Goals.{After-find, In_ok-slot}

-- what a search finds: the first slot that is not ignored, or that all are
abbrev Found : KeptSlots → std.Option ℕ → Type 0
Found walk r =
    MatchOption r
    ((k : ℕ) → walk.at ≤ k → k < walk.end → ignored walk.ignore (attribute_at (columns walk.store.now) k) ≡ true)
    (λ i. (walk.at ≤ i)
    × (i < walk.end)
    × (ignored walk.ignore (attribute_at (columns walk.store.now) i) ≡ false)
    × ((k : ℕ) → walk.at ≤ k → k < i → ignored walk.ignore (attribute_at (columns walk.store.now) k) ≡ true))

found : (c : After-find) → Found c.args.self.now c.find.result
found c = first_from_Range _ _ _ _ _ _ c.find.ensures.ran (λ x q k. search (rules, tests)) (λ x q k. search (rules, tests))

next_slot : (c : In_ok-slot) → Found c.args.self.now c.find.result
    → slots_left c.args.self.now ≡ c.in_ok-slot.slot ∷ kept_slots (columns c.args.self.now.store.now) c.args.self.now.ignore (c.in_ok-slot.slot + 1) c.args.self.now.end
next_slot c f =
    let at = subst (Found c.args.self.now) c.in_ok-slot.was f in
    slots_next _ _ _ _ _ at.0 at.1 at.2 at.3

pub returns-in_err-slot-clause-steps : goal.returns-in_err-slot-clause-steps
returns-in_err-slot-clause-steps c =
    let f = found ((goal.at.returns-in_err-slot-clause-steps c).After-find) in
    let none_left = slots_over _ _ _ _ (subst (Found c.args.self.now) c.in_err-slot.was f) in
    rw c.from_residual.ensures (none_left, none_left)

pub overflow_add-self : goal.overflow_add-self
overflow_add-self c =
    let at = subst (Found c.args.self.now) c.in_ok-slot.was (found ((goal.at.overflow_add-self c).After-find)) in
    omega (arith, at.1, c.args.self.now.end_le_slot_count)

pub returns-clause-steps : goal.returns-clause-steps
returns-clause-steps c =
    let at = goal.at.returns-clause-steps c in
    next_slot (at.In_ok-slot) (found (at.After-find))

pub returns-clause-goes : goal.returns-clause-goes
returns-clause-goes c =
    let at = goal.at.returns-clause-goes c in
    let fewer = ap (λ (slots : List ℕ). length slots) (next_slot (at.In_ok-slot) (found (at.After-find))) in
    record { on = λ _. (_, _, omega (arith, fewer)); keeps = _; rests = λ _. _ }
