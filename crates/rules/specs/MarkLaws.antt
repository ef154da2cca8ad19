-- What is proved of marks: going back restores the store, and the laws hold of every marked store.
use Rattle.rules.specs.KeyLaws.{FiledAsEqual}
use Rattle.std.specs.Prelude.{ℕ, true, false, not, ◌↔◌, ◌≡◌}
use mathlib.Core.List.{List, map}
use Rattle.std.specs.List.{list_all, list_any, filter}
use Rattle.rules.specs.Store.{Store, empty_store, sound}
use Rattle.rules.specs.declared.types.Sort.{Sort}
use Rattle.rules.specs.Building.{Call, after}
use Rattle.rules.specs.declared.types.Ignore.{Ignore}
use Rattle.rules.specs.Types.{renamed}
use Rattle.rules.specs.Keys.{fits}
use Rattle.rules.specs.Laws.{Laws}
use Rattle.rules.specs.Marks.{Mark, MarkedStore, unmarked, MarkedCall, build, set_mark, go_back, is_mark, is_set, max_remembered, marked, after_marked, marks_hold, sound_marked, sets, marked_call_fits}

-- while no mark is set, building calls do what they did: `unmarked_after`
unfoldable pub UnmarkedAfter : Type 0
UnmarkedAfter = (s : Store) (calls : List Call) → after_marked (unmarked s) (map build calls) ≡ unmarked (after s calls)

-- a call, accepted or refused, keeps a sound store sound, going back included, and so does a list of calls: `marked_sound`,
-- `after_marked_sound`
unfoldable pub MarkedSound : Type 0
MarkedSound = (t : MarkedStore) (c : MarkedCall) → sound_marked t ≡ true → sound_marked (marked t c) ≡ true

unfoldable pub AfterMarkedSound : Type 0
AfterMarkedSound = (calls : List MarkedCall) → sound_marked (after_marked (unmarked empty_store) calls) ≡ true

-- order 7: "A store is sound only if going back to any set mark, then to any still set, and so on, would each time give tables that are
-- sound by document 01's rules": where its marks are in order, exactly then: `sound_by_going_back`
unfoldable pub SoundByGoingBack : Type 0
SoundByGoingBack =
    (t : MarkedStore) → marks_hold max_remembered t.marks ≡ true
    → (sound_marked t ≡ true) ↔ ((ks : List ℕ) → sound (after_marked t (map go_back ks)).store ≡ true)

-- "A list of calls that sets and returns to marks must still never break the four laws", nor one with copies (order 11: "Copying joins the
-- building calls in the laws about call lists"): `demand3_marked`; under every list of renamed types too: `laws_marked`
unfoldable pub Demand3Marked : Type 0
Demand3Marked = (calls : List MarkedCall) (ig : Ignore) (f : Sort) → Laws (after_marked (unmarked empty_store) calls).store ig f

unfoldable pub LawsMarked : Type 0
LawsMarked =
    (calls : List MarkedCall) (types : List ℕ) (ig : Ignore) (f : Sort)
    → Laws (renamed types (after_marked (unmarked empty_store) calls).store) ig f

-- nor does it break order 2's law on keys, where the arguments and the types in the list are below 2^32: `filers_law_marked`
unfoldable pub FilersLawMarked : Type 0
FilersLawMarked =
    (calls : List MarkedCall) → list_all marked_call_fits calls ≡ true → (types : List ℕ) → list_all fits types ≡ true
    → (ig : Ignore) (f : Sort) → FiledAsEqual (renamed types (after_marked (unmarked empty_store) calls).store) ig f

-- going back to a mark gives the state of its setting, but for the older marks that were set again since: `went_back`
unfoldable pub WentBack : Type 0
WentBack =
    (t : MarkedStore) → marks_hold max_remembered t.marks ≡ true → (k : ℕ) → is_mark k ≡ true
    → (calls : List MarkedCall) → list_any (sets k) calls ≡ false → is_set k (after_marked (marked t (set_mark k)) calls).marks ≡ true
    → marked (after_marked (marked t (set_mark k)) calls) (go_back k)
    ≡ record {
      store = t.store;
      marks = filter (λ (m : Mark). not (list_any (sets m.number) calls)) (marked t (set_mark k)).marks;
    }

-- so, where none of the marks set then was set again, "numbers given since are given again": every call is answered as it was then:
-- `went_back_whole`
unfoldable pub WentBackWhole : Type 0
WentBackWhole =
    (t : MarkedStore) → marks_hold max_remembered t.marks ≡ true → (k : ℕ) → is_mark k ≡ true
    → (calls : List MarkedCall) → list_all (λ (m : Mark). not (list_any (sets m.number) calls)) (marked t (set_mark k)).marks ≡ true
    → is_set k (after_marked (marked t (set_mark k)) calls).marks ≡ true
    → marked (after_marked (marked t (set_mark k)) calls) (go_back k) ≡ marked t (set_mark k)
