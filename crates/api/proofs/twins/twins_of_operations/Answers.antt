-- `twins_of_operations` meets its contract: cause 1 comes first, and where no list of types is lent, its words are their own index. Assumes nothing.
use lib.ListN.{length}
use Rattle.std.proofs.Common.{rules}
use mathlib.Core.Bool.{true}
use mathlib.Core.List.{List}
use mathlib.Core.Path.{◌≡◌, ap, subst, ◌∙◌}
use Prim.Native.Nat.{ℕ}
use Rattle.layout.specs.MarkedReading.{sound_lent}
use Rattle.undo_log.proofs.Lent.{lent_facts}
use Rattle.equivalence.proofs.Answering.{no_types}
use Rattle.grouping.specs.Calls.{TwinsAnswers}
use Rattle.grouping.proofs.Answering.{unsound_store, as_found}
use Rattle.api.proofs.twins.twins_of_operations.Goals as goal

pub returns-in_default : goal.returns-in_default
returns-in_default c =
    let a = c.args in
    unsound_store a.store.now a.types.now a.ignore a.twins.now _ c.in_default.ensures

pub invariant_of-view : goal.invariant_of-view
invariant_of-view c =
    let w = c.in-Some.ensures in
    let few : length c.args.types.now ≡ 0 = search rules in
    record { readable = record { sound = (lent_facts _ (ap sound_lent w.0 ∙ w.1)).tables; indexed = (no_types c.args.types.now few).0 } }

pub returns-then-is_empty : goal.returns-then-is_empty
returns-then-is_empty c =
    let w = c.in-Some.ensures in
    let a = c.args in
    let few : length a.types.now ≡ 0 = search rules in
    as_found a.store.now a.types.now a.ignore a.twins.now _ w.1
    (subst (λ (x : List ℕ). TwinsAnswers true x a.types.now a.ignore a.twins.now c.find_twins.new.twins c.find_twins.result) w.0
    (subst (λ (types : List ℕ). TwinsAnswers true c.in-Some.words.now types a.ignore a.twins.now c.find_twins.new.twins c.find_twins.result)
    (no_types a.types.now few).1 c.find_twins.ensures))

pub indexed_twins-requires : goal.indexed_twins-requires
indexed_twins-requires c = let w = c.in-Some.ensures in (lent_facts _ (ap sound_lent w.0 ∙ w.1)).tables
