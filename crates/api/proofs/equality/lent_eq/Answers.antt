-- `lent_eq` meets its contract: causes 1 and 8 come first, and no words are the index of no rows. Assumes nothing.
use Prim.Native.Nat.{ℕ}
use mathlib.Core.Bool.{true}
use mathlib.Core.List.{List}
use mathlib.Core.Path.{refl, sym, subst, ◌∙◌}
use Rattle.layout.specs.Reading.{store_in}
use Rattle.equivalence.proofs.MappingEntries.{wrong_length}
use Rattle.validation.proofs.Offering.{words_sound}
use Rattle.std.proofs.Common.{rules}
use borrow.Author.Tests.{tests}
use Rattle.equivalence.specs.Compares.{compared_of}
use Rattle.equivalence.specs.Calls.{ComparisonAnswers}
use Rattle.equivalence.proofs.Answering.{unsound, unallowed, as_found, no_types}
use Rattle.api.proofs.equality.lent_eq.Goals as goal

pub returns-in_default : goal.returns-in_default
unfolding compared_of
returns-in_default c =
    let a = c.args in
    unsound a.store.now a.types.now a.mapping.now a.ignore a.of.sort a.of.lhs a.of.rhs _ c.in_default.ensures

pub returns-in_default-as_mut_array : goal.returns-in_default-as_mut_array
unfolding compared_of
returns-in_default-as_mut_array c =
    let a = c.args in
    unallowed a.store.now a.types.now a.mapping.now a.ignore a.of.sort a.of.lhs a.of.rhs _ c.in-Some.ensures.1
    (wrong_length (store_in a.store.now) a.mapping.now c.in_default-as_mut_array.ensures.cases)

pub is_allowed-requires : goal.is_allowed-requires
is_allowed-requires c =
    let w = c.in-Some.ensures in
    let h = words_sound w in
    record { sized = h.sized; laid = h.laid }

pub returns-then-not-is_allowed : goal.returns-then-not-is_allowed
unfolding compared_of
returns-then-not-is_allowed c =
    let a = c.args in
    let z = c.in-Some-as_mut_array.entries.now in
    as_found c.in-Some.ensures c.in-Some-as_mut_array.ensures.cases.same
    (unallowed c.in-Some.words.now a.types.now z a.ignore a.of.sort a.of.lhs a.of.rhs true refl
    (sym c.is_allowed.ensures ∙ c.if-not-is_allowed.true))

pub invariant_of-view : goal.invariant_of-view
invariant_of-view c =
    let w = c.in-Some.ensures in
    record {
      readable = record {
        sound = words_sound w;
        indexed = (no_types c.args.types.now (search (rules, tests, c.is_empty.ensures))).0;
      };
    }

pub fragments_eq-requires : goal.fragments_eq-requires
fragments_eq-requires c = sym c.is_allowed.ensures ∙ c.if-not-is_allowed.false

pub returns-then-is_empty : goal.returns-then-is_empty
returns-then-is_empty c =
    let a = c.args in
    let r = c.fragments_eq in
    let words = c.in-Some.words.now in
    let z = c.in-Some-as_mut_array.entries.now in
    as_found c.in-Some.ensures c.in-Some-as_mut_array.ensures.cases.same
    (subst (λ (types : List ℕ). ComparisonAnswers true words types z r.new.mapping a.ignore a.of.sort a.of.lhs a.of.rhs (compared_of r.result))
    (no_types a.types.now (search (rules, tests, c.is_empty.ensures))).1 r.ensures)

pub indexed_eq-requires : goal.indexed_eq-requires
indexed_eq-requires c =
    let w = c.in-Some.ensures in
    record { sound = words_sound w; mapping_value = sym c.is_allowed.ensures ∙ c.if-not-is_allowed.false }

pub returns : goal.returns
returns c = as_found c.in-Some.ensures c.in-Some-as_mut_array.ensures.cases.same c.indexed_eq.ensures
