-- `lent_hash` meets its contract: cause 1 comes first, and where no list of types is lent, its words are their own index. Assumes nothing.
use Rattle.std.proofs.Common.{◌≡◌, ℕ, true, List, [], length, sym, ap, ◌∙◌, subst, rules}
use Rattle.validation.proofs.Offering.{words_sound}
use Rattle.fragments.specs.Index.{list_in, IsIndex}
use Rattle.fragments.proofs.Indexed.{no_words_lem, no_list}
use Rattle.fragments.proofs.Lone.{no_children}
use Rattle.hashing.specs.Calls.{HashAnswers}
use Rattle.hashing.proofs.Answering.{unsound, as_found}
use Rattle.api.proofs.hashes.lent_hash.Goals as goal

pub returns-in_default : goal.returns-in_default
returns-in_default c =
    let a = c.args in
    unsound a.store.now a.types.now a.ignore a.sort a.n _ c.in_default.ensures

pub invariant_of-view : goal.invariant_of-view
invariant_of-view c =
    let w = c.in-Some.ensures in
    let a = c.args in
    let none : length a.types.now ≡ 0 = search rules in
    record {
      readable = record {
        sound = words_sound w;
        indexed = subst IsIndex (sym (no_children a.types.now none)) no_words_lem;
      };
    }

pub returns-then-is_empty : goal.returns-then-is_empty
returns-then-is_empty c =
    let a = c.args in
    let few : length a.types.now ≡ 0 = search rules in
    let none : a.types.now ≡ [] = no_children a.types.now few in
    as_found c.in-Some.ensures
    (subst (λ (types : List ℕ). HashAnswers true c.in-Some.words.now types a.ignore a.sort a.n c.fragment_hash.result)
    (ap list_in none ∙ no_list ∙ sym none) c.fragment_hash.ensures)

pub indexed_hash-requires : goal.indexed_hash-requires
indexed_hash-requires c = words_sound c.in-Some.ensures

pub returns : goal.returns
returns c = as_found c.in-Some.ensures c.indexed_hash.ensures
