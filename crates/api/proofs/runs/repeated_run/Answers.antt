-- `repeated_run` meets its contract: cause 1 comes first, and where no list of types is lent, its words are their own index. Assumes nothing.
use Prim.Native.Nat.{ℕ}
use lib.ListN.{length}
use Rattle.std.proofs.Common.{rules}
use mathlib.Core.Bool.{true}
use mathlib.Core.List.{List, []}
use mathlib.Core.Path.{◌≡◌, sym, ap, subst, ◌∙◌}
use Rattle.validation.proofs.Offering.{words_sound}
use Rattle.fragments.specs.Index.{list_in, IsIndex}
use Rattle.fragments.proofs.Indexed.{no_words_lem, no_list}
use Rattle.fragments.proofs.Lone.{no_children}
use Rattle.repeated_runs.specs.Calls.{RunAnswers}
use Rattle.repeated_runs.proofs.Answering.{unsound, as_found}
use Rattle.api.proofs.runs.repeated_run.Goals as goal

pub returns-in_default : goal.returns-in_default
returns-in_default c =
    let a = c.args in
    unsound a.store.now a.types.now a.ignore a.block a.length _ c.in_default.ensures

pub invariant_of-view : goal.invariant_of-view
invariant_of-view c =
    let w = c.in-Some.ensures in
    let few : length c.args.types.now ≡ 0 = search rules in
    record {
      readable = record {
        sound = words_sound w;
        indexed = subst IsIndex (sym (no_children c.args.types.now few)) no_words_lem;
      };
    }

pub returns-then-is_empty : goal.returns-then-is_empty
returns-then-is_empty c =
    let a = c.args in
    let few : length a.types.now ≡ 0 = search rules in
    let none : a.types.now ≡ [] = no_children a.types.now few in
    as_found c.in-Some.ensures
    (subst (λ (types : List ℕ). RunAnswers true c.in-Some.words.now types a.ignore a.block a.length c.block_runs.result)
    (ap list_in none ∙ no_list ∙ sym none) c.block_runs.ensures)

pub indexed_runs-requires : goal.indexed_runs-requires
indexed_runs-requires c = words_sound c.in-Some.ensures

pub returns : goal.returns
returns c = as_found c.in-Some.ensures c.indexed_runs.ensures
