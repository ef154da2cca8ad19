-- `compare` meets its contract: the comparison begins with no entries, and those that it made are taken out again. Assumes nothing.
use Rattle.std.proofs.Common.{ℕ, true, List, [], subst, sym}
use Rattle.std.proofs.lemmas.Result.{err_from_is_err_and}
use Rattle.rules.specs.Answers.{Compared}
use Rattle.rules.specs.declared.types.Sort.{Sort}
use Rattle.rules.specs.declared.types.Ignore.{Ignore}
use Rattle.rules.specs.Entered.{EnteredBy}
use Rattle.layout.specs.Reading.{store_in}
use Rattle.fragments.specs.Index.{list_in}
use Rattle.fragments.proofs.Indexed.{no_words_lem, no_list}
use Rattle.equivalence.specs.MappingWords.{mapping_of}
use Rattle.equivalence.specs.Compares.{compared_of}
use Rattle.equivalence.specs.Calls.{ComparisonAnswers}
use Rattle.equivalence.proofs.AfterEmpty.{answered_entered}
use Rattle.listing.proofs.Verdicts.{entries_allowed_lem, compares, refuses}
use Rattle.listing.proofs.comparing.compare.Goals as goal

-- as a list that is empty
unlisted : {b m after : List ℕ} {ig : Ignore} {f : Sort} {l r : ℕ} {q : Compared} → ComparisonAnswers true b (list_in []) m after ig f l r q → ComparisonAnswers true b [] m after ig f l r q
unlisted {b} {m} {after} {ig} {f} {l} {r} {q} h = subst (λ (ts : List ℕ). ComparisonAnswers true b ts m after ig f l r q) no_list h

pub invariant_of-view : goal.invariant_of-view
invariant_of-view c = record { readable = record { sound = c.requires.sound; indexed = no_words_lem } }

pub fragments_eq-requires : goal.fragments_eq-requires
fragments_eq-requires c = entries_allowed_lem (store_in c.args.store.now) c.args.mapping.now c.requires.mapping_value

pub returns-in_err-result : goal.returns-in_err-result
returns-in_err-result c =
    let a = c.args in
    let p = err_from_is_err_and c.from_residual.result c.from_residual.ensures.1 in
    rw (p.1, p.2) (refuses a.store.now a.mapping.now c.fragments_eq.new.mapping a.query _ c.requires.mapping_value (unlisted c.in_err-result.ensures))

pub unmap_entered-requires : goal.unmap_entered-requires
unfolding compared_of
unmap_entered-requires c =
    let a = c.args in
    let after = c.fragments_eq.new.mapping in
    let r = c.requires in
    let entered = answered_entered true a.store.now [] a.mapping.now after _ _ a.query.left a.query.right _ in
    let by = entered r.sound r.mapping_value (unlisted c.in_ok-result.ensures) in
    record {
      sound = r.sound;
      entered_by = subst (λ (n : ℕ). EnteredBy (store_in a.store.now) (mapping_of after) n) (sym c.paired_of.ensures) by;
    }

pub returns : goal.returns
returns c =
    let a = c.args in
    compares a.store.now a.mapping.now c.fragments_eq.new.mapping a.query _ c.requires.mapping_value (unlisted c.in_ok-result.ensures) _ c.unmap_entered.ensures
