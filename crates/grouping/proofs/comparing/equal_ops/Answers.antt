-- `equal_ops` meets its contract: the comparison begins with an empty mapping, and what it has entered is taken out again. Assumes nothing.
use Prim.Native.Nat.{ℕ}
use native.Mathlib.Omega.{arith}
use mathlib.Core.Bool.{true}
use mathlib.Core.Path.{◌≡◌, sym, subst, ◌∙◌}
use Rattle.rules.specs.Fragments.{exists}
use Rattle.rules.specs.declared.types.Sort.TheVariants.{Op as op}
use Rattle.rules.specs.Entered.{EnteredBy, paired_in}
use Rattle.layout.specs.Columns.{columns}
use Rattle.layout.specs.Reading.{store_in}
use Rattle.fragments.specs.View.{options_in}
use Rattle.fragments.proofs.Few.{op_low}
use Rattle.fragments.proofs.There.{is_there}
use Rattle.equivalence.specs.MappingWords.{mapping_of}
use Rattle.equivalence.specs.Compares.{answer_of}
use Rattle.equivalence.proofs.Answering.{few_walk}
use Rattle.equivalence.proofs.AfterEmpty.{equal_told, compared_entered}
use Rattle.grouping.proofs.comparing.equal_ops.Goals as goal
use Rattle.grouping.proofs.comparing.equal_ops.Goals.{Start}

module _ (c : Start) where
  left_here : exists (store_in c.args.view.now.store.now) op c.args.pair.lhs ≡ true
  left_here = is_there (columns c.args.view.now.store.now) op c.args.pair.lhs c.requires.lhs_bound

  right_here : exists (store_in c.args.view.now.store.now) op c.args.pair.rhs ≡ true
  right_here = is_there (columns c.args.view.now.store.now) op c.args.pair.rhs c.requires.rhs_bound

pub ops_eq-result-requires-clause-paired_fits : goal.ops_eq-result-requires-clause-paired_fits
ops_eq-result-requires-clause-paired_fits c =
    let a = c.args in
    few_walk (store_in a.view.now.store.now) a.view.now.readable.sound.ruled (options_in a.view.now) op a.pair.lhs a.pair.rhs
    (left_here ((goal.at.ops_eq-result-requires-clause-paired_fits c).Start)) a.mapping.now

pub overflow_cast-pair : goal.overflow_cast-pair
overflow_cast-pair c = record { fits = omega (arith, op_low _ c.args.view.now.readable.sound _ c.requires.lhs_bound) }

pub unmap_entered-requires-clause-entered_by : goal.unmap_entered-requires-clause-entered_by
unmap_entered-requires-clause-entered_by c =
    let a = c.args in
    let start = (goal.at.unmap_entered-requires-clause-entered_by c).Start in
    let q = c.ops_eq-result in
    let many : c.paired_of.result ≡ paired_in (answer_of q.result) = c.paired_of.ensures in
    subst (λ (n : ℕ). EnteredBy (store_in a.view.now.store.now) (mapping_of q.new.mapping) n) (sym many)
    (compared_entered (options_in a.view.now) a.view.now.readable.sound op a.pair.lhs a.pair.rhs c.requires.mapping_value q.result q.new.mapping q.ensures (left_here start) (right_here start))

pub returns-clause-value : goal.returns-clause-value
returns-clause-value c =
    let a = c.args in
    let q = c.ops_eq-result in
    c.is_ok.ensures.value
    ∙ equal_told (options_in a.view.now) a.view.now.readable.sound op a.pair.lhs a.pair.rhs c.requires.mapping_value q.result q.new.mapping q.ensures
