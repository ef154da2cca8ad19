-- `names_agree` meets its contract: operands, then successors, each as the operations are read with. Assumes nothing.
use Rattle.std.proofs.Common.{◌≡◌, ℕ, List, true, ltb, sym, subst, ap₂, ◌∙◌}
use Rattle.std.specs.List.{list_all}
use Rattle.rules.specs.Lists.{all_pairs}
use Rattle.rules.specs.Store.{op_at}
use Rattle.rules.specs.Types.{renamed}
use Rattle.rules.specs.Comparison.{operands_agree, successors_agree}
use Rattle.layout.specs.Reading.{store_in}
use Rattle.fragments.specs.Index.{list_in}
use Rattle.equivalence.specs.MappingWords.{mapping_of, same_operand, same_successor}
use Rattle.equivalence.proofs.Chained.{and_goes, and_stops}
use Rattle.equivalence.proofs.Named.{operands_below, successors_below}
use Rattle.equivalence.proofs.names.names_agree.Goals as goal

-- what the tests ask for, of the lists that the code reads
read_below : (n : ℕ) (xs ys : List ℕ) → ys ≡ xs → list_all (λ (v : ℕ). ltb v n) xs ≡ true → list_all (λ (v : ℕ). ltb v n) ys ≡ true
read_below n xs ys e h = subst (λ (zs : List ℕ). list_all (λ (v : ℕ). ltb v n) zs ≡ true) (sym e) h

pub operands_agree-requires-clause-l_value : goal.operands_agree-requires-clause-l_value
operands_agree-requires-clause-l_value c =
    read_below _ _ _ c.operands_of-l.ensures (operands_below c.args.view.now.store.now c.args.view.now.readable.sound c.args.lhs c.requires.lhs_bound)

pub operands_agree-requires-clause-r_value : goal.operands_agree-requires-clause-r_value
operands_agree-requires-clause-r_value c =
    read_below _ _ _ c.operands_of-r.ensures (operands_below c.args.view.now.store.now c.args.view.now.readable.sound c.args.rhs c.requires.rhs_bound)

pub successors_agree-requires : goal.successors_agree-requires
successors_agree-requires c =
    read_below _ _ _ c.successors_of.ensures (successors_below c.args.view.now.store.now c.args.view.now.readable.sound c.args.lhs c.requires.lhs_bound)

pub returns-then-operands_agree : goal.returns-then-operands_agree
unfolding operands_agree successors_agree same_operand same_successor renamed op_at
returns-then-operands_agree c =
    let a = c.args in
    let s = renamed (list_in a.view.now.index.now) (store_in a.view.now.store.now) in
    let m = mapping_of a.mapping.now in
    let operands = c.operands_agree.ensures ∙ ap₂ (all_pairs (same_operand s m)) c.operands_of-l.ensures c.operands_of-r.ensures in
    let successors = c.successors_agree.ensures ∙ ap₂ (all_pairs (same_successor m)) c.successors_of.ensures c.successors_of-then-operands_agree.ensures in
    and_goes (operands_agree s m a.lhs a.rhs) (successors_agree s m a.lhs a.rhs) (sym operands ∙ c.if-operands_agree.true) successors

pub returns-else-operands_agree : goal.returns-else-operands_agree
unfolding operands_agree same_operand renamed op_at
returns-else-operands_agree c =
    let a = c.args in
    let s = renamed (list_in a.view.now.index.now) (store_in a.view.now.store.now) in
    let m = mapping_of a.mapping.now in
    let operands = c.operands_agree.ensures ∙ ap₂ (all_pairs (same_operand s m)) c.operands_of-l.ensures c.operands_of-r.ensures in
    and_stops (operands_agree s m a.lhs a.rhs) (successors_agree s m a.lhs a.rhs) (sym operands ∙ c.if-operands_agree.false) c.if-operands_agree.false
