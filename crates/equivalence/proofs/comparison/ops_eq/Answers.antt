-- `ops_eq` meets its contract: the walk over two operations pairs them, and then checks them. Assumes nothing.
use mathlib.Core.Path.{sym, subst, ◌∙◌}
use Rattle.std.proofs.Common.{rules}
use Rattle.rules.specs.Comparison.{Walk, pair_ops}
use Rattle.layout.specs.Reading.{store_in}
use Rattle.fragments.specs.Options.{Options, renamed_under}
use Rattle.fragments.specs.View.{options_in}
use Rattle.equivalence.specs.Compares.{state_of, PairedFits}
use Rattle.equivalence.specs.Compares.{Compares}
use Rattle.equivalence.specs.Walked.{op_walk}
use Rattle.equivalence.proofs.Telling.{told_ended, told_bind, told_same}
use Rattle.equivalence.proofs.Answering.{op_walk_lem}
use Rattle.equivalence.proofs.comparison.ops_eq.Goals as goal

pub returns-in_err-paired : goal.returns-in_err-paired
returns-in_err-paired c =
    let a = c.args in
    let S = store_in a.view.now.store.now in
    let o : Options = options_in a.view.now in
    let st = state_of a.mapping.now 0 in
    let m = c.op_eq_map in
    subst (λ (w : Walk). Compares w c.from_residual.result m.new.mapping) (sym (op_walk_lem S o a.pair.lhs a.pair.rhs st))
    (told_same _ _ {u = c.in_err-paired.field-0.0} (search rules)
    (told_ended (pair_ops (renamed_under o S) o.ignore a.pair.lhs a.pair.rhs st) (op_walk S o a.pair.lhs a.pair.rhs) _ m.new.mapping c.in_err-paired.was m.ensures))

pub op_eq_mapped-requires-clause-paired_fits : goal.op_eq_mapped-requires-clause-paired_fits
op_eq_mapped-requires-clause-paired_fits c =
    let a = c.args in
    let S = store_in a.view.now.store.now in
    let o : Options = options_in a.view.now in
    let st = state_of a.mapping.now 0 in
    let m = c.op_eq_map in
    let next =
    op_walk_lem S o a.pair.lhs a.pair.rhs st ∙ told_bind (pair_ops (renamed_under o S) o.ignore a.pair.lhs a.pair.rhs st) (op_walk S o a.pair.lhs a.pair.rhs)
    m.new.mapping c.in_ok-paired.was m.ensures in
    subst (λ (w : Walk). PairedFits w) next c.requires.paired_fits

pub returns : goal.returns
returns c =
    let a = c.args in
    let S = store_in a.view.now.store.now in
    let o : Options = options_in a.view.now in
    let st = state_of a.mapping.now 0 in
    let m = c.op_eq_map in
    let next =
    op_walk_lem S o a.pair.lhs a.pair.rhs st ∙ told_bind (pair_ops (renamed_under o S) o.ignore a.pair.lhs a.pair.rhs st) (op_walk S o a.pair.lhs a.pair.rhs)
    m.new.mapping c.in_ok-paired.was m.ensures in
    let r = c.op_eq_mapped in
    subst (λ (w : Walk). Compares w r.result r.new.mapping) (sym next) r.ensures
