-- `compare_runs` meets its contract: pass 2 ends the walk, or hands on words and count to pass 3. Assumes nothing.
use mathlib.Core.Path.{◌≡◌, refl, sym, subst}
use Rattle.std.specs.Prelude as std
use Rattle.std.proofs.Common.{rules}
use Rattle.rules.specs.Comparison.{State, Walk, ◌>>=◌}
use Rattle.layout.specs.Reading.{store_in}
use Rattle.fragments.specs.View.{options_in}
use Rattle.equivalence.specs.Compares.{state_of, PairedFits}
use Rattle.equivalence.specs.Compares.{Compares}
use Rattle.equivalence.specs.Walked.{op_walk}
use Rattle.equivalence.proofs.Rounds.{grows_op}
use Rattle.equivalence.proofs.Telling.{told_ended, told_same, told_bind, few_part}
use Rattle.equivalence.proofs.Zipped.{each_zips}
use Rattle.repeated_runs.specs.Walked.{pair_walk, check_walk, runs_walk}
use Rattle.repeated_runs.proofs.Compared.{walk_fits}
use Rattle.repeated_runs.proofs.comparing.compare_runs.Goals as goal
use Rattle.repeated_runs.proofs.comparing.compare_runs.Goals.{Start, In_ok-paired}

abbrev first : Start → Walk
first c = pair_walk (store_in c.args.view.now.store.now) (options_in c.args.view.now) c.args.ops.now c.args.two (state_of c.args.mapping.now 0)

abbrev second : Start → State → Walk
second c = check_walk (store_in c.args.view.now.store.now) (options_in c.args.view.now) c.args.ops.now c.args.two

fits : (c : Start) → PairedFits (first c >>= second c)
unfolding runs_walk
fits c = walk_fits (options_in c.args.view.now) c.args.view.now.readable.sound c.requires c.args.mapping.now

-- pass 2 hands on words and count to pass 3
next : (c : In_ok-paired) → first ((goal.at.In_ok-paired c).Start) >>= second ((goal.at.In_ok-paired c).Start) ≡ second ((goal.at.In_ok-paired c).Start) (state_of c.pair_runs.new.mapping c.in_ok-paired.paired)
next c = told_bind _ _ c.pair_runs.new.mapping c.in_ok-paired.was c.pair_runs.ensures

pub pair_runs-requires-clause-paired_fits : goal.pair_runs-requires-clause-paired_fits
pair_runs-requires-clause-paired_fits c =
    let at = (goal.at.pair_runs-requires-clause-paired_fits c).Start in
    let store = store_in c.args.view.now.store.now in
    let o = options_in c.args.view.now in
    few_part (first at >>= second at) (first at) (second at) ((each_zips (op_walk store o) (grows_op store o)).grows _ _) refl (fits at)

pub returns-in_err-paired : goal.returns-in_err-paired
unfolding runs_walk
returns-in_err-paired c =
    let at = (goal.at.returns-in_err-paired c).Start in
    let u = c.in_err-paired.field-0.0 in
    let told : c.from_residual.result ≡ std.Err u = search rules in
    told_same (first at >>= second at) c.pair_runs.new.mapping told (told_ended (first at) (second at) u c.pair_runs.new.mapping c.in_err-paired.was c.pair_runs.ensures)

pub check_runs-requires-clause-paired_fits : goal.check_runs-requires-clause-paired_fits
check_runs-requires-clause-paired_fits c =
    let at = goal.at.check_runs-requires-clause-paired_fits c in
    subst (λ (w : Walk). PairedFits w) (next (at.In_ok-paired)) (fits at.Start)

pub returns : goal.returns
unfolding runs_walk
returns c =
    let q = c.check_runs in
    subst (λ (w : Walk). Compares w q.result q.new.mapping) (sym (next ((goal.at.returns c).In_ok-paired))) q.ensures
