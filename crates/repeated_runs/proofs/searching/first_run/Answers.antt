-- `first_run` meets its contract: what is left to try from a right start on is the whole, and one with no left start is passed over. Assumes
-- nothing.
use Prim.Native.Nat.{◌+◌, ◌≤◌}
use native.Mathlib.Omega.{arith}
use Rattle.std.specs.Prelude.{Some}
use mathlib.Core.Path.{◌≡◌, sym, ap, ◌∙◌}
use lib.ListN.{length}
use Rattle.rules.specs.Store.{ops_of}
use Rattle.rules.specs.Runs.{repeated, repeated_of}
use Rattle.rules.specs.RunLaws.{Apart, RepeatedFound}
use Rattle.rules.specs.Types.{renamed}
use Rattle.rules.proofs.Runs.Searched.{repeated_found}
use Rattle.layout.specs.Reading.{store_in}
use Rattle.fragments.specs.Options.{renamed_under}
use Rattle.fragments.specs.View.{options_in}
use Rattle.repeated_runs.specs.Calls.{found_of}
use Rattle.repeated_runs.proofs.Listed.{few}
use Rattle.repeated_runs.proofs.Searched.{right_begins, right_here_lem, right_later, right_over}
use Rattle.repeated_runs.proofs.searching.first_run.Goals as goal
use Rattle.repeated_runs.proofs.searching.first_run.Goals.{In-loop-right, In-Some}

-- a right start's run ends in the block
ends : (c : In-loop-right) → c.loop-right.right + c.args.runs.n ≤ length (ops_of (renamed_under (options_in c.args.view.now) (store_in c.args.view.now.store.now)) c.args.runs.block)
unfolding renamed ops_of
ends c = omega (arith, ap length c.requires.ops_of.all, c.requires.chained_starts.long, c.loop-right-test.true, c.requires.le_n)

both : (c : In-Some) → repeated (renamed_under (options_in c.args.view.now) (store_in c.args.view.now.store.now)) c.args.view.now.ignore c.args.runs.block c.args.runs.n ≡ Some (record { left = c.in-Some.left; right = c.loop-right.right })
both c =
    c.loop-right.invariant.1 ∙ right_here_lem _ _ _ _ _ (ends ((goal.at.In-Some c).In-loop-right)) (sym c.left_start.ensures.result_value ∙ c.in-Some.is)

pub loop-right-init : goal.loop-right-init
loop-right-init c = (c.requires.mapping_value, right_begins _ _ _ _)

pub overflow_cast-result : goal.overflow_cast-result
unfolding RepeatedFound Apart
overflow_cast-result c =
    let at = goal.at.overflow_cast-result c in
    let short = few c.args.view.now.readable.sound c.requires.ops_of in
    let apart = (repeated_found _ _ _ _ _ (both (at.In-Some))).0 in
    record { fits = omega (arith, apart, short, c.requires.chained_starts.long, c.loop-right-test.true, c.requires.le_n) }

pub overflow_cast-result-in-Some : goal.overflow_cast-result-in-Some
overflow_cast-result-in-Some c =
    let short = few c.args.view.now.readable.sound c.requires.ops_of in
    record { fits = omega (arith, short, c.requires.chained_starts.long, c.loop-right-test.true, c.requires.le_n) }

pub returns-in-Some : goal.returns-in-Some
unfolding found_of repeated_of
returns-in-Some c = sym (ap repeated_of (both ((goal.at.returns-in-Some c).In-Some)))

pub loop-right-preserved : goal.loop-right-preserved
loop-right-preserved c =
    let none_left = sym c.left_start.ensures.result_value ∙ c.in_default.is in
    (c.left_start.ensures.mapping_after, c.loop-right.invariant.1 ∙ right_later _ _ _ _ _ (ends ((goal.at.loop-right-preserved c).In-loop-right)) none_left)

pub returns : goal.returns
unfolding found_of repeated_of renamed ops_of
returns c =
    sym (ap repeated_of (c.loop-right.invariant.1 ∙ right_over _ _ _ _ _ (omega (arith, ap length c.requires.ops_of.all, c.requires.chained_starts.long, c.loop-right-test.false, c.loop-right.auto, c.requires.le_n))))
