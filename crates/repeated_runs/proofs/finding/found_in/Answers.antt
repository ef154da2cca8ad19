-- `found_in` meets its contract: the listed words are the block's operations, and fewer than two runs have no right start. Assumes nothing.
use Prim.Native.Nat.{ℕ, ◌≤◌}
use native.Mathlib.Omega.{arith}
use mathlib.Core.Path.{◌≡◌, sym, ap, ◌∙◌}
use lib.ListN.{length}
use lib.Seq.{length-take-le}
use Rattle.rules.specs.Store.{ops_of}
use Rattle.rules.specs.Runs.{repeated_of}
use Rattle.rules.specs.Types.{renamed}
use Rattle.rules.proofs.Runs.Answered.{few_ops}
use Rattle.layout.specs.Reading.{store_in}
use Rattle.fragments.specs.Options.{Options, renamed_under}
use Rattle.fragments.specs.View.{options_in}
use Rattle.repeated_runs.specs.Calls.{found_of}
use Rattle.repeated_runs.proofs.Searched.{right_begins, right_over}
use Rattle.repeated_runs.proofs.finding.found_in.Goals as goal

pub returns-then-count-runs : goal.returns-then-count-runs
unfolding found_of repeated_of renamed ops_of
returns-then-count-runs c =
    let rule : Options = options_in c.args.view.now in
    let block : ℕ = c.args.runs.block in
    let many : c.ops_in-count.result ≡ length (ops_of (renamed_under rule (store_in c.args.view.now.store.now)) block) = c.ops_in-count.ensures.lists.many in
    let n = c.args.runs.n in
    let S = renamed_under rule (store_in c.args.view.now.store.now) in
    sym (ap repeated_of (right_begins S rule.ignore block n ∙ right_over S rule.ignore block n n (omega (arith, c.if-count-runs.true, many))))

pub slice_bounds-ops-end : goal.slice_bounds-ops-end
slice_bounds-ops-end c =
    let block : ℕ = c.args.runs.block in
    let low : c.ops_in-count.result ≤ length c.ops_in-count.new.ops =
    omega (arith, c.ops_in-count.ensures.lists.many, c.ops_in-count.ensures.ops_long, few_ops (store_in c.args.view.now.store.now) c.args.view.now.readable.sound.ruled block) in
    low

pub slice_bounds-found_among-end : goal.slice_bounds-found_among-end
slice_bounds-found_among-end c =
    let block : ℕ = c.args.runs.block in
    let low : c.ops_in-count.result ≤ length c.ops_in-count.new.ops =
    omega (arith, c.ops_in-count.ensures.lists.many, c.ops_in-count.ensures.ops_long, few_ops (store_in c.args.view.now.store.now) c.args.view.now.readable.sound.ruled block) in
    sym (length-take-le _ _ low)

pub found_among-requires : goal.found_among-requires
found_among-requires c =
    let block : ℕ = c.args.runs.block in
    let low : c.ops_in-count.result ≤ length c.ops_in-count.new.ops =
    omega (arith, c.ops_in-count.ensures.lists.many, c.ops_in-count.ensures.ops_long, few_ops (store_in c.args.view.now.store.now) c.args.view.now.readable.sound.ruled block) in
    let long = length-take-le c.ops_in-count.result c.ops_in-count.new.ops low in
    record {
      ops_of = record { here = c.requires.block_bound; all = c.ops_in-count.ensures.lists.first };
      le_n = c.requires.le_n;
      n_le_max_run = c.requires.n_le_max_run;
      n_in_bounds = omega (arith, long, c.if-count-runs.false);
    }
