-- `window_sums` meets its contract: the table has the powers, and the sums are those of the operations' hashes. Assumes nothing.
use Rattle.std.proofs.Common.{◌≡◌, ℕ, List, length, take, sym, refl, arith}
use Rattle.rules.specs.Store.{Store}
use Rattle.layout.specs.Reading.{store_in}
use Rattle.fragments.specs.Options.{Options}
use Rattle.fragments.specs.View.{options_in}
use Rattle.repeated_runs.specs.Powers.{chained}
use Rattle.repeated_runs.proofs.Summed.{hashes_long, sums_of_lem}
use Rattle.repeated_runs.proofs.Weights.{powers_chained}
use Rattle.repeated_runs.proofs.sums.window_sums.Goals as goal

pub slice_bounds-sum_windows-end : goal.slice_bounds-sum_windows-end
slice_bounds-sum_windows-end c =
    let store : Store = store_in c.args.view.now.store.now in
    let options : Options = options_in c.args.view.now in
    let ops : List ℕ = c.args.ops.now in
    let hashes : List ℕ = c.shell_hashes.new.hashes in
    let long : length (take (length ops) hashes) ≡ length ops = hashes_long store options ops hashes c.shell_hashes.ensures in
    sym long

-- the first `refl` is the test of the rule from entry to entry, computed over the whole table
pub sum_windows-requires : goal.sum_windows-requires
unfolding chained
sum_windows-requires c =
    let store : Store = store_in c.args.view.now.store.now in
    let options : Options = options_in c.args.view.now in
    let ops : List ℕ = c.args.ops.now in
    let hashes : List ℕ = c.shell_hashes.new.hashes in
    let long : length (take (length ops) hashes) ≡ length ops = hashes_long store options ops hashes c.shell_hashes.ensures in
    record {
      powers = powers_chained _ refl refl;
      le_n = c.requires.le_n;
      n_le_max_run = c.requires.n_le_max_run;
      n_in_bounds = omega (arith, long, c.requires.n_in_bounds);
      hashes_in_bounds = omega (arith, long, c.requires.sums_in_bounds);
    }

pub returns : goal.returns
returns c =
    let store : Store = store_in c.args.view.now.store.now in
    let options : Options = options_in c.args.view.now in
    let ops : List ℕ = c.args.ops.now in
    let hashes : List ℕ = c.shell_hashes.new.hashes in
    let sums = c.sum_windows.new.sums in
    let of = sums_of_lem store options ops hashes c.shell_hashes.ensures in
    record { sums_of = of sums c.args.n c.sum_windows.ensures; sums_len = c.sum_windows.auto.sums }
