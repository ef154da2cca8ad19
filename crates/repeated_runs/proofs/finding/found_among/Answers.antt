-- `found_among` meets its contract: operations of a block exist, their windows are summed, and the mapping that is made is empty. Assumes
-- nothing.
use Prim.Native.Nat.{ℕ, ◌+◌, ◌-◌, ◌≤◌}
use native.Mathlib.Omega.{arith}
use mathlib.Core.Bool.{true}
use mathlib.Core.List.{Memᴰ}
use mathlib.Core.Path.{◌≡◌, refl, sym, subst, ◌∙◌}
use borrow.Author.Tests.{lt-ltb}
use lib.Dec.{ltb}
use lib.ListN.{length}
use lib.Seq.{length-take-le}
use Rattle.std.proofs.lemmas.List.{get_or-take}
use Rattle.std.specs.List.{list_all}
use Rattle.rules.proofs.Basics.Tests.{all_of}
use Rattle.layout.specs.Columns.{columns}
use Rattle.layout.specs.Reading.{op_count}
use Rattle.fragments.proofs.Ordered.{op_in_lem}
use Rattle.equivalence.specs.MappingWords.{empty_words}
use Rattle.repeated_runs.proofs.Listed.{few}
use Rattle.repeated_runs.proofs.finding.found_among.Goals as goal
use Rattle.repeated_runs.proofs.finding.found_among.Goals.{After-window_sums}

pub window_sums-requires : goal.window_sums-requires
window_sums-requires c =
    let exist : list_all (λ (k : ℕ). ltb k (op_count (columns c.args.view.now.store.now))) c.args.ops.now ≡ true =
    all_of _ c.args.ops.now (λ k m. lt-ltb k _ (op_in_lem (columns c.args.view.now.store.now) c.args.runs.block k (subst (Memᴰ k) c.requires.ops_of.all m))) in
    let short = few c.args.view.now.readable.sound c.requires.ops_of in
    record {
      ops_value = exist;
      le_n = c.requires.le_n;
      n_le_max_run = c.requires.n_le_max_run;
      n_in_bounds = c.requires.n_in_bounds;
      ops_len_bound = omega (arith, short);
      sums_in_bounds = omega (arith, short);
    }

-- as many sums as there are starts
many : (c : After-window_sums) → length c.args.ops.now + 1 - c.args.runs.n ≤ length c.window_sums.new.sums
many c =
    let short = few c.args.view.now.readable.sound c.requires.ops_of in
    omega (arith, short, c.window_sums.ensures.sums_len, c.requires.le_n)

pub slice_bounds-sums-end : goal.slice_bounds-sums-end
slice_bounds-sums-end c = many ((goal.at.slice_bounds-sums-end c).After-window_sums)

pub slice_bounds-sums-length : goal.slice_bounds-sums-length
slice_bounds-sums-length c = sym (length-take-le _ _ (many ((goal.at.slice_bounds-sums-length c).After-window_sums)))

pub new-chains-requires : goal.new-chains-requires
new-chains-requires c =
    let short = few c.args.view.now.readable.sound c.requires.ops_of in
    omega (arith, short, length-take-le _ _ (many ((goal.at.new-chains-requires c).After-window_sums)), c.requires.le_n)

pub first_run-requires : goal.first_run-requires
unfolding empty_words
first_run-requires c =
    let starts = length c.args.ops.now + 1 - c.args.runs.n in
    let long = length-take-le starts c.window_sums.new.sums (many ((goal.at.first_run-requires c).After-window_sums)) in
    record {
      mapping_value = refl;
      ops_of = c.requires.ops_of;
      le_n = c.requires.le_n;
      sums_of = (λ i l. get_or-take starts c.window_sums.new.sums i 0 (omega (arith, l, c.requires.le_n)) ∙ c.window_sums.ensures.sums_of i l);
      chained_starts = record { long = omega (arith, long); chained = c.new-chains.ensures };
    }
