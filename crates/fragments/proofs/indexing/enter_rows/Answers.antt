-- `enter_rows` meets its contract: the rows that were passed are entered, and an old type that has one already ends it. Assumes nothing.
use Prim.Native.Nat.{ℕ, ◌/◌, ◌<◌}
use native.Mathlib.Omega.{arith}
use mathlib.Core.Bool.{true≢false}
use mathlib.Core.Path.{◌≡◌, sym, subst, ◌∙◌}
use lib.ListN.{length}
use Rattle.fragments.specs.Index.{Rows, FoundAt}
use Rattle.fragments.proofs.Chains.{found_none, found_row}
use Rattle.fragments.proofs.Making.{rows_next}
use Rattle.fragments.proofs.Told.{row_old, row_now, given_twice, given_once}
use Rattle.fragments.proofs.indexing.enter_rows.Goals as goal

pub returns-then-is_some : goal.returns-then-is_some
returns-then-is_some c =
    let types = c.args.types.now in
    let loop = c.loop-k in
    let inside : loop.k < length types / 2 = omega (arith, c.loop-k-test.true, c.as_chunks.ensures.front_len) in
    let old = row_old types c.as_chunks.result.0.now loop.k c.as_chunks.ensures.front inside in
    let row = found_row loop.index loop.k _ _ (c.row_of.ensures.finds loop.k loop.invariant.rows.entered) (sym c.is_some.ensures ∙ c.if-is_some.true) in
    record {
      told =
          sym
          (given_twice types c.requires.whole_and_few.whole loop.index loop.k row.0 loop.invariant.rows (omega arith)
          (subst (λ (t : ℕ). FoundAt loop.index loop.k t row.0) old row.1));
      rows = λ q. absurd (true≢false (sym q));
    }

pub loop-k-preserved : goal.loop-k-preserved
loop-k-preserved c =
    let types = c.args.types.now in
    let loop = c.loop-k in
    let inside : loop.k < length types / 2 = omega (arith, c.loop-k-test.true, c.as_chunks.ensures.front_len) in
    let old = row_old types c.as_chunks.result.0.now loop.k c.as_chunks.ensures.front inside in
    let now = row_now types c.as_chunks.result.0.now loop.k c.as_chunks.ensures.front inside in
    let long : length c.enter.new.index ≡ 256 = c.enter.auto.index ∙ loop.invariant.long in
    record {
      rows =
          rows_next loop.invariant.rows c.enter.ensures old now (omega (arith, long, c.requires.whole_and_few.few))
          (found_none loop.index loop.k _ _ (c.row_of.ensures.finds loop.k loop.invariant.rows.entered) (sym c.is_some.ensures ∙ c.if-is_some.false));
      long = long;
    }

pub returns : goal.returns
returns c =
    let types = c.args.types.now in
    let loop = c.loop-k in
    let whole : loop.k ≡ length types / 2 = omega (arith, c.loop-k-test.false, loop.auto.k-end, c.as_chunks.ensures.front_len) in
    let rows : Rows types loop.index (length types / 2) = subst (λ (n : ℕ). Rows types loop.index n) whole loop.invariant.rows in
    record { told = sym (given_once types c.requires.whole_and_few.whole loop.index rows); rows = λ _. rows }
