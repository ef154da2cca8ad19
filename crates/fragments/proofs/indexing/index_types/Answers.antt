-- `index_types` meets its contract, test by test: where it refuses, a test of the rules fails, and at the end all have passed. Assumes nothing.
use Prim.Native.Nat.{ℕ, ◌+◌, ◌*◌, ◌/◌}
use native.Mathlib.Omega.{arith}
use mathlib.Core.Path.{◌≡◌, sym, ap, ◌∙◌}
use lib.ListN.{length, take, replicate}
use lib.Seq.{length-take-le}
use Rattle.std.proofs.Common.{rules}
use Rattle.fragments.proofs.Making.{none_entered}
use Rattle.fragments.proofs.Told.{half_fails, many_fails, once_fails, present_fails, holds, indexes}
use Rattle.fragments.proofs.indexing.index_types.Goals as goal
use Rattle.fragments.proofs.indexing.index_types.Goals.{then-types-ne0-via-then-types-ne0, then-types-ne0-via-else-types-ne0+then-types-gt-MOST_WORDS, then-not-enter_rows-via-then-not-enter_rows, then-not-enter_rows-via-else-not-enter_rows+then-not-none_renamed}

pub returns-then-types-ne0 : goal.returns-then-types-ne0
returns-then-types-ne0 c =
    elim c.then-types-ne0.branch [
      | then-types-ne0-via-then-types-ne0 w ↦ half_fails c.args.types.now w.if-types-ne0.true
      | then-types-ne0-via-else-types-ne0+then-types-gt-MOST_WORDS w ↦ many_fails c.args.types.now w.if-types-ne0.false w.if-types-gt-MOST_WORDS.true
    ]

pub enter_rows-requires-clause-entered : goal.enter_rows-requires-clause-entered
enter_rows-requires-clause-entered c =
    let many : length (take 64 c.args.index.now) ≡ 64 = length-take-le 64 c.args.index.now (omega arith) in
    none_entered c.fill.new.self _ (c.fill.ensures.after (λ y e. e) ∙ ap (λ (n : ℕ). replicate n 0) many)

pub returns-then-not-enter_rows : goal.returns-then-not-enter_rows
returns-then-not-enter_rows c =
    elim c.then-not-enter_rows.branch [
      | then-not-enter_rows-via-then-not-enter_rows w ↦ once_fails c.args.types.now (sym c.enter_rows.ensures.told ∙ w.if-not-enter_rows.true)
      | then-not-enter_rows-via-else-not-enter_rows+then-not-none_renamed w ↦
          present_fails c.args.types.now (sym w.none_renamed.ensures ∙ w.if-not-none_renamed.true)
    ]

pub returns : goal.returns
returns c =
    let types = c.args.types.now in
    indexes types c.if-types-ne0.false c.enter_rows.new.index (search rules) c.if-types-gt-MOST_WORDS.false
    (c.enter_rows.ensures.rows c.if-not-enter_rows.false)
    (64 + 3 * (length types / 2)) (omega arith)
    (holds types c.if-types-ne0.false c.if-types-gt-MOST_WORDS.false (sym c.enter_rows.ensures.told ∙ c.if-not-enter_rows.false)
    (sym c.none_renamed.ensures ∙ c.if-not-none_renamed.false))
