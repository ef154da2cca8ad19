-- `window_sum` meets its contract: after each turn one hash more is added, times its power. Assumes nothing.
use Rattle.std.proofs.Common.{refl}
use Rattle.repeated_runs.proofs.Weights.{weighted_front, word_added, words_added}
use Rattle.repeated_runs.proofs.sums.window_sum.Goals as goal

pub loop-i-init : goal.loop-i-init
loop-i-init c = weighted_front c.args.hashes.now

pub loop-i-preserved : goal.loop-i-preserved
loop-i-preserved c =
    let loop = c.loop-i in
    word_added c.args.hashes.now c.args.powers.now loop.i loop.sum c.requires.powers c.requires.hashes_len_bound c.loop-i-test.true loop.invariant c.wrapping_mul-sum.ensures refl

pub returns : goal.returns
returns c = words_added c.args.hashes.now c.loop-i.i c.loop-i.sum c.loop-i-test.false c.loop-i.invariant
