-- `row_of` meets its contract: it goes along the chain of t's bucket, and no row that it has passed is t's. Assumes nothing.
use native.Mathlib.Omega.{arith}
use Rattle.fragments.proofs.Chains.{row_found, row_passed, link_less, none_left}
use Rattle.fragments.proofs.lookup.row_of.Goals as goal

pub loop-i-smaller : goal.loop-i-smaller
loop-i-smaller c = link_less c.requires.entered (c.loop-i.invariant.looking c.requires.rows c.requires.entered) c.loop-i-test.true

pub loop-i-preserved : goal.loop-i-preserved
loop-i-preserved c =
    record {
      room =
          omega
          (arith, link_less c.requires.entered (c.loop-i.invariant.looking c.requires.rows c.requires.entered) c.loop-i-test.true, c.loop-i.invariant.room);
      looking = λ n e. row_passed e (c.loop-i.invariant.looking n e) c.loop-i-test.true c.if-index-row.false;
    }

pub returns-then-index-row-clause-finds : goal.returns-then-index-row-clause-finds
returns-then-index-row-clause-finds c = λ n e. row_found e (c.loop-i.invariant.looking n e) c.loop-i-test.true c.if-index-row.true

pub returns-clause-finds : goal.returns-clause-finds
returns-clause-finds c = λ n e. none_left (c.loop-i.invariant.looking n e) (omega arith)
