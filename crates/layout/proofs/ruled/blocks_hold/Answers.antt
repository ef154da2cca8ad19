-- `blocks_hold` meets its contract: a scan that ends at the first block that breaks the rules. Assumes nothing.
use mathlib.Core.Path.{sym, ◌∙◌}
use native.Mathlib.Omega.{arith}
use Rattle.layout.specs.Reading.{block_count}
use Rattle.layout.proofs.Scans.{scan_starts, scan_on, scan_fails, scan_done}
use Rattle.layout.proofs.ruled.blocks_hold.Goals as goal

pub loop-m-init : goal.loop-m-init
unfolding block_count
loop-m-init c = scan_starts _ _ _ c.number-blocks.ensures

pub block_rules-requires : goal.block_rules-requires
block_rules-requires c =
    record { arranged = c.requires; m_bound = omega arith }

pub returns-then-not-block_rules : goal.returns-then-not-block_rules
returns-then-not-block_rules c =
    scan_fails c.loop-m.invariant c.loop-m-test.true (sym c.block_rules.ensures ∙ c.if-not-block_rules.true)

pub loop-m-preserved : goal.loop-m-preserved
loop-m-preserved c =
    scan_on c.loop-m.invariant c.loop-m-test.true (sym c.block_rules.ensures ∙ c.if-not-block_rules.false)

pub returns : goal.returns
returns c = scan_done c.loop-m.invariant c.loop-m-test.false
