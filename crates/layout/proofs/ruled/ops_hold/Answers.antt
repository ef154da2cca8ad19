-- `ops_hold` meets its contract: a scan that ends at the first operation that breaks the rules. Assumes nothing.
use mathlib.Core.Path.{sym, ◌∙◌}
use native.Mathlib.Omega.{arith}
use Rattle.layout.specs.Reading.{op_count}
use Rattle.layout.proofs.Scans.{scan_starts, scan_on, scan_fails, scan_done}
use Rattle.layout.proofs.ruled.ops_hold.Goals as goal

pub loop-n-init : goal.loop-n-init
unfolding op_count
loop-n-init c = scan_starts _ _ _ c.number-ops.ensures

pub op_rules-requires : goal.op_rules-requires
op_rules-requires c =
    record { arranged = c.requires; n_bound = omega arith }

pub returns-then-not-op_rules : goal.returns-then-not-op_rules
returns-then-not-op_rules c =
    scan_fails c.loop-n.invariant c.loop-n-test.true (sym c.op_rules.ensures ∙ c.if-not-op_rules.true)

pub loop-n-preserved : goal.loop-n-preserved
loop-n-preserved c =
    scan_on c.loop-n.invariant c.loop-n-test.true (sym c.op_rules.ensures ∙ c.if-not-op_rules.false)

pub returns : goal.returns
returns c = scan_done c.loop-n.invariant c.loop-n-test.false
