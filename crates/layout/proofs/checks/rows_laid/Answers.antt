-- `rows_laid` meets its contract: a scan that ends at the first row that is not laid out. Assumes nothing.
use mathlib.Core.Path.{sym, ◌∙◌}
use native.Mathlib.Omega.{arith}
use Rattle.layout.proofs.Scans.{scan_starts, scan_on, scan_fails, scan_done}
use Rattle.layout.proofs.checks.rows_laid.Goals as goal

pub loop-i-init : goal.loop-i-init
loop-i-init c = scan_starts _ _ _ c.number-count.ensures

pub row_laid-requires : goal.row_laid-requires
row_laid-requires c =
    record {
      counts_bounded = c.requires.counts_bounded;
      table_bound = c.requires.table_bound;
      i_bound = omega (arith, c.number-count.ensures);
    }

pub returns-then-not-row_laid : goal.returns-then-not-row_laid
returns-then-not-row_laid c =
    scan_fails c.loop-i.invariant c.loop-i-test.true (sym c.row_laid.ensures ∙ c.if-not-row_laid.true)

pub loop-i-preserved : goal.loop-i-preserved
loop-i-preserved c =
    scan_on c.loop-i.invariant c.loop-i-test.true (sym c.row_laid.ensures ∙ c.if-not-row_laid.false)

pub returns : goal.returns
returns c = scan_done c.loop-i.invariant c.loop-i-test.false
