-- `blocks_hold` meets its contract: a scan that ends at the first block that breaks the rules. Assumes nothing.
use Rattle.layout.specs.Columns.{columns}
use Rattle.layout.specs.Reading.{block_count}
use Rattle.layout.specs.Soundness.{block_rules}
use Rattle.layout.proofs.Scans.{Scanned}
use Rattle.layout.proofs.ruled.blocks_hold.Given as goal

abbrev pub invariant-loop-m : goal.invariant-loop-m
invariant-loop-m l = Scanned (block_rules (columns l.store)) (block_count (columns l.store)) l.blocks l.m
