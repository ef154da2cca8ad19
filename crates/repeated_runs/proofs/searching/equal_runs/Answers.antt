-- `equal_runs` meets its contract: runs that the test of first operands tells apart are not equal. Assumes nothing.
use mathlib.Core.Path.{sym}
use Rattle.fragments.specs.Index.{list_in}
use Rattle.repeated_runs.proofs.searching.equal_runs.Goals as goal

pub returns-then-not-first_uses_may_agree : goal.returns-then-not-first_uses_may_agree
returns-then-not-first_uses_may_agree c =
    record {
      value = sym (c.first_uses_may_agree.ensures (list_in c.args.view.now.index.now) c.args.view.now.ignore c.if-not-first_uses_may_agree.true);
      mapping_after = c.requires.mapping_value;
    }
