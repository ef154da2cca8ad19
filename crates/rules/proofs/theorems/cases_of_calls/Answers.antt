-- Each clause by the lemma that it is. Assumes nothing.
use Rattle.rules.proofs.Keys.Computed.{key_cases_hold}
use Rattle.rules.proofs.Extents.Computed.{extent_cases_hold}
use Rattle.rules.proofs.MappingComputed.{mapping_cases_hold}
use Rattle.rules.proofs.Walking.Computed.{nesting_cases_hold}
use Rattle.rules.proofs.RenamedTypes.Computed.{type_cases_hold}
use Rattle.rules.proofs.Runs.Computed.{run_cases_hold}
use Rattle.rules.proofs.Marks.Computed.{mark_cases_hold}
use Rattle.rules.proofs.CopyComputed.{copy_cases_hold}
use Rattle.rules.proofs.Grouping.Computed.{grouping_cases_hold}
use Rattle.rules.proofs.theorems.cases_of_calls.Goals as goal

pub returns : goal.returns
returns c =
    record {
      keys = key_cases_hold;
      extents = extent_cases_hold;
      mappings = mapping_cases_hold;
      nesting = nesting_cases_hold;
      types = type_cases_hold;
      runs = run_cases_hold;
      marks = mark_cases_hold;
      copies = copy_cases_hold;
      twins = grouping_cases_hold;
    }
