-- `twins_printed` meets its contract: in buffers of their lengths, with room enough, the listing is printed. Assumes nothing.
use Rattle.std.proofs.Common.{ℕ}
use lib.ListN.{length-replicate}
use Rattle.rules.specs.Listings.{twins_program, twins}
use Rattle.layout.specs.Columns.{buffer_length}
use Rattle.equivalence.specs.MappingWords.{mapping_length}
use Rattle.listing.specs.Calls.{buffers}
use Rattle.programs.proofs.Printing.{all_printed}
use Rattle.programs.proofs.answers.twins_printed.Goals as goal

pub returns : goal.returns
unfolding twins buffers
returns c =
    let printed =
    all_printed twins_program c.args.listing.now _ _ (length-replicate {A = ℕ} buffer_length 0) (length-replicate {A = ℕ} mapping_length 0) c.requires in
    rw c.unwrap_or.ensures (printed c.twins.result c.twins.ensures)
