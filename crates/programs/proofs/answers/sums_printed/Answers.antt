-- `sums_printed` meets its contract: in buffers of their lengths, with room enough, the listing is printed. Assumes nothing.
use Rattle.std.proofs.Common.{ℕ}
use lib.ListN.{length-replicate}
use Rattle.rules.specs.Mapping.{no_image}
use Rattle.rules.specs.Listings.{sums_program, sums}
use Rattle.layout.specs.Columns.{buffer_length}
use Rattle.equivalence.specs.MappingWords.{mapping_length, empty_words}
use Rattle.listing.specs.Calls.{buffers}
use Rattle.programs.proofs.Printing.{all_printed}
use Rattle.programs.proofs.answers.sums_printed.Goals as goal

pub returns : goal.returns
unfolding sums buffers empty_words
returns c =
    let printed =
    all_printed sums_program c.args.listing.now _ _ (length-replicate {A = ℕ} buffer_length 0) (length-replicate {A = ℕ} mapping_length no_image) c.requires in
    rw c.unwrap_or.ensures (printed c.sums.result c.sums.ensures)
