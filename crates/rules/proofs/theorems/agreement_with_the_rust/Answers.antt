-- Each clause by the lemma that it is. Assumes nothing.
use Rattle.rules.proofs.Rust.Comparison.{compares_as_the_rust}
use Rattle.rules.proofs.Rust.Hash.{hashes_as_the_rust}
use Rattle.rules.proofs.theorems.agreement_with_the_rust.Goals as goal

pub returns : goal.returns
returns c =
    record {
      of_comparisons = compares_as_the_rust;
      of_hashes = hashes_as_the_rust;
    }
