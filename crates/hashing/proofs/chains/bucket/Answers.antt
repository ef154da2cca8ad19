-- `bucket` meets its contract: the upper 9 bits of a sum are below 512. Assumes nothing.
use Rattle.std.proofs.Common.{refl, arith}
use Rattle.hashing.specs.Chains.{bucket_of}
use Rattle.hashing.proofs.chains.bucket.Goals as goal

pub returns : goal.returns
unfolding bucket_of
returns c =
    record { value = refl; upper_bound = omega arith }
