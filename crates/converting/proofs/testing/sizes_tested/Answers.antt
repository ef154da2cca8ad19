-- `sizes_tested` meets its contract: the whole is tested first. Assumes nothing.
use Rattle.converting.specs.Testing.{refusal_of}
use Rattle.converting.proofs.Tests.{whole_long, sizes_are}
use Rattle.converting.proofs.testing.sizes_tested.Goals as goal

pub returns-then-sizes-gt-MAX_LISTING : goal.returns-then-sizes-gt-MAX_LISTING
unfolding refusal_of
returns-then-sizes-gt-MAX_LISTING c = whole_long c.args.sizes c.if-sizes-gt-MAX_LISTING.true

pub returns-in-Some : goal.returns-in-Some
unfolding refusal_of
returns-in-Some c = sizes_are c.args.sizes c.if-sizes-gt-MAX_LISTING.false _ c.in-Some.is

pub returns-in-None : goal.returns-in-None
unfolding refusal_of
returns-in-None c = sizes_are c.args.sizes c.if-sizes-gt-MAX_LISTING.false _ c.in-None.is
