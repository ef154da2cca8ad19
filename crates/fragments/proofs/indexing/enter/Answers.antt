-- `enter` meets its contract, write by write. Assumes nothing.
use native.Mathlib.Omega.{arith}
use lib.ListN.{length-set}
use Rattle.fragments.proofs.Chains.{bucket_low}
use Rattle.fragments.proofs.Making.{added}
use Rattle.fragments.proofs.indexing.enter.Goals as goal

pub bounds-index-b : goal.bounds-index-b
bounds-index-b c =
    let l = bucket_low c.args.old in
    let e = c.bucket-b.ensures in
    simp length-set (omega arith)

pub bounds-index-b-2 : goal.bounds-index-b-2
bounds-index-b-2 c =
    let l = bucket_low c.args.old in
    let e = c.bucket-b.ensures in
    simp length-set (omega arith)

pub returns : goal.returns
returns c =
    added c.args.index.now c.args.k c.args.old c.args.present c.bucket-b.result c.requires.index_len c.requires.k_bound c.bucket-b.ensures
