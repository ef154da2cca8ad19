-- The words of an index, of which a list that holds has some, cross as their number. Assumes nothing.
use Rattle.std.proofs.Common.{ℕ, List, Option, None, Some, arith}
use Rattle.std.specs.Option.{unwrap_or}
use borrow.Author.Tests.{ne_eqb}
use Rattle.fragments.specs.Index.{Indexes}
use Rattle.warzhigo_c.specs.Codes.{index_means}

pub indexed : (types index : List ℕ) (r : Option ℕ) → Indexes types index r → Indexes types index (index_means (unwrap_or r 0))
unfolding index_means
indexed types index None h = h
indexed types index (Some n) h = rw (ne_eqb n 0 (λ e. let s = h.some in omega arith)) h
