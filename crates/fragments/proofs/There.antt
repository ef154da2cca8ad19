-- A fragment that exists has a number below the count of its sort: the counts of the layout are the lengths of the store's lists.
-- Assumes nothing.
use Prim.Native.Nat.{ℕ, ◌<◌}
use mathlib.Core.Bool.{true}
use mathlib.Core.Path.{◌≡◌, subst, ◌∙◌}
use borrow.Author.Tests.{ltb-true, lt-ltb}
use Rattle.rules.specs.Store.{op_exists, block_exists, region_exists}
use Rattle.rules.specs.Fragments.{exists}
use Rattle.rules.specs.declared.types.Sort.{Sort}
use Rattle.rules.specs.declared.types.Sort.TheVariants.{Op as op, Block as block, Region as region}
use Rattle.layout.specs.Columns.{Cols}
use Rattle.layout.specs.Reading.{op_count, block_count, region_count, store_of}
use Rattle.layout.proofs.Tabulate.{ops_length, blocks_length, regions_length, op_exists_lem, block_exists_lem, region_exists_lem}

-- how many there are of a sort
abbrev pub count_of : Cols → Sort → ℕ
count_of C op = op_count C
count_of C block = block_count C
count_of C region = region_count C

pub there : (C : Cols) (f : Sort) (n : ℕ) → exists (store_of C) f n ≡ true → n < count_of C f
unfolding exists op_exists block_exists region_exists
there C op n h = subst (λ (k : ℕ). n < k) (ops_length C) (ltb-true n _ h)
there C block n h = subst (λ (k : ℕ). n < k) (blocks_length C) (ltb-true n _ h)
there C region n h = subst (λ (k : ℕ). n < k) (regions_length C) (ltb-true n _ h)

-- and the other way round
pub is_there : (C : Cols) (f : Sort) (n : ℕ) → n < count_of C f → exists (store_of C) f n ≡ true
unfolding exists
is_there C op n l = op_exists_lem C n ∙ lt-ltb n _ l
is_there C block n l = block_exists_lem C n ∙ lt-ltb n _ l
is_there C region n l = region_exists_lem C n ∙ lt-ltb n _ l
