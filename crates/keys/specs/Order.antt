-- What the comparison of keys answers.
use Rattle.std.specs.Prelude.{ℤ, pos, negsuc}
use Rattle.std.specs.declared.cmp.Ordering.{Ordering}
use Rattle.std.specs.declared.cmp.Ordering.TheVariants.{Less, Equal, Greater}

-- the number of each case: -1, 0 or 1
unfoldable pub number_of_ordering : Ordering → ℤ
number_of_ordering Less = negsuc 0
number_of_ordering Equal = pos 0
number_of_ordering Greater = pos 1
