-- `put_counted` meets its contract: a count is 8 bytes, whatever it is. Assumes nothing.
use native.Mathlib.Omega.{arith}
use mathlib.Core.Path.{refl}
use Rattle.rules.specs.Hash.{bytes, count}
use Rattle.keys.proofs.Putting.{put_short}
use Rattle.keys.proofs.numbers.put_counted.Goals as goal

pub returns-then-key-lt8 : goal.returns-then-key-lt8
unfolding bytes count
returns-then-key-lt8 g c = λ n h. put_short (count n) (omega arith) refl (omega arith)
