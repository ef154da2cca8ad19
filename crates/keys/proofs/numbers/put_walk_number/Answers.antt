-- `put_walk_number` meets its contract: the tag, then the walk number. Assumes nothing.
use native.Mathlib.Omega.{arith}
use mathlib.Core.Path.{refl}
use Rattle.rules.specs.Hash.{bytes, tag, count, name_bytes}
use Rattle.rules.specs.declared.types.Name.TheVariants.{WalkNumber as walk_number}
use Rattle.keys.proofs.Putting.{put_then, put_short}
use Rattle.keys.proofs.numbers.put_walk_number.Goals as goal

pub returns-then-key-lt9 : goal.returns-then-key-lt9
unfolding bytes tag count name_bytes
returns-then-key-lt9 c = put_short (name_bytes (walk_number c.args.n)) (omega arith) refl (omega arith)

pub returns : goal.returns
unfolding name_bytes
returns c =
    put_then (tag 0) (count c.args.n) (omega arith) c.put_tag-at.ensures c.min-rest.ensures c.put_count.ensures c.saturating_add.ensures
