-- `put_store_number` meets its contract: the tag, then the number in the store. Assumes nothing.
use native.Mathlib.Omega.{arith}
use mathlib.Core.Path.{refl}
use Rattle.rules.specs.Hash.{bytes, tag, leaf, name_bytes}
use Rattle.rules.specs.declared.types.Name.TheVariants.{StoreNumber as store_number}
use Rattle.keys.proofs.Putting.{put_then, put_short}
use Rattle.keys.proofs.numbers.put_store_number.Goals as goal

pub returns-then-key-lt5 : goal.returns-then-key-lt5
unfolding bytes tag leaf name_bytes
returns-then-key-lt5 c = put_short (name_bytes (store_number c.args.n)) (omega arith) refl (omega arith)

pub returns : goal.returns
unfolding name_bytes
returns c =
    put_then (tag 1) (leaf c.args.n) (omega arith) c.put_tag-at.ensures c.min-rest.ensures c.put_leaf.ensures c.saturating_add.ensures
