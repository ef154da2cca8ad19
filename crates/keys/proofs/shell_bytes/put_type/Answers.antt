-- `put_type` meets its contract: a leaf is 4 bytes, whatever it holds. Assumes nothing.
use native.Mathlib.Omega.{arith}
use mathlib.Core.Path.{refl}
use Rattle.rules.specs.Hash.{bytes, leaf}
use Rattle.rules.specs.Types.{present}
use Rattle.fragments.specs.Index.{list_in}
use Rattle.keys.proofs.Putting.{put_short}
use Rattle.keys.proofs.shell_bytes.put_type.Goals as goal

pub returns-then-key-lt4 : goal.returns-then-key-lt4
unfolding bytes leaf
returns-then-key-lt4 c = put_short (leaf (present (list_in c.args.index.now) c.args.t)) (omega arith) refl (omega arith)
