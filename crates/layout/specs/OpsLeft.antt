-- What a walk through a block's operations has before it.
use Rattle.std.specs.Prelude.{ℕ, List}
use Rattle.rules.specs.Store.{ops_of}
use Rattle.layout.specs.Reading.{store_in}
use Rattle.layout.specs.Children.{on_from}
use Rattle.layout.specs.declared.ops_in.OpsIn.{OpsIn}

-- the operations that it hasn't come to
abbrev pub ops_left : OpsIn → List ℕ
ops_left s = on_from s.from (ops_of (store_in s.store.now) s.block)
