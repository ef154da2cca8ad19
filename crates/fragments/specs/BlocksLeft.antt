-- What is left of a list of blocks that is walked through.
use Rattle.std.specs.Prelude.{ℕ, List}
use Rattle.layout.specs.Children.{on_from}
use Rattle.layout.specs.Reading.{store_in}
use Rattle.fragments.specs.Order.{block_list}
use Rattle.fragments.specs.declared.order.BlocksIn.{BlocksIn}

abbrev pub blocks_left : BlocksIn → List ℕ
blocks_left walk = on_from walk.from (block_list (store_in walk.store.now) walk.blocks)
