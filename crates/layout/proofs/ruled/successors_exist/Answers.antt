-- `successors_exist` meets its contract: the successors are a slice of their column. Assumes nothing.
use Prim.Native.Nat.{ℕ}
use mathlib.Core.Path.{◌≡◌, ap, ap₂, ◌∙◌}
use lib.Dec.{ltb}
use Rattle.std.specs.List.{list_all}
use Rattle.rules.specs.Store.{Op}
use Rattle.layout.specs.Columns.{columns, at}
use Rattle.layout.specs.Reading.{block_count}
use Rattle.layout.proofs.Tabulate.{op_read}
use Rattle.layout.proofs.ruled.successors_exist.Goals as goal

pub returns : goal.returns
unfolding block_count
returns c =
    let C = columns c.args.store.now in
    let count : c.at-blocks.result ≡ at C 0 1 = c.at-blocks.ensures in
    c.all_below.ensures
    ∙ ap₂ (λ (n : ℕ) (l : _). list_all (λ (x : ℕ). ltb x n) l) count (c.successors_of.ensures ∙ ap (λ (o : Op). o.successors) (op_read C c.args.n c.requires.n_bound))
