-- `names_in_time` meets its contract: a scan of the operands and one of the successors, each of which ends at the first that lies inside and has no
-- number yet. Assumes nothing.
use Rattle.rules.specs.Fragments.{defines_values, defines_blocks}
use Rattle.rules.specs.declared.types.Sort.TheVariants.{Op as op}
use Rattle.rules.specs.Hash.{Numbering}
use Rattle.layout.specs.Reading.{store_in}
use Rattle.fragments.specs.Words.{Stands}
use Rattle.copying.proofs.InTime.{NamesPassed}
use Rattle.copying.proofs.early.names_in_time.Given as goal

abbrev pub invariant-loop-v : goal.invariant-loop-v
invariant-loop-v l =
    (N : Numbering) → Stands (store_in l.original.store.now) N l.numbers → NamesPassed (defines_values (store_in l.original.store.now) op l.original.n) N.values l.v-items l.v-index

abbrev pub invariant-loop-b : goal.invariant-loop-b
invariant-loop-b l =
    (N : Numbering) → Stands (store_in l.original.store.now) N l.numbers → NamesPassed (defines_blocks (store_in l.original.store.now) op l.original.n) N.blocks l.b-items l.b-index
