-- `map_values` meets its contract: what is left to enter, entered in the words as they are, is the whole entered in the words as they
-- were. Assumes nothing.
use Rattle.std.proofs.Common.{◌+◌, ◌-◌, sym, ◌∙◌, arith}
use Rattle.equivalence.specs.MappingWords.{mapping_of}
use Rattle.equivalence.proofs.Entering.{value_next, values_over}
use Rattle.equivalence.proofs.mapping.map_values.Goals as goal

pub loop-i-preserved : goal.loop-i-preserved
loop-i-preserved c =
    let a = c.args in
    let x = c.loop-i in
    x.invariant ∙ value_next x.mapping a.l a.r x.i a.count (omega arith) (omega arith)

pub returns : goal.returns
returns c =
    let a = c.args in
    let x = c.loop-i in
    sym (x.invariant ∙ values_over (mapping_of x.mapping) (a.l + x.i) (a.r + x.i) (a.count - x.i) (omega arith))
