-- `map_values` meets its contract: what is left to enter, entered in the words as they are, is the whole entered in the words as they
-- were. Assumes nothing.
use Rattle.std.proofs.Common.{◌≡◌, ◌+◌, ◌-◌}
use Rattle.layout.specs.Reading.{consecutive}
use Rattle.equivalence.specs.MappingWords.{mapping_of, values_mapped}
use Rattle.equivalence.proofs.mapping.map_values.Given as goal

abbrev pub invariant-loop-i : goal.invariant-loop-i
invariant-loop-i l =
    values_mapped (mapping_of l.initial.mapping) (consecutive l.l l.count) (consecutive l.r l.count) ≡ values_mapped (mapping_of l.mapping) (consecutive (l.l + l.i) (l.count - l.i)) (consecutive (l.r + l.i) (l.count - l.i))
