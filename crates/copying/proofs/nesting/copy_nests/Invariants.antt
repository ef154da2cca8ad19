-- The operations left to test decide. Assumes nothing.
use Rattle.copying.proofs.Nested.{NestsLeft}
use Rattle.copying.proofs.nesting.copy_nests.Given as goal

abbrev pub invariant-loop-step : goal.invariant-loop-step
invariant-loop-step l = NestsLeft l.original.store.now l.original.n l.fn.parent l.step-index
