-- `define` meets its contract by its one test. Assumes nothing.
use Rattle.std.proofs.Common.{refl, eq-eqb, ne_eqb}
use Rattle.fragments.specs.Words.{define_at}
use Rattle.fragments.proofs.words.define.Goals as goal

pub returns-then-numbers-i-eq0 : goal.returns-then-numbers-i-eq0
unfolding define_at
returns-then-numbers-i-eq0 c = rw (eq-eqb _ _ c.if-numbers-i-eq0.true) refl

pub returns-else-numbers-i-eq0 : goal.returns-else-numbers-i-eq0
unfolding define_at
returns-else-numbers-i-eq0 c = rw (ne_eqb _ _ c.if-numbers-i-eq0.false) refl
