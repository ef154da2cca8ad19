-- `owns` meets its contract: the range is tested before it is read. Assumes nothing.
use native.Mathlib.Omega.{arith}
use mathlib.Core.Path.{sym, ◌∙◌}
use Rattle.layout.proofs.Laid.{ranged_facts}
use Rattle.layout.proofs.rows.owns.Goals as goal

pub all_owned-requires-clause-a_le_e : goal.all_owned-requires-clause-a_le_e
all_owned-requires-clause-a_le_e c = omega (arith, (ranged_facts c.args.a c.args.e c.args.total (sym c.ranged.ensures ∙ c.if-ranged.true)).rises)

pub all_owned-requires-clause-e_bound : goal.all_owned-requires-clause-e_bound
all_owned-requires-clause-e_bound c = omega (arith, (ranged_facts c.args.a c.args.e c.args.total (sym c.ranged.ensures ∙ c.if-ranged.true)).fits)
