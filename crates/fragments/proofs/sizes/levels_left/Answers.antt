-- `levels_left` meets its contract: no operation has more than 32 regions around it. Assumes nothing.
use native.Mathlib.Omega.{arith}
use Rattle.std.specs.Prelude.{Some}
use mathlib.Core.Path.{sym, ap, ◌∙◌}
use Prim.Native.Nat.{ℕ, ◌-◌}
use Rattle.layout.specs.Columns.{columns}
use Rattle.layout.proofs.Laid.{laid_facts}
use Rattle.layout.proofs.Nesting.{depth_most, levels_at}
use Rattle.fragments.proofs.sizes.levels_left.Goals as goal

pub at-requires-clause-n_bound : goal.at-requires-clause-n_bound
at-requires-clause-n_bound c = omega (arith, (laid_facts (columns c.args.store.now) c.requires.sound.laid).counts.ops, c.requires.n_bound)

pub overflow_sub-result : goal.overflow_sub-result
overflow_sub-result c =
    let C = columns c.args.store.now in
    omega (arith, depth_most C (laid_facts C c.requires.sound.laid) c.requires.sound.ruled c.args.n c.requires.n_bound, c.at.ensures)

pub returns : goal.returns
returns c =
    let C = columns c.args.store.now in
    levels_at C (laid_facts C c.requires.sound.laid) c.requires.sound.ruled c.args.n c.requires.n_bound
    ∙ ap (λ (d : ℕ). Some (32 - d)) (sym c.at.ensures)
