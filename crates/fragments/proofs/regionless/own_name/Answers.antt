-- `own_name` meets its contract by its one test. Assumes nothing.
use Rattle.std.proofs.Common.{sym, arith, rules, tests}
use Rattle.fragments.proofs.Lone.{own_outside, own_inside}
use Rattle.fragments.proofs.regionless.own_name.Goals as goal

pub returns-then-contains : goal.returns-then-contains
returns-then-contains c = sym (own_inside c.args.first c.args.end c.args.n (grind (arith, rules, tests)) (grind (arith, rules, tests)))

pub returns-else-contains : goal.returns-else-contains
returns-else-contains c = sym (own_outside c.args.first c.args.end c.args.n (λ l h. grind (arith, rules, tests)))
