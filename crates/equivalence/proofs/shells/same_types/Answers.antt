-- `same_types` meets its contract: lists of one length are compared pair by pair. Assumes nothing.
use Prim.Native.Nat.{ℕ}
use mathlib.Core.Path.{sym, ◌∙◌}
use borrow.Author.Tests.{ne_eqb, tests}
use lib.Dec.{eqb}
use Rattle.std.proofs.Common.{rules}
use Rattle.std.proofs.lemmas.Iterator.{YieldsList-from_slice, YieldsList-from_zip}
use Rattle.std.proofs.lemmas.Iterator.Search.{all_from_yields_List}
use Rattle.equivalence.proofs.Pairs.{same_zipped, same_longer}
use Rattle.equivalence.proofs.shells.same_types.Goals as goal

pub returns-then-l-r : goal.returns-then-l-r
returns-then-l-r c =
    all_from_yields_List (λ (p : ℕ × ℕ). eqb p.0 p.1) c.all.new.self _ _ c.all.ensures.ran
    (YieldsList-from_zip (YieldsList-from_slice c.args.l.now cc) (YieldsList-from_slice c.args.r.now cc)) (λ x b q k. search (rules, tests))
    ∙ same_zipped eqb c.args.l.now c.args.r.now c.if-l-r.true

pub returns-else-l-r : goal.returns-else-l-r
returns-else-l-r c = ne_eqb _ _ c.if-l-r.false ∙ sym (same_longer eqb c.args.l.now c.args.r.now c.if-l-r.false)
