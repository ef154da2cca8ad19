-- `types_eq` meets its contract: lists of one length are compared pair by pair. Assumes nothing.
use Prim.Native.Nat.{ℕ}
use mathlib.Core.Path.{sym, ◌∙◌}
use borrow.Author.Tests.{ne_eqb, tests}
use lib.Dec.{eqb}
use Rattle.std.proofs.Common.{rules}
use Rattle.std.proofs.lemmas.Iterator.{YieldsList-from_slice, YieldsList-from_zip}
use Rattle.std.proofs.lemmas.Iterator.Search.{all_from_yields_List}
use Rattle.rules.specs.Types.{present}
use Rattle.fragments.specs.Index.{list_in}
use Rattle.fragments.proofs.Mapped.{mapped_length, mapped_pairs}
use Rattle.fragments.proofs.lookup.types_eq.Goals as goal

pub returns-then-l-r : goal.returns-then-l-r
returns-then-l-r c =
    let f = present (list_in c.args.index.now) in
    all_from_yields_List (λ (p : ℕ × ℕ). eqb (f p.0) (f p.1)) c.all.new.self _ _ c.all.ensures.ran
    (YieldsList-from_zip (YieldsList-from_slice c.args.l.now cc) (YieldsList-from_slice c.args.r.now cc))
    (λ x b q k. search (rules, tests))
    ∙ mapped_pairs f c.args.l.now c.args.r.now c.if-l-r.true

pub returns-else-l-r : goal.returns-else-l-r
returns-else-l-r c = ne_eqb _ _ c.if-l-r.false ∙ sym (mapped_length (present (list_in c.args.index.now)) c.args.l.now c.args.r.now c.if-l-r.false)
