-- `insert_at` meets its contract: the words move one place on, and the new one is written before them. Assumes nothing.
use Rattle.std.proofs.Common.{◌≡◌, ℕ, ◌+◌, ◌-◌, ◌∙◌, List, ap, drop, arith}
use lib.ListN.{set}
use lib.Seq.{paste}
use Rattle.layout.proofs.Copies.{inserted}
use Rattle.layout.proofs.lists.insert_at.Goals as goal

pub returns : goal.returns
returns c =
    let a = c.args in
    let long : a.from + a.count - a.from ≡ a.count = omega arith in
    ap (λ (xs : List ℕ). set xs a.from a.v)
    (c.copy_within.ensures.after ∙ ap (λ (n : ℕ). paste a.to.now (a.from + 1) (drop a.from a.to.now) n) long)
    ∙ inserted a.to.now a.from a.count a.v c.requires
