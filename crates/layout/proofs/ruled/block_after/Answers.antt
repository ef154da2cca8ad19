-- `block_after` meets its contract: a parent's word is its number and one, or 0 for none. Assumes nothing.
use Prim.Native.Nat.{ℕ}
use native.Mathlib.Omega.{arith}
use mathlib.Core.Path.{ap, ◌∙◌}
use lib.Dec.{leb}
use Rattle.layout.specs.Columns.{columns, at, op_parent, block_region}
use Rattle.layout.proofs.Laid.{laid_facts}
use Rattle.layout.proofs.Slots.{after_word}
use Rattle.layout.proofs.ruled.block_after.Goals as goal

pub number-requires : goal.number-requires
number-requires c =
    let C = columns c.args.store.now in
    let h = laid_facts C c.requires.arranged.laid in
    let o = (h.region (at C block_region c.args.m) (h.block c.args.m c.requires.m_bound).region_in).op_in in
    record {
      column_lt_column_count = omega arith;
      n_bound = omega (arith, h.counts.ops, c.op_around.ensures);
    }

pub returns : goal.returns
returns c =
    let C = columns c.args.store.now in
    ap (λ (w : ℕ). leb w c.args.m) (c.number.ensures ∙ ap (at C op_parent) c.op_around.ensures) ∙ after_word c.args.m _
