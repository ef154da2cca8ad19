-- `parent_copy` meets its contract: the word is 0 for no parent, else the block's number and one. Assumes nothing.
use Rattle.std.proofs.Common.{◌≡◌, ℕ, suc, ◌<◌, ◌≤◌, ap, ◌∙◌, arith}
use Rattle.std.specs.Prelude.{Option, Some}
use Rattle.layout.specs.Columns.{columns, at, op_parent}
use Rattle.layout.specs.Reading.{store_in}
use Rattle.layout.proofs.Laid.{laid_facts}
use Rattle.equivalence.specs.MappingWords.{mapping_of}
use Rattle.copying.proofs.Named.{block_image, parent_root, parent_none, parent_some, parent_here}
use Rattle.copying.proofs.writing.parent_copy.Goals as goal
use Rattle.copying.proofs.writing.parent_copy.Goals.{In_ok-b}

pub returns-then-m-n : goal.returns-then-m-n
returns-then-m-n c =
    parent_root (store_in c.args.store.now) (mapping_of c.args.mapping.now) c.args.n c.args.parent c.args.m c.if-m-n.true

pub at-requires-clause-n_bound : goal.at-requires-clause-n_bound
at-requires-clause-n_bound c =
    omega (arith, (laid_facts (columns c.args.store.now) c.requires.arranged.laid).counts.ops, c.requires.m_bound)

pub returns-in_err-b : goal.returns-in_err-b
returns-in_err-b c =
    let no : 1 ≤ c.at.result → ⊥ = c.in_err-b.ensures in
    c.from_residual.ensures
    ∙ parent_none (columns c.args.store.now) (mapping_of c.args.mapping.now) c.args.n c.args.parent c.args.m c.requires.m_bound
    c.if-m-n.false (omega (arith, c.at.ensures, no))

-- the block is there
few : (c : In_ok-b) → c.in_ok-b.b < 256
few c =
    let h = laid_facts (columns c.args.store.now) c.requires.arranged.laid in
    let e : at (columns c.args.store.now) op_parent c.args.m ≡ suc c.in_ok-b.b = omega (arith, c.at.ensures, c.in_ok-b.ensures) in
    let b = parent_here (columns c.args.store.now) (mapping_of c.args.mapping.now) c.args.n c.args.parent c.args.m c.requires.m_bound h c.in_ok-b.b e in
    omega (arith, b, h.counts.blocks)

pub image_at-requires : goal.image_at-requires
image_at-requires c = omega (arith, few ((goal.at.image_at-requires c).In_ok-b), c.told-mapping)

pub returns : goal.returns
returns c =
    let e : at (columns c.args.store.now) op_parent c.args.m ≡ suc c.in_ok-b.b = omega (arith, c.at.ensures, c.in_ok-b.ensures) in
    ap {B = Option ℕ} Some (c.image_at.ensures ∙ block_image c.args.mapping.now c.told-mapping c.in_ok-b.b (few ((goal.at.returns c).In_ok-b)))
    ∙ parent_some (columns c.args.store.now) (mapping_of c.args.mapping.now) c.args.n c.args.parent c.args.m c.requires.m_bound c.if-m-n.false c.in_ok-b.b e
