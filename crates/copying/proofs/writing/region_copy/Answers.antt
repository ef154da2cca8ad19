-- `region_copy` meets its contract: both operations' regions are numbered one after the other from the first on. Assumes nothing.
use Rattle.std.proofs.Common.{ℕ, ◌-◌, ◌+◌, ◌<◌, ap, ap₂, sym, ◌∙◌, arith}
use Rattle.rules.specs.Mapping.{image}
use Rattle.layout.specs.Columns.{columns, at, op_region_first}
use Rattle.layout.specs.Reading.{op_count}
use Rattle.layout.proofs.Laid.{laid_facts}
use Rattle.equivalence.specs.MappingWords.{mapping_of}
use Rattle.copying.proofs.Named.{op_image}
use Rattle.copying.proofs.Regions.{around_read, around_low, behind_first_lem, first_low, region_by_lem}
use Rattle.copying.proofs.writing.region_copy.Goals as goal

pub at-m-requires-clause-n_bound : goal.at-m-requires-clause-n_bound
at-m-requires-clause-n_bound c =
    omega (arith, (laid_facts (columns c.args.store.now) c.requires.arranged.laid).counts.regions, c.requires.r_bound)

pub image_at-copy-requires : goal.image_at-copy-requires
image_at-copy-requires c =
    let h = laid_facts (columns c.args.store.now) c.requires.arranged.laid in
    omega (arith, around_low (columns c.args.store.now) h (mapping_of c.args.mapping.now) c.args.r c.requires.r_bound, h.counts.ops, c.at-m.ensures, c.told-mapping)

pub at-requires-clause-n_bound : goal.at-requires-clause-n_bound
at-requires-clause-n_bound c =
    let h = laid_facts (columns c.args.store.now) c.requires.arranged.laid in
    let M = mapping_of c.args.mapping.now in
    let low : c.at-m.result < 512 = omega (arith, around_low (columns c.args.store.now) h M c.args.r c.requires.r_bound, h.counts.ops, c.at-m.ensures) in
    let e = c.image_at-copy.ensures ∙ op_image c.args.mapping.now c.told-mapping c.at-m.result low
    ∙ ap (image M.ops) (c.at-m.ensures ∙ sym (around_read (columns c.args.store.now) h M c.args.r c.requires.r_bound)) in
    omega (arith, e, c.requires.copy_bound, h.counts.ops)

pub at-requires-2-clause-n_bound : goal.at-requires-2-clause-n_bound
at-requires-2-clause-n_bound c =
    let h = laid_facts (columns c.args.store.now) c.requires.arranged.laid in
    omega (arith, around_low (columns c.args.store.now) h (mapping_of c.args.mapping.now) c.args.r c.requires.r_bound, h.counts.ops, c.at-m.ensures)

pub overflow_sub-result : goal.overflow_sub-result
overflow_sub-result c =
    let h = laid_facts (columns c.args.store.now) c.requires.arranged.laid in
    let e = c.at-2.ensures ∙ ap (at (columns c.args.store.now) op_region_first) c.at-m.ensures in
    omega (arith, e, behind_first_lem (columns c.args.store.now) h (mapping_of c.args.mapping.now) c.args.r c.requires.r_bound)

pub overflow_add-result : goal.overflow_add-result
overflow_add-result c =
    let h = laid_facts (columns c.args.store.now) c.requires.arranged.laid in
    let M = mapping_of c.args.mapping.now in
    let low : c.at-m.result < 512 = omega (arith, around_low (columns c.args.store.now) h M c.args.r c.requires.r_bound, h.counts.ops, c.at-m.ensures) in
    let e = c.image_at-copy.ensures ∙ op_image c.args.mapping.now c.told-mapping c.at-m.result low
    ∙ ap (image M.ops) (c.at-m.ensures ∙ sym (around_read (columns c.args.store.now) h M c.args.r c.requires.r_bound)) in
    let k : c.image_at-copy.result < op_count (columns c.args.store.now) = omega (arith, e, c.requires.copy_bound) in
    record {
      fits =
          omega (arith, first_low (columns c.args.store.now) h M c.args.r c.requires.r_bound c.image_at-copy.result k, c.at.ensures, c.requires.r_bound, h.counts.regions);
    }

pub returns : goal.returns
returns c =
    let h = laid_facts (columns c.args.store.now) c.requires.arranged.laid in
    let M = mapping_of c.args.mapping.now in
    let low : c.at-m.result < 512 = omega (arith, around_low (columns c.args.store.now) h M c.args.r c.requires.r_bound, h.counts.ops, c.at-m.ensures) in
    let e = c.image_at-copy.ensures ∙ op_image c.args.mapping.now c.told-mapping c.at-m.result low ∙ ap (image M.ops) c.at-m.ensures in
    ap₂ (λ (x y : ℕ). x + (c.args.r - y))
    (c.at.ensures ∙ ap (at (columns c.args.store.now) op_region_first) e)
    (c.at-2.ensures ∙ ap (at (columns c.args.store.now) op_region_first) c.at-m.ensures)
    ∙ region_by_lem (columns c.args.store.now) h M c.args.r c.requires.r_bound c.requires.copy_bound c.requires.some
