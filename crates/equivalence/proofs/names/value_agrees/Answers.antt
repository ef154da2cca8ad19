-- `value_agrees` meets its contract: the entry that is read is the value's, and the types are its column's. Assumes nothing.
use Rattle.std.proofs.Common.{◌≡◌, ◌<◌, ℕ, List, sym, ap, ap₂, subst, ◌∙◌, eqb, arith, eq-eqb, ne_eqb}
use Rattle.rules.specs.Store.{Store, type_of}
use Rattle.rules.specs.Types.{present, renamed}
use Rattle.rules.proofs.RenamedTypes.Renamed.{type_renamed}
use Rattle.layout.specs.Columns.{Cols, columns, at, value_type}
use Rattle.layout.specs.Reading.{value_count, store_of}
use Rattle.layout.proofs.Laid.{laid_facts}
use Rattle.layout.proofs.Tabulate.{values_length}
use Rattle.layout.proofs.Types.{type_read}
use Rattle.fragments.specs.Index.{list_in}
use Rattle.equivalence.specs.MappingWords.{same_operand}
use Rattle.equivalence.proofs.Chained.{and_goes, and_stops}
use Rattle.equivalence.proofs.Pairs.{value_image}
use Rattle.equivalence.proofs.names.value_agrees.Goals as goal

pub image_at-requires : goal.image_at-requires
image_at-requires c =
    let few = (laid_facts (columns c.args.store.now) c.requires.arranged.laid).counts.values in
    omega (arith, few, c.told-mapping)

pub at-requires-clause-n_bound : goal.at-requires-clause-n_bound
at-requires-clause-n_bound c = omega (arith, (laid_facts (columns c.args.store.now) c.requires.arranged.laid).counts.values)

pub at-requires-then-image_at-r-clause-n_bound : goal.at-requires-then-image_at-r-clause-n_bound
at-requires-then-image_at-r-clause-n_bound c = omega (arith, (laid_facts (columns c.args.store.now) c.requires.arranged.laid).counts.values)

pub returns-else-image_at-r : goal.returns-else-image_at-r
unfolding same_operand
returns-else-image_at-r c =
    let few = (laid_facts (columns c.args.store.now) c.requires.arranged.laid).counts.values in
    let e = c.image_at.ensures ∙ value_image c.args.mapping.now c.args.l c.told-mapping (omega (arith, few)) in
    and_stops _ _ (ne_eqb _ _ (λ q. c.if-image_at-r.false (e ∙ q))) (ne_eqb _ _ c.if-image_at-r.false)

pub returns-then-image_at-r : goal.returns-then-image_at-r
unfolding same_operand
returns-then-image_at-r c =
    let cols : Cols = columns c.args.store.now in
    let few = (laid_facts cols c.requires.arranged.laid).counts.values in
    let rows : List ℕ = list_in c.args.index.now in
    let read : Store = renamed rows (store_of cols) in
    let now_read : (v w : ℕ) → v < value_count cols → w ≡ at cols value_type v → present rows w ≡ type_of read v =
    λ v. λ w. λ l. λ e. ap (present rows) (e ∙ sym (type_read cols v l)) ∙ sym (type_renamed rows (store_of cols) v (subst (λ (k : ℕ). v < k) (sym (values_length cols)) l)) in
    let a = c.args in
    let e = c.image_at.ensures ∙ value_image a.mapping.now a.l c.told-mapping (omega (arith, few)) in
    and_goes _ _ (eq-eqb _ _ (sym e ∙ c.if-image_at-r.true))
    (c.same_type.ensures ∙ ap₂ eqb (now_read a.l _ c.requires.l_bound c.at.ensures) (now_read a.r _ c.requires.r_bound c.at-then-image_at-r.ensures))
