-- `attribute_eq` meets its contract, test by test. Assumes nothing.
use Rattle.std.proofs.Common.{◌≡◌, Bool, ◌&&◌, eqb, sym, ◌∙◌, eq-eqb, ne_eqb}
use Rattle.layout.specs.Columns.{columns, at, slot_key, slot_kind, slot_content}
use Rattle.equivalence.proofs.Chained.{and_goes, and_stops, three_tests}
use Rattle.equivalence.proofs.SlotWords.{slots_same}
use Rattle.equivalence.proofs.attributes.attribute_eq.Goals as goal
use Rattle.equivalence.proofs.attributes.attribute_eq.Goals.{then-at, else-at}

pub returns-then-at-2 : goal.returns-then-at-2
returns-then-at-2 c =
    let C = columns c.args.store.now in
    let keys : Bool = eqb (at C slot_key c.args.l) (at C slot_key c.args.r) in
    let kinds : Bool = eqb (at C slot_kind c.args.l) (at C slot_kind c.args.r) in
    let key : eqb c.at.result c.at-2.result ≡ keys = cc in
    let first : c.if-at.value ≡ keys && kinds =
    elim c.if-at.branch [
      | then-at w ↦ and_goes keys kinds (sym key ∙ eq-eqb _ _ w.if-at.true) (cc)
      | else-at w ↦ and_stops keys kinds (sym key ∙ ne_eqb _ _ w.if-at.false) (w.value-is ∙ ne_eqb _ _ w.if-at.false)
    ] in
    and_goes (keys && kinds) (eqb (at C slot_content c.args.l) (at C slot_content c.args.r)) (sym first ∙ c.if-at-2.true) (cc)
    ∙ sym (three_tests keys kinds _) ∙ slots_same C c.args.l c.args.r

pub returns-else-at-2 : goal.returns-else-at-2
returns-else-at-2 c =
    let C = columns c.args.store.now in
    let keys : Bool = eqb (at C slot_key c.args.l) (at C slot_key c.args.r) in
    let kinds : Bool = eqb (at C slot_kind c.args.l) (at C slot_kind c.args.r) in
    let key : eqb c.at.result c.at-2.result ≡ keys = cc in
    let first : c.if-at.value ≡ keys && kinds =
    elim c.if-at.branch [
      | then-at w ↦ and_goes keys kinds (sym key ∙ eq-eqb _ _ w.if-at.true) cc
      | else-at w ↦ and_stops keys kinds (sym key ∙ ne_eqb _ _ w.if-at.false) (w.value-is ∙ ne_eqb _ _ w.if-at.false)
    ] in
    and_stops (keys && kinds) (eqb (at C slot_content c.args.l) (at C slot_content c.args.r)) (sym first ∙ c.if-at-2.false) c.if-at-2.false
    ∙ sym (three_tests keys kinds _) ∙ slots_same C c.args.l c.args.r
