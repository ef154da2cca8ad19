-- `operands_agree` meets its contract: each pair of the two lists is tested. Assumes nothing.
use Rattle.std.proofs.Common.{rules, ◌≡◌, ◌<◌, ℕ, sym, subst, true, ltb, ◌∙◌, ltb-true}
use Rattle.std.proofs.lemmas.Iterator.{YieldsList-from_slice, YieldsList-from_zip}
use Rattle.std.proofs.lemmas.Iterator.Adapters.{serves_from_places}
use Rattle.std.proofs.lemmas.Iterator.Search.{all_from_yields_List}
use Rattle.rules.specs.Types.{renamed}
use Rattle.layout.specs.Columns.{columns}
use Rattle.layout.specs.Reading.{value_count, store_in}
use Rattle.fragments.specs.Index.{list_in}
use Rattle.equivalence.specs.MappingWords.{mapping_of, same_operand}
use Rattle.equivalence.proofs.Pairs.{pairs_zipped, left_passes, right_passes}
use Rattle.equivalence.proofs.names.operands_agree.Goals as goal

pub all-requires-clause-callable : goal.all-requires-clause-callable
all-requires-clause-callable c =
    let xs = c.args.l.now in
    let ys = c.args.r.now in
    let n : ℕ = value_count (columns c.args.store.now) in
    serves_from_places (YieldsList-from_zip (YieldsList-from_slice xs (cc)) (YieldsList-from_slice ys (cc))) (λ x q k. search rules)
    (λ x k l e.
    let left : x.0.now < n = ltb-true _ _ (subst (λ (z : ℕ × ℕ). ltb z.0 n ≡ true) (sym e) (left_passes _ xs ys c.requires.l_value k _ l)) in
    let right : x.1.now < n = ltb-true _ _ (subst (λ (z : ℕ × ℕ). ltb z.1 n ≡ true) (sym e) (right_passes _ xs ys c.requires.r_value k _ l)) in
    search rules)

pub returns : goal.returns
returns c =
    let xs = c.args.l.now in
    let ys = c.args.r.now in
    let agree = same_operand (renamed (list_in c.args.index.now) (store_in c.args.store.now)) (mapping_of c.args.mapping.now) in
    all_from_yields_List (λ (z : ℕ × ℕ). agree z.0 z.1) c.all.new.self _ _ c.all.ensures.ran
    (YieldsList-from_zip (YieldsList-from_slice xs (cc)) (YieldsList-from_slice ys (cc))) (λ x b q k. search rules)
    ∙ pairs_zipped agree xs ys
