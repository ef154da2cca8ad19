-- `successors_agree` meets its contract: each pair of the two lists is tested. Assumes nothing.
use Rattle.std.proofs.Common.{rules, ◌≡◌, ◌<◌, ℕ, sym, subst, true, ltb, ◌∙◌, ltb-true}
use Rattle.std.proofs.lemmas.Iterator.{YieldsList-from_slice, YieldsList-from_zip}
use Rattle.std.proofs.lemmas.Iterator.Adapters.{serves_from_places}
use Rattle.std.proofs.lemmas.Iterator.Search.{all_from_yields_List}
use Rattle.equivalence.specs.MappingWords.{mapping_of, same_successor}
use Rattle.equivalence.proofs.Pairs.{pairs_zipped, left_passes}
use Rattle.equivalence.proofs.names.successors_agree.Goals as goal

pub all-requires-clause-callable : goal.all-requires-clause-callable
all-requires-clause-callable c =
    let xs = c.args.l.now in
    let ys = c.args.r.now in
    serves_from_places (YieldsList-from_zip (YieldsList-from_slice xs (cc)) (YieldsList-from_slice ys (cc))) (λ x q k. search rules)
    (λ x k l e. let small : x.0.now < 256 = ltb-true _ _ (subst (λ (z : ℕ × ℕ). ltb z.0 256 ≡ true) (sym e) (left_passes _ xs ys c.requires k _ l)) in search rules)

pub returns : goal.returns
returns c =
    let xs = c.args.l.now in
    let ys = c.args.r.now in
    let agree = same_successor (mapping_of c.args.mapping.now) in
    all_from_yields_List (λ (z : ℕ × ℕ). agree z.0 z.1) c.all.new.self _ _ c.all.ensures.ran
    (YieldsList-from_zip (YieldsList-from_slice xs (cc)) (YieldsList-from_slice ys (cc))) (λ x b q k. search rules)
    ∙ pairs_zipped agree xs ys
