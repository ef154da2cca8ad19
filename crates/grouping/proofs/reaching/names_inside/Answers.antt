-- `names_inside` meets its contract: operands and successors are tested one by one, up to the first that is inside. Assumes nothing.
use Rattle.std.proofs.Common.{rules, ◌<◌, ℕ, sym, subst, ◌∙◌}
use Rattle.std.proofs.lemmas.Iterator.{YieldsList-from_slice}
use Rattle.std.proofs.lemmas.Iterator.Adapters.{serves_from_places}
use Rattle.std.proofs.lemmas.Iterator.Search.{any_from_yields_List}
use Rattle.rules.specs.Fragments.{defines_values, defines_blocks}
use Rattle.rules.specs.Copying.{has_place}
use Rattle.layout.specs.Columns.{columns}
use Rattle.layout.specs.Reading.{value_count, block_count, store_in}
use Rattle.fragments.proofs.Named.{operand_there, successor_there}
use Rattle.grouping.proofs.ByParts.{operand_inside, no_operand_inside}
use Rattle.grouping.proofs.reaching.names_inside.Goals as goal

pub any-requires-clause-callable : goal.any-requires-clause-callable
any-requires-clause-callable c =
    let a = c.args.other.now in
    let xs = c.operands_of-operands.result.now in
    serves_from_places (YieldsList-from_slice xs (cc)) (λ x q k. search rules)
    (λ x k l e.
    let there : x.now < value_count (columns a.store.now) = subst (λ (v : ℕ). v < value_count (columns a.store.now)) (sym e) (operand_there a.store.now a.sound c.args.m c.requires c.operands_of-operands.ensures k _ l) in
    search rules)

pub any-requires-else-any-clause-callable : goal.any-requires-else-any-clause-callable
any-requires-else-any-clause-callable c =
    let a = c.args.other.now in
    let xs = c.successors_of-successors.result.now in
    serves_from_places (YieldsList-from_slice xs cc) (λ x q k. search rules)
    (λ x k l e.
    let there : x.now < block_count (columns a.store.now) = subst (λ (v : ℕ). v < block_count (columns a.store.now)) (sym e) (successor_there a.store.now a.sound c.args.m c.requires c.successors_of-successors.ensures k _ l) in
    search rules)

pub returns-then-any : goal.returns-then-any
returns-then-any c =
    let a = c.args.other.now in
    let xs = c.operands_of-operands.result.now in
    let told =
    any_from_yields_List (has_place (defines_values (store_in a.store.now) a.sort a.n)) c.any.new.self _ _ c.any.ensures.ran
    (YieldsList-from_slice xs (cc)) (λ x b q k. search rules) in
    told ∙ operand_inside (store_in a.store.now) a.sort a.n c.args.m c.operands_of-operands.ensures (sym told ∙ c.if-any.true)

pub returns-else-any : goal.returns-else-any
returns-else-any c =
    let a = c.args.other.now in
    let xs = c.operands_of-operands.result.now in
    let ys = c.successors_of-successors.result.now in
    let first =
    any_from_yields_List (has_place (defines_values (store_in a.store.now) a.sort a.n)) c.any.new.self _ _ c.any.ensures.ran
    (YieldsList-from_slice xs cc) (λ x b q k. search rules) in
    any_from_yields_List (has_place (defines_blocks (store_in a.store.now) a.sort a.n)) c.any-else-any.new.self _ _ c.any-else-any.ensures.ran
    (YieldsList-from_slice ys (cc)) (λ x b q k. search rules)
    ∙ no_operand_inside (store_in a.store.now) a.sort a.n c.args.m c.operands_of-operands.ensures c.successors_of-successors.ensures (sym first ∙ c.if-any.false)
