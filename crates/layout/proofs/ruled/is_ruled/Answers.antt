-- `is_ruled` meets its contract: a buffer that is laid out keeps the rules row by row exactly where its store is sound. Assumes nothing.
use mathlib.Core.Bool.{Bool, ◌&&◌}
use mathlib.Core.Path.{sym, ap, ◌∙◌}
use Rattle.rules.specs.Lists.{all_below}
use Rattle.layout.specs.Columns.{columns}
use Rattle.layout.specs.Reading.{block_count}
use Rattle.layout.specs.Soundness.{block_rules, rules_hold}
use Rattle.layout.proofs.Buffer.{columns_shaped}
use Rattle.layout.proofs.Rules.{rules_sound}
use Rattle.layout.proofs.ruled.is_ruled.Goals as goal

pub returns-then-ops_hold : goal.returns-then-ops_hold
unfolding rules_hold
returns-then-ops_hold c =
    let b = c.args.store.now in
    let C = columns b in
    c.blocks_hold.ensures
    ∙ sym (ap (λ (t : Bool). t && all_below (block_count C) (block_rules C)) (sym c.ops_hold.ensures ∙ c.if-ops_hold.true))
    ∙ rules_sound C (columns_shaped b c.requires.sized) c.requires.laid

pub returns-else-ops_hold : goal.returns-else-ops_hold
unfolding rules_hold
returns-else-ops_hold c =
    let b = c.args.store.now in
    let C = columns b in
    c.if-ops_hold.false
    ∙ sym (ap (λ (t : Bool). t && all_below (block_count C) (block_rules C)) (sym c.ops_hold.ensures ∙ c.if-ops_hold.false))
    ∙ rules_sound C (columns_shaped b c.requires.sized) c.requires.laid
