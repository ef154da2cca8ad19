-- `put_slot` meets its contract: the three words of the slot are the attribute's, and the second has its kind and its flag. Assumes nothing.
use native.Mathlib.Omega.{arith}
use mathlib.Core.List.{◌++◌}
use mathlib.Core.Path.{refl, ap, ◌∙◌}
use Rattle.rules.specs.Hash.{bytes, leaf, flag, attribute_bytes}
use Rattle.layout.specs.Columns.{columns}
use Rattle.layout.specs.Reading.{kind_from, inherent_from, attribute_at}
use Rattle.keys.proofs.Putting.{put_short, puts_first, puts_rest, puts_then, put_all, put_as}
use Rattle.keys.proofs.Shelling.{attribute_bytes_lem}
use Rattle.keys.proofs.attributes.put_slot.Goals as goal

pub returns-then-key-lt13 : goal.returns-then-key-lt13
unfolding bytes leaf flag attribute_bytes
returns-then-key-lt13 c = put_short (attribute_bytes (attribute_at (columns c.args.store.now) c.args.slot)) (omega arith) refl (omega arith)

pub returns : goal.returns
unfolding attribute_at
returns c =
    let a = c.args in
    let word = c.at-kind.ensures in
    put_as
    (attribute_bytes_lem (attribute_at (columns a.store.now) a.slot)
    c.at.ensures
    (c.kind_from.ensures ∙ ap kind_from word)
    c.at-2.ensures
    (c.inherent_from.ensures ∙ ap inherent_from word))
    (put_all (omega arith)
    (puts_then (leaf c.at.result ++ leaf c.kind_from.result ++ leaf c.at-2.result) (flag c.inherent_from.result)
    (puts_then (leaf c.at.result ++ leaf c.kind_from.result) (leaf c.at-2.result)
    (puts_then (leaf c.at.result) (leaf c.kind_from.result) (puts_first c.put_leaf-second.ensures)
    (puts_rest c.min-rest.ensures c.put_leaf.ensures c.saturating_add-third.ensures))
    (puts_rest c.min-rest-2.ensures c.put_leaf-2.ensures c.saturating_add-fourth.ensures))
    (puts_rest c.min-rest-3.ensures c.put_flag.ensures c.saturating_add.ensures)))
