-- `end_children` meets its contract: after each turn one child more is seen. Assumes nothing.
use native.Mathlib.Omega.{arith}
use mathlib.Core.Path.{◌∙◌}
use Rattle.layout.specs.Columns.{columns}
use Rattle.undo_log.proofs.Written.{ending_starts, ending_word, ending_turn}
use Rattle.undo_log.proofs.cutting.end_children.Goals as goal

pub loop-i-init : goal.loop-i-init
loop-i-init c = let a = c.args in ending_starts (columns a.store.now) a.family.owners a.family.ends a.family.offset a.count

pub end_child-requires : goal.end_child-requires
end_child-requires c =
    let l = c.loop-i in
    let word = c.number-word.ensures ∙ ending_word l.invariant c.requires.ends_value in
    record {
      ends_lt_column_count = c.requires.ends_lt_column_count;
      word_bound = omega (arith, word, c.requires.by_index l.i c.loop-i-test.true);
      n_bound = omega (arith, c.loop-i-test.true, c.requires.count_few);
    }

pub loop-i-preserved : goal.loop-i-preserved
loop-i-preserved c =
    let l = c.loop-i in
    ending_turn l.invariant _ c.loop-i-test.true (c.number-word.ensures ∙ ending_word l.invariant c.requires.ends_value) c.end_child.ensures
