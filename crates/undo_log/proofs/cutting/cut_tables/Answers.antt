-- `cut_tables` meets its contract: the counts are those of the row, none above what there was, so what is left names owners within bounds. Assumes nothing.
use native.Mathlib.Omega.{arith}
use mathlib.Core.Path.{ap, subst, sym, ◌∙◌}
use Rattle.layout.specs.Columns.{columns}
use Rattle.layout.specs.Reading.{store_of}
use Rattle.layout.proofs.Laid.{laid_facts}
use Rattle.layout.proofs.Buffer.{columns_shaped}
use Rattle.undo_log.specs.CutWrites.{ops_cut, blocks_cut, tables_cut}
use Rattle.undo_log.specs.CutBack.{MarksKept}
use Rattle.undo_log.proofs.CountsTaken.{ops_fit, blocks_fit}
use Rattle.undo_log.proofs.CutColumns.{cut_marks}
use Rattle.undo_log.proofs.CutTables.{tables_read, tables_sound}
use Rattle.undo_log.proofs.cutting.cut_tables.Goals as goal

pub cut_children-requires : goal.cut_children-requires
cut_children-requires c =
    let C = columns c.args.store.now in
    ops_fit C c.args.row (columns_shaped _ c.requires.sound.sized) (laid_facts C c.requires.sound.laid) c.requires.store_value c.take_counts.ensures

pub cut_children-requires-2 : goal.cut_children-requires-2
unfolding ops_cut
cut_children-requires-2 c =
    let C = columns c.args.store.now in
    blocks_fit C c.args.row (columns_shaped _ c.requires.sound.sized) (laid_facts C c.requires.sound.laid) c.requires.store_value (c.cut_children.ensures ∙ ap ops_cut c.take_counts.ensures)

pub returns : goal.returns
unfolding tables_cut ops_cut blocks_cut
returns c =
    let row = c.args.row in
    let C = columns c.args.store.now in
    let long = c.requires.sound.sized in
    let shaped = columns_shaped c.args.store.now long in
    let laid = laid_facts C c.requires.sound.laid in
    let cut = c.cut_children-2.ensures ∙ ap blocks_cut (c.cut_children.ensures ∙ ap ops_cut c.take_counts.ensures) in
    record {
      store_after = ap store_of cut ∙ tables_read C row shaped laid c.requires.store_value;
      sound_after = tables_sound C row shaped laid c.requires.store_value _ (omega arith) cut;
      marks_kept = subst (MarksKept C) (sym cut) (cut_marks C row shaped);
    }
