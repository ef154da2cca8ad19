-- `step_back` meets its contract: what is undone and cut is what was tested before. Assumes nothing.
use mathlib.Core.Path.{sym, ◌∙◌}
use Rattle.validation.proofs.Step.{came_back}
use Rattle.validation.proofs.steps.step_back.Goals as goal

pub returns : goal.returns
returns c =
    let a = c.args in
    let fit = sym c.row_fits.ensures ∙ c.if-not-row_fits.false in
    came_back a.copy.now a.i a.end fit _ c.number-place.ensures c.undo_between.new.store _ c.undo_between.ensures
    c.if-not-undo_between.false
    c.cut_tables.new.store _ c.cut_tables.ensures.store_after c.cut_tables.ensures.sound_after c.cut_tables.ensures.marks_kept
    c.is_sound.ensures
