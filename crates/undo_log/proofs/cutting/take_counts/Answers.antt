-- `take_counts` meets its contract: the row's words come over the first ones of the counts. Assumes nothing.
use Prim.Native.Nat.{ℕ, ◌+◌, ◌*◌, ◌-◌}
use native.Mathlib.Omega.{arith}
use mathlib.Core.Path.{◌≡◌, ◌∙◌}
use lib.ListN.{length}
use Rattle.layout.specs.Columns.{columns, at, counts, mark_counts}
use Rattle.layout.specs.Reading.{slice}
use Rattle.layout.proofs.Buffer.{columns_shaped}
use Rattle.layout.proofs.Scans.{slice_length, slice_at}
use Rattle.undo_log.specs.CutWrites.{counts_taken}
use Rattle.undo_log.proofs.Written.{column_first}
use Rattle.undo_log.proofs.cutting.take_counts.Goals as goal

pub returns : goal.returns
unfolding counts_taken at
returns c =
    let C = columns c.args.store.now in
    let row = c.args.row in
    let shaped = columns_shaped c.args.store.now c.told-store in
    let many : length (slice (C mark_counts) (8 * row) (8 * row + 7)) ≡ 7 =
    slice_length (C mark_counts) (8 * row) (8 * row + 7) (omega (arith, shaped mark_counts)) ∙ (let e : 8 * row + 7 - 8 * row ≡ 7 = omega arith in e) in
    c.copy.ensures
    ∙ column_first C counts 7 (λ (i : ℕ). at C mark_counts (8 * row + i)) (slice (C mark_counts) (8 * row) (8 * row + 7)) many (omega (arith, shaped counts))
    (λ i l. slice_at (C mark_counts) (8 * row) (8 * row + 7) i (omega arith))
