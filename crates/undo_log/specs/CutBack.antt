-- What the tables are once they are cut to a mark's counts.
use Rattle.std.specs.Prelude.{ℕ, ◌<◌, Bool, [], ◌∷◌, ◌≡◌}
use Rattle.rules.specs.Lists.{every}
use Rattle.rules.specs.Store.{sound}
use Rattle.layout.specs.Columns.{Cols, at, counts, op_region_end, op_result_end, block_argument_end, block_next}
use Rattle.layout.specs.Reading.{store_of}
use Rattle.layout.specs.Journal.{cut_to}
use Rattle.layout.specs.MarkedReading.{row_counts, ranges_end, totals_kept}

-- the words of marks and of the journal are as they were, and so is the number of set marks, and where ranges of regions and values end
pub record MarksKept (C D : Cols) : Type 0 where
  pub words : (k : ℕ) → block_next < k → D k ≡ C k
  pub marks : at D counts 7 ≡ at C counts 7
  pub region_ends : D op_region_end ≡ C op_region_end
  pub result_ends : D op_result_end ≡ C op_result_end
  pub argument_ends : D block_argument_end ≡ C block_argument_end

-- what is left at the counts of a mark's row is sound, the row's other counts are its own, and no range of it ends behind them
unfoldable pub back_sound : Cols → ℕ → Bool
back_sound C row =
    every
    (sound (cut_to (row_counts C row) (store_of C))
    ∷ totals_kept C row (cut_to (row_counts C row) (store_of C))
    ∷ ranges_end C (row_counts C row)
    ∷ [])
