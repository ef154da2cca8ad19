-- What a building call does to a sound buffer, good or refused.
use Rattle.rules.specs.declared.types.Cause.{Cause}
use Rattle.std.specs.Prelude.{ℕ, ◌<◌, List, ◌≡◌}
use Rattle.rules.specs.Building.{Call, Built, refused, answer, built}
use Rattle.layout.specs.Columns.{Cols, columns, at, counts, op_region_end, op_result_end, block_argument_end, block_next}
use Rattle.layout.specs.Reading.{op_count, block_count, store_in}
use Rattle.layout.specs.Soundness.{IsSound}

-- what marks rest on is as it was: their words and the journal's, how many are set, and where the ranges end of what was there
pub record Behind (C D : Cols) : Type 0 where
  pub words : (k : ℕ) → block_next < k → D k ≡ C k
  pub marks : at D counts 7 ≡ at C counts 7
  pub regions : (n : ℕ) → n < op_count C → at D op_region_end n ≡ at C op_region_end n
  pub results : (n : ℕ) → n < op_count C → at D op_result_end n ≡ at C op_result_end n
  pub arguments : (m : ℕ) → m < block_count C → at D block_argument_end m ≡ at C block_argument_end m

-- a call on a sound buffer: the answer and the store afterwards are the rules', the buffer is sound again, and a refused call has
-- changed no word
pub record Performs (entry exit : List ℕ) (c : Call) (r : Built) : Type 0 where
  pub answered : r ≡ answer (store_in entry) c
  pub reads : store_in exit ≡ built (store_in entry) c
  pub sound : IsSound exit
  pub unchanged : (cause : Cause) → r ≡ refused cause → exit ≡ entry
  pub behind : Behind (columns entry) (columns exit)
