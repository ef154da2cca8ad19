-- Where no test refuses a new block, its region is there, and there is room for it. Assumes nothing.
use Rattle.rules.specs.declared.types.Cause.{Cause}
use Prim.Native.Nat.{ℕ, ◌+◌, ◌<◌, ◌≤◌}
use Rattle.std.specs.Prelude.{Option, None}
use mathlib.Core.List.{List}
use mathlib.Core.Path.{◌≡◌, sym, ap, ◌∙◌}
use borrow.Author.Tests.{ltb-true, leb-true}
use lib.Dec.{leb}
use lib.ListN.{length}
use Rattle.rules.specs.Store.{max_blocks, max_values, max_own_values}
use Rattle.rules.specs.Building.{NewBlock, new_block, block_room, tests, first_failed}
use Rattle.rules.proofs.Basics.Tests.{passed}
use Rattle.rules.proofs.Soundness.Accepted.{first_failed_none}
use Rattle.layout.specs.Columns.{columns}
use Rattle.layout.specs.Reading.{block_count, region_count, value_count, store_in}
use Rattle.layout.specs.Soundness.{IsSound}
use Rattle.layout.proofs.Tabulate.{blocks_length, values_length, region_exists_lem}
use Rattle.mutation.proofs.BlockAdded.{BlockRoom}

-- the region is there, and there is room for the block
pub record BlockFits (b : List ℕ) (new : NewBlock) : Type 0 where
  pub named : new.region < region_count (columns b)
  pub own : length new.types ≤ max_own_values
  pub room : BlockRoom (columns b) new.types

module _ (b : List ℕ) (h : IsSound b) (new : NewBlock) where
  abbrev failing_block : Option Cause
  failing_block = first_failed (tests (store_in b) (new_block new))

  blocks_fit : leb (length (store_in b).blocks + 1) max_blocks ≡ leb (block_count (columns b) + 1) max_blocks
  blocks_fit = ap (λ (n : ℕ). leb (n + 1) max_blocks) (blocks_length (columns b))

  values_fit_lem : leb (length (store_in b).values + length new.types) max_values ≡ leb (value_count (columns b) + length new.types) max_values
  values_fit_lem = ap (λ (n : ℕ). leb (n + length new.types) max_values) (values_length (columns b))

  pub fits_block : failing_block ≡ None → BlockFits b new
  unfolding tests block_room
  fits_block e =
      let p = first_failed_none _ e in
      let room = passed _ p.1.1.0 in
      record {
        named = ltb-true new.region _ (sym (region_exists_lem (columns b) new.region) ∙ p.0);
        own = leb-true _ _ p.1.0;
        room =
            record {
              blocks = leb-true _ _ (sym blocks_fit ∙ room.0);
              values = leb-true _ _ (sym values_fit_lem ∙ room.1.0);
            };
      }
