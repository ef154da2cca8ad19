-- What a lent buffer says of its journal while a mark is set, by name. Assumes nothing.
use Prim.Native.Nat.{◌<◌}
use native.Mathlib.Omega.{arith}
use mathlib.Core.Bool.{Bool, true, false}
use mathlib.Core.Path.{◌≡◌, refl, ap, ◌∙◌}
use borrow.Author.Tests.{ne_eqb, eqb-false}
use lib.Dec.{eqb}
use lib.ListN.{length}
use Rattle.layout.specs.Columns.{Cols}
use Rattle.layout.proofs.Tabulate.{length_tabulate}
use Rattle.layout.specs.Journal.{replaced_in}
use Rattle.layout.specs.MarkedReading.{mark_count, entry_count, entry_at, journal_of, journal_holds}
use Rattle.undo_log.proofs.Holding.{Remembered, holds_facts, holds_of, journal_set}
use Rattle.undo_log.specs.EntryWrites.{replaced_count}

module _ (C : Cols) where
  marked_test : 0 < mark_count C → eqb (mark_count C) 0 ≡ false
  marked_test l = ne_eqb (mark_count C) 0 (λ e. omega arith)

  pub held_facts : 0 < mark_count C → journal_holds C ≡ true → Remembered C
  held_facts l h = holds_facts C h (marked_test l)

  pub held_counted : 0 < mark_count C → journal_holds C ≡ true → replaced_count C ≡ replaced_in (journal_of C)
  unfolding replaced_count
  held_counted l h = (held_facts l h).counted

  -- without a mark nothing is asked
  pub held_of : (0 < mark_count C → Remembered C) → journal_holds C ≡ true
  unfolding journal_holds
  held_of f = go (eqb (mark_count C) 0) refl
    where
      go : (t : Bool) → eqb (mark_count C) 0 ≡ t → journal_holds C ≡ true
      go true e = rw e refl
      go false e = let l : mark_count C ≡ 0 → ⊥ = eqb-false (mark_count C) 0 e in holds_of C (f (omega arith))

  pub journal_length : 0 < mark_count C → length (journal_of C) ≡ entry_count C
  journal_length l = ap length (journal_set C l) ∙ length_tabulate (entry_count C) (entry_at C)
