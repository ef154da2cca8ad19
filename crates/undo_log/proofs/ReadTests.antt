-- The rules' tests of marks can be read off the journal. Assumes nothing.
use Prim.Native.Nat.{ℕ}
use native.Mathlib.Omega.{arith}
use mathlib.Core.Bool.{true}
use mathlib.Core.List.{List, [], ◌∷◌, map}
use mathlib.Core.Path.{◌≡◌, refl, ap}
use borrow.Author.Tests.{eqb-true}
use lib.ListN.{length, drop}
use Rattle.rules.specs.Store.{Store}
use Rattle.rules.specs.Marks.{has_number, is_set, remembered}
use Rattle.rules.proofs.Basics.Filtered.{any_map}
use Rattle.layout.specs.Journal.{Entry, replaced_in, MarkRow, mark_of, marked_of, row_has_number, none_older}
use Rattle.undo_log.specs.JournalLaws.{TestsRead}
use Rattle.undo_log.proofs.MarkRows.{facts}

remembered_read : (s : Store) (journal : List Entry) (rs : List MarkRow) → none_older rs journal ≡ true
    → remembered (map (mark_of s journal) rs) ≡ replaced_in journal
unfolding remembered none_older mark_of replaced_in
remembered_read s [] [] h = refl
remembered_read s (e ∷ es) [] h = absurd (omega (arith, eqb-true (length (e ∷ es)) 0 h))
remembered_read s journal (r ∷ rs) h = ap (λ (n : ℕ). replaced_in (drop n journal)) (eqb-true r.place 0 h)

pub tests_read : TestsRead
unfolding TestsRead marked_of is_set has_number row_has_number mark_of
tests_read j = (λ k. any_map (has_number k) (mark_of j.store j.journal) j.rows, λ h. remembered_read j.store j.journal j.rows (facts j h).oldest)
