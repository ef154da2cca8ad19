-- How many of the journal's first entries are replacements, counted one by one. Assumes nothing.
use Prim.Native.Nat.{ℕ, zero, suc}
use native.Mathlib.Omega.{arith}
use mathlib.Core.Bool.{Bool, true, false, cond}
use mathlib.Core.List.{List, ◌∷◌}
use borrow.Author.Tests.{le-ltb}
use lib.Dec.{ltb}
use lib.ListN.{length}
use Rattle.std.specs.List as std
use mathlib.Core.Path.{◌≡◌, refl, sym, ap, ◌∙◌}
use Rattle.std.specs.List.{filter}
use Rattle.layout.specs.Columns.{Cols, at, journal_sort, journal_owner, journal_key, journal_kind, journal_content}
use Rattle.layout.specs.Reading.{tabulate, tabulate_from}
use Rattle.layout.specs.Journal.{is_replaced, replaced_in}
use Rattle.layout.specs.MarkedReading.{entry_from, entry_at}
use Rattle.undo_log.specs.MarkWrites.{first_entries}

-- an entry counts by its sort
sort_told : (sort owner key kind content : ℕ) → is_replaced (entry_from sort owner key kind content) ≡ ltb sort 2
unfolding entry_from is_replaced
sort_told zero owner key kind content = refl
sort_told (suc zero) owner key kind content = refl
sort_told (suc (suc n)) owner key kind content = sym (le-ltb (suc (suc n)) 2 (omega arith))

module _ (C : Cols) where
  counted_from : (a n : ℕ) → length (std.filter (λ (x : ℕ). ltb x 2) (tabulate_from a n (at C journal_sort))) ≡ length (filter is_replaced (tabulate_from a n (entry_at C)))
  unfolding tabulate_from entry_at
  counted_from a zero = refl
  counted_from a (suc n) =
      go (ltb (at C journal_sort a) 2)
      (sort_told (at C journal_sort a) (at C journal_owner a) (at C journal_key a) (at C journal_kind a) (at C journal_content a)) (counted_from (suc a) n)
    where
      go : (b : Bool) → is_replaced (entry_at C a) ≡ b
          → length (std.filter (λ (x : ℕ). ltb x 2) (tabulate_from (suc a) n (at C journal_sort))) ≡ length (filter is_replaced (tabulate_from (suc a) n (entry_at C)))
          → length (cond b (at C journal_sort a ∷ std.filter (λ (x : ℕ). ltb x 2) (tabulate_from (suc a) n (at C journal_sort))) (std.filter (λ (x : ℕ). ltb x 2) (tabulate_from (suc a) n (at C journal_sort))))
          ≡ length (cond (is_replaced (entry_at C a)) (entry_at C a ∷ filter is_replaced (tabulate_from (suc a) n (entry_at C))) (filter is_replaced (tabulate_from (suc a) n (entry_at C))))
      go true t e = rw t (ap suc e)
      go false t e = rw t e

  pub counted : (n : ℕ) (sorts : List ℕ) → sorts ≡ tabulate n (at C journal_sort) → length (std.filter (λ (x : ℕ). ltb x 2) sorts) ≡ replaced_in (first_entries C n)
  unfolding replaced_in first_entries tabulate
  counted n sorts e = ap (λ (l : List ℕ). length (std.filter (λ (x : ℕ). ltb x 2) l)) e ∙ counted_from 0 n
