-- Whether a call can be remembered while a mark is set, by the count of replacements. Assumes nothing.
use Prim.Native.Nat.{ℕ, ◌<◌}
use native.Mathlib.Omega.{arith}
use mathlib.Core.Bool.{Bool, true, false, not, ◌||◌}
use mathlib.Core.List.{List}
use mathlib.Core.Path.{◌≡◌, ap, ap₂, ◌∙◌}
use borrow.Author.Tests.{leb-true, leb-false, lt-ltb, le-ltb}
use lib.Dec.{leb, ltb}
use Rattle.rules.specs.Building.{Call}
use Rattle.rules.specs.Marks.{replaces, max_remembered, can_remember}
use Rattle.rules.proofs.Basics.Tests.{or_left, or_right}
use Rattle.layout.specs.Columns.{columns}
use Rattle.layout.specs.Reading.{store_in}
use Rattle.layout.specs.Journal.{replaced_in}
use Rattle.layout.specs.MarkedReading.{mark_count, journal_of, marked_in, IsLent}
use Rattle.undo_log.proofs.Lent.{lent_facts}
use Rattle.undo_log.specs.EntryWrites.{replaced_count}
use Rattle.undo_log.proofs.LentJournal.{held_counted}
use Rattle.undo_log.proofs.Done.{can_remember_lem}

module _ (b : List ℕ) (h : IsLent b) (l : 0 < mark_count (columns b)) (c : Call) where
  counted : replaced_count (columns b) ≡ replaced_in (journal_of (columns b))
  counted = held_counted (columns b) l (lent_facts b h).holds

  pub new_fits : replaces (store_in b) c ≡ false → can_remember (marked_in b) c ≡ true
  new_fits e = can_remember_lem b h c ∙ or_left _ (ltb (replaced_in (journal_of (columns b))) max_remembered) (ap not e)

  pub one_fits : leb max_remembered (replaced_count (columns b)) ≡ false → can_remember (marked_in b) c ≡ true
  one_fits e =
      can_remember_lem b h c
      ∙ or_right (not (replaces (store_in b) c)) _ (lt-ltb (replaced_in (journal_of (columns b))) max_remembered (omega (arith, counted, leb-false max_remembered (replaced_count (columns b)) e)))

  pub none_fits : leb max_remembered (replaced_count (columns b)) ≡ true → replaces (store_in b) c ≡ true → can_remember (marked_in b) c ≡ false
  none_fits e r =
      can_remember_lem b h c
      ∙ ap₂ (λ (x y : Bool). not x || y) r (le-ltb (replaced_in (journal_of (columns b))) max_remembered (omega (arith, counted, leb-true max_remembered (replaced_count (columns b)) e)))
