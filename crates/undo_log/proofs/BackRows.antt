-- One of the rows: the journal behind it can be undone from now, it has the number of a mark, and no older row stands behind it. Assumes nothing.
use Prim.Native.Nat.{ℕ, zero, suc, ◌≤◌, ◌<◌}
use native.Mathlib.Nat.{not-suc-le-zero}
use native.Mathlib.Omega.{arith}
use mathlib.Core.Bool.{true}
use mathlib.Core.List.{List, [], ◌∷◌, Memᴰ}
use mathlib.Core.Path.{◌≡◌, ap, ◌∙◌}
use lib.ListN.{length, get_or, drop}
use Rattle.rules.specs.Store.{Store}
use Rattle.rules.specs.Marks.{is_mark}
use Rattle.rules.proofs.Basics.Appended.{mem_get_d}
use Rattle.layout.specs.Journal.{Entry, Counts, counts_of, counts_within, MarkRow, undoable_all, store_before, journal_before}
use Rattle.undo_log.proofs.CountsWithin.{within_same}
use Rattle.undo_log.proofs.MarkRows.{Rising, Numbered, Steps, row_at_lem}
use Rattle.undo_log.proofs.BackSteps.{back_now}

pub undoable_at : (s : Store) (journal : List Entry) {r : MarkRow} (place : ℕ) (counts : Counts) (rs : List MarkRow)
    → Rising place counts (length journal) (counts_of s) rs → Steps s journal rs → Memᴰ r rs → undoable_all (drop r.place journal) s ≡ true
unfolding store_before journal_before
undoable_at s journal place counts rs p g (Memᴰ.head {x = q} {xs = qs} e) =
    ap (λ (z : MarkRow). undoable_all (drop z.place journal) s) e ∙ back_now s journal q qs p.2 g.0 g.2
undoable_at s journal place counts rs p g (Memᴰ.tail {x = q} {xs = qs} m) = undoable_at s journal q.place q.counts qs p.2 g.2 m

pub numbered_at : {r : MarkRow} (rs : List MarkRow) → Numbered rs → Memᴰ r rs → is_mark r.number ≡ true
numbered_at rs p (Memᴰ.head {x = q} {xs = qs} e) = ap (λ (z : MarkRow). is_mark z.number) e ∙ p.0
numbered_at rs p (Memᴰ.tail {x = q} {xs = qs} m) = numbered_at qs p.2 m

-- an older row and a younger one
pub rising_two : (place : ℕ) (counts : Counts) (n : ℕ) (most : Counts) (rs : List MarkRow) → Rising place counts n most rs → (d : MarkRow) (i m : ℕ) → i ≤ m → m < length rs
    → ((get_or rs i d).place ≤ (get_or rs m d).place) × (counts_within (get_or rs i d).counts (get_or rs m d).counts ≡ true)
rising_two place counts n most [] p d i m l h = absurd (not-suc-le-zero h)
rising_two place counts n most (r ∷ rs) p d zero zero l h = (omega arith, within_same r.counts)
rising_two place counts n most (r ∷ rs) p d zero (suc m) l h =
    let b = row_at_lem r.place r.counts n most rs p.2 (mem_get_d rs m d (omega arith)) in (b.from, b.more)
rising_two place counts n most (r ∷ rs) p d (suc i) zero l h = absurd (not-suc-le-zero l)
rising_two place counts n most (r ∷ rs) p d (suc i) (suc m) l h = rising_two r.place r.counts n most rs p.2 d i m (omega arith) (omega arith)
