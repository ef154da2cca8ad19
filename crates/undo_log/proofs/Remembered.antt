-- A building call of which one entry is remembered: it goes to the journal's end, and is counted; the tables stay. Assumes nothing.
use Rattle.rules.specs.declared.types.Cause.{Cause}
use Prim.Native.Nat.{ℕ, ◌+◌, ◌<◌, ◌≤◌}
use native.Mathlib.Numerals.{add-one}
use native.Mathlib.Omega.{arith}
use mathlib.Core.Bool.{true, false}
use mathlib.Core.List.{List, [], ◌∷◌, ◌++◌}
use Rattle.std.specs.Prelude.{Option, None}
use mathlib.Core.Path.{◌≡◌, refl, sym, ap, ap₂, subst, ◌∙◌}
use borrow.Author.Tests.{ltb-true, ne_eqb, leb-false}
use lib.Dec.{eqb, leb, ltb}
use lib.ListN.{length, set, length-set, length-append}
use lib.Seq.{get_or-set_same, get_or-set_other}
use Rattle.rules.specs.Building.{Call, Built, tests, first_failed, answer_by, store_by, answer, built}
use Rattle.rules.specs.Marks.{build, max_remembered, can_remember}
use Rattle.layout.specs.Columns.{Cols, columns, at, write, counts, block_next, mark_number, journal_counts, journal_sort, journal_owner, journal_key, journal_kind, journal_content}
use Rattle.layout.specs.Reading.{tabulate, store_of}
use Rattle.layout.proofs.Laid.{Shaped}
use Rattle.layout.proofs.Tabulate.{tabulate_cong, tabulate_suc}
use Rattle.mutation.specs.Doing.{Performs}
use Rattle.mutation.proofs.Facts.{shaped}
use Rattle.layout.specs.Journal as rules
use Rattle.layout.specs.Journal.{entries_for, is_replaced, replaced_in}
use Rattle.layout.specs.MarkedReading.{entry_from, entry_at, mark_count, entry_count, max_entries, journal_of, row_at, rows_of, journaled_of, marked_in, IsLent}
use Rattle.undo_log.specs.Entries.{words_of, entry_of, counts_as}
use Rattle.undo_log.specs.declared.entries.Entry.{Entry}
use Rattle.undo_log.specs.declared.entries.Entry.TheVariants as Entries
use Rattle.undo_log.proofs.MarkRows.{facts}
use Rattle.undo_log.proofs.Replaced.{replaced_append}
use Rattle.undo_log.specs.MarkedCalls.{PerformsMarked}
use Rattle.undo_log.proofs.Tables.{TablesKept, store_kept, sound_kept}
use Rattle.undo_log.proofs.Lent.{lent_facts}
use Rattle.undo_log.proofs.Holding.{journal_set}
use Rattle.undo_log.specs.EntryWrites.{replaced_count, words_put, with_words, with_entry}
use Rattle.undo_log.proofs.LentJournal.{held_counted, journal_length}
use Rattle.undo_log.proofs.CallKeeps.{Kept}
use Rattle.undo_log.proofs.Done.{remembered_behind, journal_room, marked_work}
use Rattle.undo_log.proofs.Unremembered.{behind_kept, behind_journal, behind_entries, behind_replaced}

-- an entry is counted as the replacements that it is
entry_counted : (e : Entry) → counts_as (words_of e).sort ≡ replaced_in (entry_of e ∷ [])
unfolding counts_as entry_of words_of entry_from replaced_in is_replaced
entry_counted (Entries.OperandWas operation index value) = refl
entry_counted (Entries.AttributeWas owner key kind content) = refl
entry_counted (Entries.KeyWasNone owner key) = refl

-- ---- the columns with an entry more

module _ (C : Cols) (e : Entry) where
  abbrev X : Cols
  X = with_entry C e

  front : (k : ℕ) → k < mark_number → (j : ℕ) → leb j block_next ≡ false → eqb k j ≡ false
  front k l j t = ne_eqb k j (λ q. omega (arith, leb-false j block_next t))

  entry_tables : Shaped C → TablesKept C X
  unfolding with_words words_put write at
  entry_tables sh = record { same = same; words = sh counts; counts_same = λ i l. refl }
    where
      same : (k : ℕ) → eqb k counts ≡ false → ltb k mark_number ≡ true → X k ≡ C k
      same k e t =
          let l = ltb-true k mark_number t in
          rw (front k l journal_counts refl, front k l journal_content refl, front k l journal_kind refl, front k l journal_key refl, front k l journal_owner refl, front k l journal_sort refl)
          refl

  entry_kept : (B : Cols) → Kept B C → Kept B X
  unfolding with_words words_put write mark_count at
  entry_kept B k =
      record {
        marks = k.marks;
        numbers = k.numbers;
        places = k.places;
        counts = k.counts;
        regions = k.regions;
        results = k.results;
        arguments = k.arguments;
      }

  module _ (sh : Shaped C) (l : entry_count C < max_entries) where
    abbrev n : ℕ
    n = entry_count C

    entries_grown : entry_count X ≡ n + 1
    unfolding entry_count with_words words_put write at
    entries_grown =
        get_or-set_other (set (C journal_counts) 0 _) 1 0 _ 0 (λ z. omega arith) ∙ get_or-set_same (C journal_counts) 0 _ 0 (omega (arith, sh journal_counts))

    pub replaced_grown : replaced_count X ≡ replaced_count C + counts_as (words_of e).sort
    unfolding replaced_count with_words words_put write at
    replaced_grown = get_or-set_same (set (C journal_counts) 0 _) 1 _ 0 (omega (arith, length-set (C journal_counts) 0 (entry_count C + 1), sh journal_counts))

    old_entry : (i : ℕ) → i < n → entry_at X i ≡ entry_at C i
    unfolding entry_at with_words words_put write at
    old_entry i m =
        λ z. entry_from
        (get_or-set_other (C journal_sort) n i (words_of e).sort 0 (λ q. omega arith) z)
        (get_or-set_other (C journal_owner) n i (words_of e).owner 0 (λ q. omega arith) z)
        (get_or-set_other (C journal_key) n i (words_of e).key 0 (λ q. omega arith) z)
        (get_or-set_other (C journal_kind) n i (words_of e).kind 0 (λ q. omega arith) z)
        (get_or-set_other (C journal_content) n i (words_of e).content 0 (λ q. omega arith) z)

    new_entry : entry_at X n ≡ entry_of e
    unfolding entry_at entry_of with_words words_put write at
    new_entry =
        λ z. entry_from
        (get_or-set_same (C journal_sort) n (words_of e).sort 0 (omega (arith, sh journal_sort)) z)
        (get_or-set_same (C journal_owner) n (words_of e).owner 0 (omega (arith, sh journal_owner)) z)
        (get_or-set_same (C journal_key) n (words_of e).key 0 (omega (arith, sh journal_key)) z)
        (get_or-set_same (C journal_kind) n (words_of e).kind 0 (omega (arith, sh journal_kind)) z)
        (get_or-set_same (C journal_content) n (words_of e).content 0 (omega (arith, sh journal_content)) z)

    pub journal_grown : 0 < mark_count C → journal_of X ≡ journal_of C ++ (entry_of e ∷ [])
    unfolding with_words words_put write mark_count at
    journal_grown m =
        journal_set X m
        ∙ ap (λ (k : ℕ). tabulate k (entry_at X)) (entries_grown ∙ add-one n)
        ∙ tabulate_suc n (entry_at X)
        ∙ ap₂ (λ (es : List rules.Entry) (x : rules.Entry). es ++ (x ∷ [])) (tabulate_cong n (entry_at X) (entry_at C) old_entry ∙ sym (journal_set C m)) new_entry

-- ---- the call

module _ (b : List ℕ) (h : IsLent b) (c : Call) (l : 0 < mark_count (columns b)) (clear : first_failed (tests (store_of (columns b)) c) ≡ None) (can : can_remember (marked_in b) c ≡ true)
    (e : Entry) (is : entry_of e ∷ [] ≡ entries_for (store_of (columns b)) c) (mid : List ℕ) (r : Built) (did : Performs b mid c r) where
  abbrev B : Cols
  B = columns b

  abbrev M : Cols
  M = columns mid

  -- the journal has room for it
  entry_fits : entry_count B < max_entries
  entry_fits =
      omega (arith, journal_room b h c clear can l, length-append (journal_of B) (entries_for (store_of B) c), ap length (sym is), journal_length B l)

  pub entry_room : (entry_count M < max_entries) × (replaced_count M ≤ max_remembered)
  unfolding journaled_of
  entry_room =
      let f = lent_facts b h in (
        omega (arith, entry_fits, behind_entries B M did.behind),
        omega (arith, behind_replaced B M did.behind, held_counted B l f.holds, (facts _ f.journal).few),
      )

  module _ (exit : List ℕ) (len : length exit ≡ length mid) (written : columns exit ≡ with_entry M e) where
    longer : journal_of (columns exit) ≡ journal_of M ++ (entry_of e ∷ [])
    longer =
        ap journal_of written
        ∙ journal_grown M e (shaped mid did.sound) entry_room.0 (subst (λ (n : ℕ). 0 < n) (sym (behind_kept B M did.behind).marks) l)

    counted : replaced_count (columns exit) ≡ replaced_in (journal_of (columns exit))
    counted =
        ap replaced_count written
        ∙ replaced_grown M e (shaped mid did.sound) entry_room.0
        ∙ ap₂ ◌+◌
        (behind_replaced B M did.behind ∙ held_counted B l (lent_facts b h).holds ∙ ap replaced_in (sym (behind_journal B M did.behind)))
        (entry_counted e)
        ∙ sym (replaced_append (journal_of M) (entry_of e ∷ []))
        ∙ ap replaced_in (sym longer)

    pub remembered_call : PerformsMarked b exit (build c) r
    unfolding answer built answer_by store_by rows_of
    remembered_call =
        marked_work b h c clear can exit
        (ap store_of written ∙ store_kept M (with_entry M e) (entry_tables M e (shaped mid did.sound)) ∙ did.reads ∙ ap (λ (o : Option Cause). store_by o (store_of B) c) clear)
        (sound_kept mid exit did.sound (len ∙ did.sound.sized) (subst (TablesKept M) (sym written) (entry_tables M e (shaped mid did.sound))))
        (subst (Kept B) (sym written) (entry_kept M e B (behind_kept B M did.behind)))
        (longer ∙ (λ z. behind_journal B M did.behind z ++ is z) ∙ sym (remembered_behind (mark_count B) (row_at B) (journal_of B) (entries_for (store_of B) c) l))
        (λ m. counted)
        r
        (did.answered ∙ ap (λ (o : Option Cause). answer_by o (store_of B) c) clear)
