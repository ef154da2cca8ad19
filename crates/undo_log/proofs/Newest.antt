-- Entries undone from the newest on: what is undone so far leaves the journal and the counts as they were, so the next entry is read as before; where one can't be
-- undone, neither can any list that it ends. Assumes nothing.
use Prim.Native.Nat.{ℕ, zero, suc, ◌+◌, ◌-◌, ◌<◌, ◌≤◌}
use native.Mathlib.Omega.{arith}
use mathlib.Core.Bool.{Bool, true, false, ◌&&◌}
use mathlib.Core.List.{List, [], ◌∷◌}
use mathlib.Core.Path.{◌≡◌, refl, sym, ap, subst, ◌∙◌}
use lib.ListN.{get_or, drop}
use lib.Seq.{drop-length, drop-cons, drop-drop}
use Rattle.rules.specs.Store.{Store}
use Rattle.rules.proofs.Basics.Tests.{clash}
use Rattle.layout.specs.Columns.{Cols, columns, at, block_next, journal_sort, journal_owner, journal_key, journal_kind, journal_content}
use Rattle.layout.specs.Reading.{tabulate, op_count, block_count, store_in}
use Rattle.layout.specs.Soundness.{IsSound}
use Rattle.layout.proofs.Tabulate.{length_tabulate, get_d_tabulate, ops_length, blocks_length}
use Rattle.mutation.specs.Doing.{Behind}
use Rattle.layout.specs.Journal.{Entry, undone, undone_all, undoable, undoable_all, Counts, counts_of}
use Rattle.layout.specs.MarkedReading.{entry_from, entry_at}
use Rattle.undo_log.proofs.CountsWithin.{counts_undone}
use Rattle.undo_log.specs.Undoing.{Undid, UndidAll}

-- ---- what marks rest on, from one step to the next

behind_on : (C D E : Cols) → op_count D ≡ op_count C → block_count D ≡ block_count C → Behind C D → Behind D E → Behind C E
behind_on C D E o m p q =
    record {
      words = λ k l. q.words k l ∙ p.words k l;
      marks = q.marks ∙ p.marks;
      regions = λ n l. q.regions n (omega (arith, o)) ∙ p.regions n l;
      results = λ n l. q.results n (omega (arith, o)) ∙ p.results n l;
      arguments = λ n l. q.arguments n (omega (arith, m)) ∙ p.arguments n l;
    }

same_entry : (C D : Cols) → Behind C D → (i : ℕ) → entry_at D i ≡ entry_at C i
unfolding entry_at at
same_entry C D p i = λ j. entry_from (word journal_sort (omega arith) j) (word journal_owner (omega arith) j) (word journal_key (omega arith) j) (word journal_kind (omega arith) j) (word journal_content (omega arith) j)
  where
    word : (k : ℕ) → block_next < k → at D k i ≡ at C k i
    word k l = ap (λ (xs : List ℕ). get_or xs i 0) (p.words k l)

-- ---- a list of which a later part can't be undone

not_all : (es : List Entry) (n : ℕ) (s : Store) → undoable_all (drop n es) s ≡ false → undoable_all es s ≡ false
unfolding undoable_all
not_all es zero s h = h
not_all [] (suc n) s h = h
not_all (e ∷ es) (suc n) s h = ap (λ (b : Bool). b && undoable e (undone_all es s)) (not_all es n s h)

-- ---- turn by turn

module _ (b : List ℕ) (end : ℕ) where
  abbrev es : List Entry
  es = tabulate end (entry_at (columns b))

  pub none_undone : IsSound b → UndidAll b b (drop end es) true
  unfolding undoable_all undone_all
  none_undone h =
      subst (λ (l : List Entry). UndidAll b b l true) (sym (ap (λ (k : ℕ). drop k es) (sym (length_tabulate end (entry_at (columns b)))) ∙ drop-length es))
      (record {
        told = refl;
        reads = λ t. refl;
        sound = h;
        behind = record { words = λ k l. refl; marks = refl; regions = λ n l. refl; results = λ n l. refl; arguments = λ m l. refl };
      })

  -- from entry n on all are undone, and entry i is the next
  module _ (c exit : List ℕ) (n i : ℕ) (follows : suc i ≡ n) (l : i < end) (so_far : UndidAll b c (drop n es) true) where
    abbrev rest : List Entry
    rest = drop n es

    abbrev next : Entry
    next = entry_at (columns b) i

    from_next : drop i es ≡ next ∷ rest
    from_next =
        drop-cons es i next (omega (arith, length_tabulate end (entry_at (columns b))))
        ∙ ap (λ (e : Entry). e ∷ drop (suc i) es) (get_d_tabulate end (entry_at (columns b)) i next l)
        ∙ ap (λ (k : ℕ). next ∷ drop k es) follows

    left : store_in c ≡ undone_all rest (store_in b)
    left = so_far.reads refl

    counted : counts_of (store_in c) ≡ counts_of (store_in b)
    counted = ap counts_of left ∙ counts_undone rest (store_in b)

    ops_same : op_count (columns c) ≡ op_count (columns b)
    unfolding counts_of
    ops_same = sym (ops_length (columns c)) ∙ ap (λ (k : Counts). k.ops) counted ∙ ops_length (columns b)

    blocks_same : block_count (columns c) ≡ block_count (columns b)
    unfolding counts_of
    blocks_same = sym (blocks_length (columns c)) ∙ ap (λ (k : Counts). k.blocks) counted ∙ blocks_length (columns b)

    module _ (q : Bool) (d : Undid c exit (entry_at (columns c) i) q) where
      after : Behind (columns b) (columns exit)
      after = behind_on (columns b) (columns c) (columns exit) ops_same blocks_same so_far.behind d.behind

      same : entry_at (columns c) i ≡ next
      same = same_entry (columns b) (columns c) so_far.behind i

      next_told : q ≡ undoable next (undone_all rest (store_in b))
      next_told = d.told ∙ ap (λ (e : Entry). undoable e (store_in c)) same ∙ ap (undoable next) left

      list_told : q ≡ undoable_all (drop i es) (store_in b)
      unfolding undoable_all
      list_told =
          next_told ∙ ap (λ (t : Bool). t && undoable next (undone_all rest (store_in b))) so_far.told
          ∙ ap (λ (xs : List Entry). undoable_all xs (store_in b)) (sym from_next)

    pub one_undone : (q : Bool) → Undid c exit (entry_at (columns c) i) q → q ≡ true → UndidAll b exit (drop i es) true
    unfolding undone_all
    one_undone q d t =
        record {
          told = sym t ∙ list_told q d;
          reads =
              λ u. d.reads t ∙ ap (λ (e : Entry). undone e (store_in c)) (same q d) ∙ ap (undone next) left
              ∙ ap (λ (xs : List Entry). undone_all xs (store_in b)) (sym from_next);
          sound = d.sound;
          behind = after q d;
        }

    pub one_left : (place : ℕ) → place ≤ i → (q : Bool) → Undid c exit (entry_at (columns c) i) q → q ≡ false → UndidAll b exit (drop place es) false
    one_left place m q d t =
        let further : place + (i - place) ≡ i = omega arith in
        let part : drop (i - place) (drop place es) ≡ drop i es = drop-drop (i - place) place es ∙ ap (λ (k : ℕ). drop k es) further in
        record {
          told = sym (not_all (drop place es) (i - place) (store_in b) (ap (λ (xs : List Entry). undoable_all xs (store_in b)) part ∙ sym (list_told q d) ∙ t));
          reads = λ u. clash u refl;
          sound = d.sound;
          behind = after q d;
        }
