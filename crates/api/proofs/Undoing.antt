-- Entries of the journal undone on a sound buffer: an operand or an attribute by the call that sets it, a new key by a buffer without its slot;
-- an entry that can't be undone leaves the buffer as it was. Assumes nothing.
use Rattle.rules.specs.declared.types.Cause.{Cause}
use Prim.Native.Nat.{ℕ, zero, suc, ◌+◌, ◌-◌, ◌<◌, ◌≤◌}
use native.Mathlib.Nat.{zero-add, suc-add}
use native.Mathlib.Omega.{arith}
use mathlib.Core.Bool.{Bool, true, false, cond}
use mathlib.Core.List.{List, [], ◌∷◌, map}
use Rattle.std.specs.Prelude.{Option, None, Some}
use mathlib.Core.Path.{◌≡◌, refl, sym, ap, subst, ◌∙◌}
use lib.ListN.{drop}
use Rattle.rules.specs.Lists.{every}
use Rattle.rules.specs.Store.{Store}
use Rattle.rules.specs.declared.types.Owner.{Owner}
use Rattle.rules.specs.Building.{Call, set_attribute, set_operand, tests, first_failed, applied, store_by, built}
use Rattle.rules.proofs.Basics.Tests.{and_left, and_right, passed}
use Rattle.layout.specs.Columns.{columns}
use Rattle.layout.specs.Reading.{tabulate, store_in}
use Rattle.layout.specs.Soundness.{IsSound}
use Rattle.layout.proofs.Filled.{filled}
use Rattle.mutation.proofs.Facts.{shaped}
use Rattle.mutation.specs.SetWrites.{slot_for}
use Rattle.mutation.proofs.Owners.{reachable}
use Rattle.layout.specs.Journal.{Entry, operand_was, attribute_was, key_was_none, undone, undoable}
use Rattle.layout.specs.MarkedReading.{entry_at}
use Rattle.undo_log.specs.KeyRemoval.{without_slot}
use Rattle.undo_log.specs.Undoing.{Undid, UndidAll}
use Rattle.undo_log.proofs.Told.{undid_not, undid_done}
use Rattle.undo_log.proofs.KeyGone.{owner_there, slot_there, key_undid}
use Rattle.undo_log.proofs.Newest.{none_undone, one_undone, one_left}
use Rattle.api.proofs.Shapes.{slot_shaped}
use Rattle.api.proofs.SoundCall.{doing}

-- ---- one entry

-- where all pass none fails
all_pass : (ts : List (Bool × Cause)) → every (map (λ (t : Bool × Cause). t.0) ts) ≡ true → first_failed ts ≡ None
unfolding first_failed every
all_pass [] e = refl
all_pass (t ∷ ts) e = ap (λ (b : Bool). cond b (first_failed ts) (Some t.1)) (and_left t.0 _ e) ∙ all_pass ts (and_right t.0 _ e)

module _ (b : List ℕ) (h : IsSound b) where
  abbrev s : Store
  s = store_in b

  abbrev Undoing : Entry → Type 0
  Undoing e = (exit : List ℕ) × (q : Bool) × Undid b exit e q

  -- by the call that sets
  set_again : (e : Entry) → undoable e s ≡ true → (c : Call) → first_failed (tests s c) ≡ None → applied s c ≡ undone e s → Undoing e
  unfolding built store_by
  set_again e can c clear same =
      let d = doing b h c in (
        d.0,
        true,
        undid_done b d.0 e can (d.2.reads ∙ ap (λ (o : Option Cause). store_by o s c) clear ∙ same) d.2.sound d.2.behind,
      )

  -- a key taken out
  undo_key : (w : Owner) (k : ℕ) → undoable (key_was_none w k) s ≡ true → Undoing (key_was_none w k)
  undo_key w k can =
      let C = columns b in
      let s = slot_for C w k in
      let r = reachable b h w (owner_there b h w k can) in
      let x = filled (without_slot C w s) (slot_shaped C w s (shaped b h) (slot_there b h w k can).1 (omega (arith, r.keys, r.slots))) in
      (x.0, true, key_undid b h w k can x.0 (x.1 ∙ sym h.sized) x.2)

  undo_there : (e : Entry) → undoable e s ≡ true → Undoing e
  unfolding undoable undone tests first_failed
  undo_there (operand_was n i v) can =
      let c = set_operand (record { operation = n; index = i; value = v }) in set_again (operand_was n i v) can c (all_pass (tests s c) can) refl
  undo_there (attribute_was w a) can = let p = passed _ can in set_again (attribute_was w a) can (set_attribute w a) (simp (p.0, p.1.0, p.1.1.0)) refl
  undo_there (key_was_none w k) can = undo_key w k can

  undo : (e : Entry) → Undoing e
  undo e = go (undoable e s) refl
    where
      go : (t : Bool) → undoable e s ≡ t → Undoing e
      go true can = undo_there e can
      go false not = (b, false, undid_not b h e not)

-- ---- entries, the newest first

module _ (b : List ℕ) (h : IsSound b) (place end : ℕ) where
  abbrev From : ℕ → List ℕ → Bool → Type 0
  From i u q = UndidAll b u (drop i (tabulate end (entry_at (columns b)))) q

  abbrev UndoingAll : Type 0
  UndoingAll = (u : List ℕ) × (q : Bool) × From place u q

  -- the next one, and then the others; or it can't be undone
  undo_next : (c : List ℕ) (i : ℕ) → place ≤ i → i < end → From (suc i) c true → ((u : List ℕ) → From i u true → UndoingAll) → UndoingAll
  undo_next c i low l d rest = let x = undo c d.sound (entry_at (columns c) i) in go x.0 x.1 x.2
    where
      go : (u : List ℕ) (q : Bool) → Undid c u (entry_at (columns c) i) q → UndoingAll
      go u true x = rest u (one_undone b end c u (suc i) i refl l d true x refl)
      go u false x = (u, false, one_left b end c u (suc i) i refl l d place low false x refl)

  undo_left : (left : ℕ) → left + place ≤ end → (c : List ℕ) → From (left + place) c true → UndoingAll
  undo_left zero l c d = (c, true, subst (λ (i : ℕ). From i c true) (zero-add place) d)
  undo_left (suc left) l c d =
      undo_next c (left + place) (omega arith) (omega arith) (subst (λ (i : ℕ). From i c true) (suc-add left place) d)
      (undo_left left (omega arith))

  pub undo_all : place ≤ end → UndoingAll
  undo_all l =
      let e : end ≡ end - place + place = omega arith in
      undo_left (end - place) (omega arith) b (subst (λ (i : ℕ). From i b true) e (none_undone b end h))
