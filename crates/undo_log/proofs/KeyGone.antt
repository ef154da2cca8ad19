-- A key that its owner has, taken out of a sound buffer: it is read as the journal's rules take it, the buffer is sound again, and what marks rest on is as it was.
-- Assumes nothing.
use Prim.Native.Nat.{ℕ, ◌+◌, ◌<◌, ◌≤◌}
use native.Mathlib.Omega.{arith}
use mathlib.Core.Bool.{Bool, true, false, ◌&&◌}
use mathlib.Core.List.{List}
use mathlib.Core.Path.{◌≡◌, refl, sym, ap, subst, ◌∙◌}
use lib.ListN.{length}
use Rattle.rules.specs.Store.{Store, owner_exists, sound}
use Rattle.rules.specs.declared.types.Owner.{Owner}
use Rattle.rules.specs.Lists.{every}
use Rattle.rules.proofs.Basics.Tests.{passed}
use Rattle.layout.specs.Columns.{Cols, columns}
use Rattle.layout.specs.Reading.{slots_of, store_of, store_in}
use Rattle.layout.specs.Soundness.{IsSound}
use Rattle.layout.specs.Owners.{key_count}
use Rattle.layout.proofs.Laid.{Laid, laid_of}
use Rattle.mutation.specs.Doing.{Behind}
use Rattle.mutation.proofs.Facts.{shaped, laid}
use Rattle.layout.specs.Journal.{key_was_none, key_taken, undone, undoable}
use Rattle.mutation.specs.SetWrites.{slot_for, key_there}
use Rattle.mutation.proofs.SetBehind.{kept_behind}
use Rattle.mutation.proofs.KeySlot.{slot_found, slot_among}
use Rattle.mutation.proofs.Owners.{reachable, rising, key_test}
use Rattle.undo_log.specs.KeyRemoval.{without_slot}
use Rattle.undo_log.specs.Undoing.{Undid}
use Rattle.undo_log.proofs.KeySound.{taken_sound}
use Rattle.undo_log.proofs.KeyTaken.{Taken, key_taken_lem}
use Rattle.undo_log.proofs.TakenRead.{taken_reads, taken_laid}
use Rattle.undo_log.proofs.Told.{undid_done}

-- ---- whether it can be taken out

pub no_owner : (b : List ℕ) (w : Owner) (k : ℕ) → owner_exists (store_in b) w ≡ false → undoable (key_was_none w k) (store_in b) ≡ false
unfolding undoable every
no_owner b w k e = rw e refl

and_true : (t : Bool) → (t && true) ≡ t
and_true true = refl
and_true false = refl

-- the test over the slots tells it
pub by_slot : (b : List ℕ) → IsSound b → (w : Owner) (k : ℕ) → owner_exists (store_in b) w ≡ true → undoable (key_was_none w k) (store_in b) ≡ key_there (columns b) w k
unfolding undoable every
by_slot b h w k e = rw e (and_true _ ∙ key_test b h w e k)

-- ---- and where it can

module _ (b : List ℕ) (h : IsSound b) (w : Owner) (k : ℕ) (can : undoable (key_was_none w k) (store_in b) ≡ true) where
  abbrev C : Cols
  C = columns b

  abbrev D : Cols
  D = without_slot C w (slot_for C w k)

  pub owner_there : owner_exists (store_in b) w ≡ true
  unfolding undoable
  owner_there = (passed _ can).0

  key_found : key_there C w k ≡ true
  key_found = sym (by_slot b h w k owner_there) ∙ can

  -- its slot is one of the owner's
  pub slot_there : (slots_of w ≤ slot_for C w k) × (slot_for C w k < slots_of w + key_count C w)
  slot_there = (omega (arith, slot_found C w k), slot_among C w k key_found)

  gone : Taken C D w k
  gone = key_taken_lem C w k (shaped b h) (laid b h) (reachable b h w owner_there).within key_found (rising b h w owner_there)

  pub key_undid : (exit : List ℕ) → length exit ≡ length b → columns exit ≡ D → Undid b exit (key_was_none w k) true
  unfolding undone
  key_undid exit len q =
      let l = (reachable b h w owner_there).within in
      let reads : store_in exit ≡ key_taken (store_in b) w k = ap store_of q ∙ taken_reads C D w k (laid b h) l gone in
      undid_done b exit (key_was_none w k) can reads (
      record {
        sized = len ∙ h.sized;
        laid = laid_of (columns exit) (subst Laid (sym q) (taken_laid C D w k (laid b h) l gone));
        ruled = subst (λ (s : Store). sound s ≡ true) (sym reads) (taken_sound (store_in b) w k h.ruled owner_there);
      }
      ) (subst (Behind C) (sym q) (kept_behind C D gone.kept))
