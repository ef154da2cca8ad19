-- An accepted call is undone by what is remembered of it and by cutting, and what is remembered can be undone. Assumes nothing.
use Prim.Native.Nat.{ℕ}
use mathlib.Core.Bool.{Bool, true, false, cond}
use mathlib.Core.List.{List}
use mathlib.Core.Path.{◌≡◌, refl, ap, ◌∙◌}
use borrow.Author.Tests.{ltb-true}
use lib.Dec.{ltb}
use lib.ListN.{length, get_or, take, length-set}
use lib.Seq.{take-length, take-append_seam, set-set, set-get_or}
use Rattle.rules.specs.Lists.{update_at}
use Rattle.rules.specs.Store.{Store, Op, no_op, op_at, op_exists, block_exists, value_exists, owner_exists, attributes_hold}
use Rattle.rules.specs.declared.types.Attribute.{Attribute}
use Rattle.rules.specs.declared.types.Owner.{Owner}
use Rattle.rules.specs.declared.types.Owner.TheVariants.{Op as of_op, Block as of_block}
use Rattle.rules.specs.Building.{new_operation, new_block, set_attribute, set_operand, SetOperand, attributes_of, has_key, tests, put_attribute, op_with_operand, applied}
use Rattle.rules.proofs.Basics.Tests.{passed, every_of, all_at}
use Rattle.rules.proofs.Basics.Appended.{length_update, mem_get_d}
use Rattle.rules.proofs.Soundness.Sound.{Sound, facts}
use Rattle.rules.proofs.Soundness.Accepted.{AllPassed, first_failed_none}
use Rattle.rules.proofs.Soundness.KeptAttributes.{keys_rise_lem}
use Rattle.rules.proofs.Soundness.Room.{update_there}
use Rattle.layout.specs.Journal.{Entry, operand_was, attribute_was, key_was_none, without_key, undone, undone_all, counts_of, cut_to, attribute_or, entries_for, undoable, undoable_all}
use Rattle.undo_log.specs.JournalLaws.{CutCommutes, CutWhole, CallUndone, CallUndoable}
use Rattle.undo_log.proofs.Changed.{ops_back, attributes_by, owner_same, attributes_there, attributes_back, set_is, taken_is}
use Rattle.undo_log.proofs.CutJournal.{cut_commutes, cut_whole}
use Rattle.undo_log.proofs.AttributeLists.{has_put, found, put_back, put_taken}

-- ---- what is new is cut away, and nothing else

pub cut_new : (s t : Store) → take (length s.ops) t.ops ≡ s.ops → take (length s.blocks) t.blocks ≡ s.blocks
    → take (length s.regions) t.regions ≡ s.regions → take (length s.values) t.values ≡ s.values → cut_to (counts_of s) t ≡ s
unfolding cut_to counts_of
cut_new s t o b r v = λ i. record { ops = o i; blocks = b i; regions = r i; values = v i }

-- where something was replaced
cut_undone : (e : Entry) (s : Store) → cut_to (counts_of s) (undone e s) ≡ undone e s
unfolding CutCommutes CutWhole
cut_undone e s = cut_commutes e (counts_of s) s ∙ ap (undone e) (cut_whole s)

cut_set : (s : Store) (w : Owner) (a : Attribute) → cut_to (counts_of s) (applied s (set_attribute w a)) ≡ applied s (set_attribute w a)
unfolding undone
cut_set s w a = cut_undone (attribute_was w a) s

cut_operand : (s : Store) (u : SetOperand) → cut_to (counts_of s) (applied s (set_operand u)) ≡ applied s (set_operand u)
unfolding undone
cut_operand s u = cut_undone (operand_was u.operation u.index u.value) s

-- ---- attributes

-- an owner's attributes in a sound store
pub owner_holds : (s : Store) → Sound s → (w : Owner) → owner_exists s w ≡ true → attributes_hold (attributes_of s w) ≡ true
unfolding owner_exists op_exists block_exists attributes_of
owner_holds s h (of_op n) e = (h.op n (ltb-true n _ e)).attributes_fit
owner_holds s h (of_block b) e = (h.block b (ltb-true b _ e)).attributes_fit

module _ (s : Store) (w : Owner) (a : Attribute) (h : Sound s) (there : owner_exists s w ≡ true) where
  abbrev now : List Attribute
  now = attributes_of s w

  abbrev entry : Bool → Entry
  entry b = cond b (attribute_was w (attribute_or a a.key now)) (key_was_none w a.key)

  set_back : (b : Bool) → has_key a.key now ≡ b → undone (entry b) (applied s (set_attribute w a)) ≡ s
  unfolding undone
  set_back true e =
      let old = attribute_or a a.key now in
      ap (undone (attribute_was w old)) (set_is w a s) ∙ set_is w old (attributes_by (put_attribute a) w s)
      ∙ attributes_back (put_attribute a) (put_attribute old) w s (λ x. put_back a a now (keys_rise_lem now (owner_holds s h w there)) e)
  set_back false e =
      ap (undone (key_was_none w a.key)) (set_is w a s) ∙ taken_is w a.key (attributes_by (put_attribute a) w s)
      ∙ attributes_back (put_attribute a) (without_key a.key) w s (λ x. put_taken a now e)

  -- the owner is there still, and has the key
  still_there : owner_exists (applied s (set_attribute w a)) w ≡ true
  still_there = ap (λ (t : Store). owner_exists t w) (set_is w a s) ∙ owner_same (put_attribute a) w w s ∙ there

  has_it : has_key a.key (attributes_of (applied s (set_attribute w a)) w) ≡ true
  has_it =
      ap (λ (t : Store). has_key a.key (attributes_of t w)) (set_is w a s)
      ∙ ap (has_key a.key) (attributes_there (put_attribute a) w s there)
      ∙ has_put a now

  set_undoable : (b : Bool) → has_key a.key now ≡ b → undoable (entry b) (applied s (set_attribute w a)) ≡ true
  unfolding undoable attributes_hold
  set_undoable true e =
      let f = found a a.key now e in
      let same : (attribute_or a a.key now).key ≡ a.key = f.1 in
      every_of _ (all_at _ now (passed _ (owner_holds s h w there)).1.1.0 f.0, (still_there, (rw same has_it, tt)))
  set_undoable false e = every_of _ (still_there, (has_it, tt))

-- ---- operands

module _ (s : Store) (u : SetOperand) (h : Sound s) (p : AllPassed (tests s (set_operand u))) where
  abbrev n : ℕ
  n = u.operation

  abbrev i : ℕ
  i = u.index

  abbrev was : List ℕ
  was = (op_at s n).operands

  operand_back : undone (operand_was n i (get_or was i 0)) (applied s (set_operand u)) ≡ s
  unfolding undone applied op_with_operand
  operand_back =
      ops_back (op_with_operand i u.value) (op_with_operand i (get_or was i 0)) n s
      (λ x. ap (λ (l : List ℕ). with_operands l (op_at s n)) (set-set was i u.value (get_or was i 0) ∙ set-get_or was i 0))
    where
      with_operands : List ℕ → Op → Op
      with_operands l o =
          record { kind = o.kind; parent = o.parent; location = o.location; operands = l; successors = o.successors; attributes = o.attributes }

  operand_undoable : undoable (operand_was n i (get_or was i 0)) (applied s (set_operand u)) ≡ true
  unfolding undoable tests applied op_exists value_exists op_at op_with_operand
  operand_undoable =
      let there = (passed _ p.0).0 in
      let g = op_with_operand i u.value in
      let longer : length (get_or (update_at g n s.ops) n no_op).operands ≡ length was =
      ap (λ (o : Op). length o.operands) (update_there g n s.ops no_op (ltb-true n _ there)) ∙ length-set was i u.value in
      every_of _ (
        every_of _ (
          ap (ltb n) (length_update g n s.ops) ∙ there,
          (all_at _ was (h.op n (ltb-true n _ there)).operands_in (mem_get_d was i 0 (ltb-true i _ p.1.0)), tt),
        ),
        (ap (ltb i) longer ∙ p.1.0, tt),
      )

-- ---- every call

pub call_undone : CallUndone
unfolding CallUndone entries_for undone_all tests applied
call_undone s (new_operation o) h f =
    cut_new s (applied s (new_operation o)) (take-append_seam s.ops _) (take-length s.blocks) (take-append_seam s.regions _) (take-append_seam s.values _)
call_undone s (new_block b) h f =
    cut_new s (applied s (new_block b)) (take-length s.ops) (take-append_seam s.blocks _) (take-length s.regions) (take-append_seam s.values _)
call_undone s (set_attribute w a) h f =
    let p = first_failed_none (tests s (set_attribute w a)) f in
    ap (undone _) (cut_set s w a) ∙ set_back s w a (facts s h) p.1.0 (has_key a.key (attributes_of s w)) refl
call_undone s (set_operand u) h f =
    let p = first_failed_none (tests s (set_operand u)) f in
    ap (undone _) (cut_operand s u) ∙ operand_back s u (facts s h) p

pub call_undoable : CallUndoable
unfolding CallUndoable entries_for undone_all undoable_all tests
call_undoable s (new_operation o) h f = refl
call_undoable s (new_block b) h f = refl
call_undoable s (set_attribute w a) h f =
    let p = first_failed_none (tests s (set_attribute w a)) f in
    set_undoable s w a (facts s h) p.1.0 (has_key a.key (attributes_of s w)) refl
call_undoable s (set_operand u) h f = operand_undoable s u (facts s h) (first_failed_none (tests s (set_operand u)) f)
