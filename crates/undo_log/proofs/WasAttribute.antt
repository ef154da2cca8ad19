-- What is remembered of an attribute: the words at a key's slot are the attribute that the owner had, or the owner had no such key. Assumes nothing.
use Prim.Native.Nat.{ℕ, zero, suc, ◌+◌, ◌<◌, ◌≤◌}
use native.Mathlib.Nat.{not-suc-le-zero, le_of_suc-le-suc}
use native.Mathlib.Omega.{arith}
use mathlib.Core.Bool.{Bool, true, false, cond}
use mathlib.Core.List.{List, [], ◌∷◌}
use Rattle.std.specs.Prelude.{None}
use mathlib.Core.Path.{◌≡◌, refl, sym, ap, ◌∙◌}
use borrow.Author.Tests.{eq-eqb, ne_eqb}
use lib.ListN.{length, get_or}
use Rattle.rules.specs.Store.{owner_exists}
use Rattle.rules.specs.declared.types.Attribute.{Attribute}
use Rattle.rules.specs.declared.types.Owner.{Owner}
use Rattle.rules.specs.declared.types.Owner.TheVariants.{Op as of_op, Block as of_block}
use Rattle.rules.specs.Building.{set_attribute, attributes_of, has_key, tests, first_failed, accepted}
use Rattle.rules.specs.Marks.{build, replaces, max_remembered, can_remember}
use Rattle.rules.proofs.Basics.Tests.{impossible}
use Rattle.layout.specs.Columns.{Cols, buffer_length, column_size, columns}
use Rattle.layout.specs.Reading.{slots_of, attribute_at, attributes_from, store_in}
use Rattle.layout.specs.Soundness.{IsSound}
use Rattle.layout.specs.Owners.{count_column, owner_number, key_count}
use Rattle.layout.proofs.Ranges.{owner_read_lem}
use Rattle.layout.proofs.Tabulate.{length_tabulate, get_d_tabulate}
use Rattle.mutation.specs.Doing.{Performs}
use Rattle.mutation.specs.SetWrites.{slot_for, key_there, place_for, with_attribute}
use Rattle.mutation.specs.declared.attributes.AttributePlace.TheVariants as Places
use Rattle.mutation.proofs.KeySlot.{own, place, place_found, slot_found, there_within, there_key}
use Rattle.mutation.proofs.Owners.{reachable, attributes_read, key_test}
use Rattle.mutation.proofs.Placed.{attribute_done}
use Rattle.layout.specs.Journal.{Entry, attribute_was, key_was_none, attribute_or, entries_for}
use Rattle.layout.specs.MarkedReading.{entry_from, mark_count, entry_count, max_entries, marked_in, IsLent}
use Rattle.undo_log.specs.Entries.{words_of, entry_of}
use Rattle.undo_log.specs.declared.entries.Entry as words
use Rattle.undo_log.specs.MarkedCalls.{PerformsMarked}
use Rattle.undo_log.proofs.Lent.{lent_facts}
use Rattle.undo_log.specs.EntryWrites.{replaced_count, with_entry, attribute_entry, key_entry}
use Rattle.undo_log.proofs.Remembered.{entry_room, remembered_call}

-- ---- where an attribute goes

module _ (C : Cols) (w : Owner) (a : Attribute) where
  abbrev there : Bool
  there = key_there C w a.key

  abbrev s : ℕ
  s = slot_for C w a.key

  pub replaces_there : (slot : ℕ) → Places.Replaces slot ≡ place_for C w a.key → (there ≡ true) × (slot ≡ s)
  unfolding place_for
  replaces_there slot e = go there refl e
    where
      go : (t : Bool) → there ≡ t → Places.Replaces slot ≡ cond t (Places.Replaces s) (Places.Adds s) → (there ≡ true) × (slot ≡ s)
      go true q p = (q, cc)
      go false q p = impossible cc

  pub adds_new : (slot : ℕ) → Places.Adds slot ≡ place_for C w a.key → there ≡ false
  unfolding place_for
  adds_new slot e = go there refl e
    where
      go : (t : Bool) → there ≡ t → Places.Adds slot ≡ cond t (Places.Replaces s) (Places.Adds s) → there ≡ false
      go true q p = impossible cc
      go false q p = q

-- ---- the attribute of a key

or_at : (other : Attribute) (key : ℕ) (xs : List Attribute) (p : ℕ) (d : Attribute) → p < length xs → ((q : ℕ) → q < p → (get_or xs q d).key < key) → (get_or xs p d).key ≡ key
    → attribute_or other key xs ≡ get_or xs p d
unfolding attribute_or
or_at other key [] p d l below e = absurd (not-suc-le-zero l)
or_at other key (x ∷ xs) zero d l below e = rw (eq-eqb x.key key e)
or_at other key (x ∷ xs) (suc p) d l below e =
    let u : x.key < key = below 0 (omega arith) in
    rw (ne_eqb x.key key (λ z. omega arith)) (or_at other key xs p d (le_of_suc-le-suc l) (λ q m. below (suc q) (omega arith)) e)

own_key : (C : Cols) (w : Owner) (d : Attribute) (q : ℕ) → q < key_count C w → get_or (own C w) q d ≡ attribute_at C (slots_of w + q)
unfolding attributes_from
own_key C w d q l = get_d_tabulate (key_count C w) (λ (i : ℕ). attribute_at C (slots_of w + i)) q d l

slot_attribute : (C : Cols) (w : Owner) (other : Attribute) (key : ℕ) → key_there C w key ≡ true → attribute_or other key (own C w) ≡ attribute_at C (slot_for C w key)
unfolding attributes_from attribute_at
slot_attribute C w other key t =
    let p : ℕ = place C w key in
    let l : p < key_count C w = there_within C w key t in
    let found = place_found C w key in
    or_at other key (own C w) p other (omega (arith, length_tabulate (key_count C w) (λ (i : ℕ). attribute_at C (slots_of w + i))))
    (λ q m. omega (arith, found.below q m, ap (λ (x : Attribute). x.key) (own_key C w other q (omega arith))))
    (ap (λ (x : Attribute). x.key) (own_key C w other p l) ∙ there_key C w key t)
    ∙ own_key C w other p l
    ∙ ap (attribute_at C) (sym (slot_found C w key))

-- ---- what is remembered

module _ (b : List ℕ) (h : IsSound b) (w : Owner) (e : owner_exists (store_in b) w ≡ true) where
  pub owner_small : owner_number w < 512
  unfolding count_column owner_number
  owner_small = go w (reachable b h w e).number
    where
      go : (u : Owner) → owner_number u < column_size (count_column u) → owner_number u < 512
      go (of_op n) l = l
      go (of_block m) l = omega arith

  module _ (a : Attribute) where
    key_is : (t : Bool) → key_there (columns b) w a.key ≡ t → has_key a.key (attributes_of (store_in b) w) ≡ t
    key_is t k = key_test b h w e a.key ∙ k

    abbrev remembered : Bool → Attribute → List Entry
    remembered t x = cond t (attribute_was w x) (key_was_none w a.key) ∷ []

    pub key_replaced : (t : Bool) → key_there (columns b) w a.key ≡ t → replaces (store_in b) (set_attribute w a) ≡ t
    unfolding replaces
    key_replaced t k = key_is t k

    pub attribute_entry_lem : (slot : ℕ) → key_there (columns b) w a.key ≡ true → slot ≡ slot_for (columns b) w a.key
        → entry_of (attribute_entry (columns b) w slot) ∷ [] ≡ entries_for (store_in b) (set_attribute w a)
    unfolding entry_of words_of entry_from attribute_entry entries_for attribute_at
    attribute_entry_lem slot k q =
        let C = columns b in
        ap (λ (u : Owner). attribute_was u (attribute_at C slot) ∷ []) (owner_read_lem w)
        ∙ ap (λ (x : Attribute). remembered true x)
        (ap (attribute_at C) q ∙ sym (slot_attribute C w a a.key k) ∙ ap (attribute_or a a.key) (sym (attributes_read b h w e)))
        ∙ ap (λ (t : Bool). remembered t (attribute_or a a.key (attributes_of (store_in b) w))) (sym (key_is true k))

    pub key_entry_lem : key_there (columns b) w a.key ≡ false → entry_of (key_entry w a.key) ∷ [] ≡ entries_for (store_in b) (set_attribute w a)
    unfolding entry_of words_of entry_from key_entry entries_for
    key_entry_lem k =
        ap (λ (u : Owner). key_was_none u a.key ∷ []) (owner_read_lem w)
        ∙ ap (λ (t : Bool). remembered t (attribute_or a a.key (attributes_of (store_in b) w))) (sym (key_is false k))

-- ---- the call

module _ (b : List ℕ) (h : IsLent b) (w : Owner) (a : Attribute) (l : 0 < mark_count (columns b)) (clear : first_failed (tests (store_in b) (set_attribute w a)) ≡ None) (can : can_remember (marked_in b) (set_attribute w a) ≡ true)
    (e : words.Entry) (is : entry_of e ∷ [] ≡ entries_for (store_in b) (set_attribute w a)) (mid : List ℕ) (len : length mid ≡ length b) (q : columns mid ≡ with_attribute (columns b) w a) where
  did : Performs b mid (set_attribute w a) accepted
  did = attribute_done b (lent_facts b h).tables w a clear mid len q

  pub attribute_room_lem : (length mid ≡ buffer_length) × ((entry_count (columns mid) < max_entries) × (replaced_count (columns mid) ≤ max_remembered))
  attribute_room_lem = (len ∙ (lent_facts b h).tables.sized, entry_room b h (set_attribute w a) l clear can e is mid _ did)

  pub attribute_remembered : (exit : List ℕ) → length exit ≡ length mid → columns exit ≡ with_entry (columns mid) e → PerformsMarked b exit (build (set_attribute w a)) accepted
  attribute_remembered exit more written = remembered_call b h (set_attribute w a) l clear can e is mid _ did exit more written
