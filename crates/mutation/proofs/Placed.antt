-- What becomes of a set attribute, and what follows from it: the cause of a refusal, or that no test fails, that its slot can be written, and that what is
-- written there is what the call writes. Assumes nothing.
use Rattle.rules.specs.declared.types.Cause.{Cause}
use Prim.Native.Nat.{ℕ, ◌+◌, ◌<◌, ◌≤◌}
use native.Mathlib.Omega.{arith}
use mathlib.Core.Bool.{Bool, true, false, cond}
use mathlib.Core.List.{List}
use Rattle.std.specs.Prelude.{Option, None}
use mathlib.Core.Path.{◌≡◌, refl, sym, ap, subst, ◌∙◌}
use lib.ListN.{length}
use Rattle.rules.specs.Store.{owner_exists, max_own_keys, max_attribute_kind}
use Rattle.rules.specs.declared.types.Attribute.{Attribute}
use Rattle.rules.specs.declared.types.Owner.{Owner}
use Rattle.rules.specs.Building.{set_attribute, accepted, tests, first_failed, acceptance}
use Rattle.layout.specs.Columns.{Cols, columns, slot_count}
use Rattle.layout.specs.Reading.{slots_of, store_of, store_in}
use Rattle.layout.specs.Soundness.{IsSound}
use Rattle.layout.specs.Owners.{key_count}
use Rattle.layout.proofs.Laid.{Laid}
use Rattle.mutation.specs.declared.attributes.AttributePlace.{AttributePlace}
use Rattle.mutation.specs.declared.attributes.AttributePlace.TheVariants as Places
use Rattle.mutation.specs.SetWrites.{slot_for, key_there, place_for, replaced, added, with_attribute}
use Rattle.mutation.specs.Doing.{Behind, Performs}
use Rattle.mutation.proofs.Facts.{shaped, laid}
use Rattle.mutation.proofs.Doing.{did_work}
use Rattle.mutation.proofs.Owners.{reachable}
use Rattle.mutation.proofs.KeySlot.{slot_low, slot_among}
use Rattle.mutation.proofs.SetAttribute.{attribute_reads, attribute_behind, attribute_laid}
use Rattle.mutation.proofs.AttributeCauses.{kind_fits, owner_there, room_there}

abbrev failing : List ℕ → Owner → Attribute → Option Cause
failing b w a = first_failed (tests (store_in b) (set_attribute w a))

pub record Replacing (b : List ℕ) (w : Owner) (a : Attribute) (slot : ℕ) : Type 0 where
  pub clear : failing b w a ≡ None
  pub fits : a.kind ≤ max_attribute_kind
  pub reached : slot < slot_count
  pub written : replaced (columns b) slot a ≡ with_attribute (columns b) w a

pub record Adding (b : List ℕ) (w : Owner) (a : Attribute) (slot : ℕ) : Type 0 where
  pub clear : failing b w a ≡ None
  pub fits : a.kind ≤ max_attribute_kind
  pub owner : owner_exists (store_in b) w ≡ true
  pub low : slot ≤ slots_of w + key_count (columns b) w
  pub room : key_count (columns b) w < max_own_keys
  pub written : added (columns b) w slot a ≡ with_attribute (columns b) w a

unfoldable pub PlaceMeans : List ℕ → Owner → Attribute → AttributePlace → Type 0
PlaceMeans b w a (Places.Replaces slot) = Replacing b w a slot
PlaceMeans b w a (Places.Adds slot) = Adding b w a slot

module _ (b : List ℕ) (h : IsSound b) (w : Owner) (a : Attribute) (e : failing b w a ≡ None) where
  abbrev C : Cols
  C = columns b

  abbrev s : ℕ
  s = slot_for C w a.key

  told_by : (t : Bool) → key_there C w a.key ≡ t → PlaceMeans b w a (cond t (Places.Replaces s) (Places.Adds s))
  unfolding PlaceMeans with_attribute
  told_by true k =
      let r = reachable b h w (owner_there b h w a e) in
      record {
        clear = e;
        fits = kind_fits b h w a e;
        reached = omega (arith, slot_among C w a.key k);
        written = sym (ap (λ (t : Bool). cond t (replaced C s a) (added C w s a)) k);
      }
  told_by false k =
      record {
        clear = e;
        fits = kind_fits b h w a e;
        owner = owner_there b h w a e;
        low = slot_low C w a.key;
        room = omega (arith, (room_there b h w a e k).0);
        written = sym (ap (λ (t : Bool). cond t (replaced C s a) (added C w s a)) k);
      }

  pub told : (p : AttributePlace) → p ≡ place_for C w a.key → PlaceMeans b w a p
  unfolding place_for
  told p q = subst (PlaceMeans b w a) (sym q) (told_by (key_there C w a.key) refl)

  -- and where it is written, the call is done
  pub attribute_done : (exit : List ℕ) → length exit ≡ length b → columns exit ≡ with_attribute C w a → Performs b exit (set_attribute w a) accepted
  unfolding acceptance
  attribute_done exit len q =
      let l = (reachable b h w (owner_there b h w a e)).within in
      let fits = kind_fits b h w a e in
      let room = room_there b h w a e in
      did_work b h (set_attribute w a) _ exit e len
      (ap store_of q ∙ attribute_reads C w a (shaped b h) (laid b h) l fits room)
      (subst Laid (sym q) (attribute_laid C w a (shaped b h) (laid b h) l fits room))
      (subst (Behind C) (sym q) (attribute_behind C w a (shaped b h) (laid b h) l fits room))
      refl
