-- The offered call: it refuses a buffer that isn't sound, then a mapping that isn't allowed, and else does what the call on a lent buffer does.
-- Assumes nothing.
use Rattle.rules.specs.declared.types.Cause.TheVariants.{BadMapping, NotSound}
use Prim.Native.Nat.{ℕ}
use mathlib.Core.Bool.{Bool, true, false}
use mathlib.Core.List.{List}
use Rattle.std.specs.Prelude.{Option}
use mathlib.Core.Path.{◌≡◌, refl, sym, subst}
use Rattle.rules.specs.Marks.{copy}
use Rattle.rules.specs.Mapping.{allowed}
use Rattle.layout.specs.Reading.{store_in}
use Rattle.layout.specs.MarkedReading.{sound_lent}
use Rattle.rules.specs.Building.{Built, refused}
use Rattle.equivalence.specs.MappingWords.{mapping_of}
use Rattle.undo_log.specs.MarkedCalls.{PerformsMarked}
use Rattle.api.proofs.BuildingAnswers.{turned_down, taken_up}
use Rattle.copying.specs.Cloned.{Cloned}
use Rattle.api.specs.Copies.{CopyAnswers}
use Rattle.copying.proofs.Deciding.{unmapped, refused_mapping}

module _ (b : List ℕ) where
  pub unsound : (m : List ℕ) (n : ℕ) (place : Option ℕ) → sound_lent b ≡ false → CopyAnswers b b m m n place (refused NotSound)
  unsound m n place h =
      record { store = turned_down b (copy (allowed (store_in b) (mapping_of m)) n place) (refused NotSound) h refl; mapping = unmapped b m n NotSound }

  module _ (h : sound_lent b ≡ true) (m : List ℕ) (n : ℕ) (place : Option ℕ) where
    answered : (ok : Bool) → allowed (store_in b) (mapping_of m) ≡ ok → (exit after : List ℕ) (r : Built) → Cloned ok b exit m after n place r
        → CopyAnswers b exit m after n place r
    answered ok e exit after r did =
        record {
          store = taken_up b (copy (allowed (store_in b) (mapping_of m)) n place) r exit h (subst (λ (t : Bool). PerformsMarked b exit (copy t n place) r) (sym e) did.did);
          mapping = did.mapping;
        }

    pub not_allowed_lem : allowed (store_in b) (mapping_of m) ≡ false → CopyAnswers b b m m n place (refused BadMapping)
    not_allowed_lem e = answered false e b m (refused BadMapping) (refused_mapping b h m n place)

    pub done : allowed (store_in b) (mapping_of m) ≡ true → (exit after : List ℕ) (r : Built) → Cloned true b exit m after n place r
        → CopyAnswers b exit m after n place r
    done = answered true

-- the call takes the buffer's words and the mapping's
module _ {b w : List ℕ} (same : w ≡ b) where
  pub same_store : {exit m after : List ℕ} {n : ℕ} {place : Option ℕ} {r : Built} → CopyAnswers w exit m after n place r → CopyAnswers b exit m after n place r
  same_store {exit} {m} {after} {n} {place} {r} h = subst (λ (x : List ℕ). CopyAnswers x exit m after n place r) same h

module _ {m e : List ℕ} (same : e ≡ m) where
  pub same_mapping : {b exit after : List ℕ} {n : ℕ} {place : Option ℕ} {r : Built} → CopyAnswers b exit e after n place r → CopyAnswers b exit m after n place r
  same_mapping {b} {exit} {after} {n} {place} {r} h = subst (λ (x : List ℕ). CopyAnswers b exit x after n place r) same h
