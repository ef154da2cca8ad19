-- Lent buffers, emptied: a store whose counts are all 0 is sound and reads as the empty one, whatever its other words; a mapping is
-- written over from its first word to its last. Assumes nothing.
use Prim.Native.Nat.{ℕ, ◌+◌, ◌<◌, ◌≤◌}
use native.Mathlib.Omega.{arith}
use mathlib.Core.Bool.{true}
use mathlib.Core.List.{List, ◌++◌, append-nil}
use mathlib.Core.Path.{◌≡◌, sym, ap, subst, ◌∙◌}
use lib.ListN.{length, drop, replicate, length-replicate, get_or-replicate, get_or-append, drop_of_length-le}
use Rattle.rules.specs.Store.{Store, empty_store, sound}
use Rattle.rules.specs.Mapping.{no_image}
use Rattle.rules.proofs.Soundness.Kept.{empty_sound}
use Rattle.layout.specs.Columns.{Cols, columns, counts, at, write_range, pasted, buffer_length}
use Rattle.layout.specs.Reading.{store_in}
use Rattle.layout.specs.Soundness.{IsSound}
use Rattle.layout.proofs.Laid.{laid_of}
use Rattle.layout.proofs.Empty.{empty_reads, empty_laid}
use Rattle.layout.specs.MarkedReading.{mark_count}
use Rattle.equivalence.specs.MappingWords.{mapping_length, empty_words}
use Rattle.listing.specs.Stepping.{Bare}

-- ---- the store

cleared : (C : Cols) (i : ℕ) → i < 8 → at (write_range C counts 0 (replicate 8 0)) counts i ≡ 0
unfolding at write_range
cleared C i h = get_or-append (replicate 8 0) (drop 8 (C counts)) 0 i h ∙ get_or-replicate 8 i 0 0 h

module _ (b after : List ℕ) (long : length after ≡ buffer_length) (e : columns after ≡ write_range (columns b) counts 0 (replicate 8 0)) where
  no_counts_lem : (i : ℕ) → i < 8 → at (columns after) counts i ≡ 0
  no_counts_lem i h = ap (λ (C : Cols). at C counts i) e ∙ cleared (columns b) i h

  pub store_empty : store_in after ≡ empty_store
  store_empty = empty_reads (columns after) no_counts_lem

  store_sound : IsSound after
  store_sound =
      record {
        sized = long;
        laid = laid_of (columns after) (empty_laid (columns after) no_counts_lem);
        ruled = subst (λ (s : Store). sound s ≡ true) (sym store_empty) empty_sound;
      }

  pub store_bare : Bare after
  unfolding mark_count
  store_bare = record { sound = store_sound; unmarked = no_counts_lem 7 (omega arith) }

-- ---- the mapping

-- as many words as there are, written over them all
over_all : (l vs : List ℕ) → length l ≡ length vs → pasted l 0 vs ≡ vs
over_all l vs e =
    let past : length l ≤ 0 + length vs = omega arith in
    ap (λ (xs : List ℕ). vs ++ xs) (drop_of_length-le l past) ∙ append-nil vs

pub mapping_empty : (l : List ℕ) → length l ≡ mapping_length → pasted l 0 (replicate 2816 no_image) ≡ empty_words
unfolding empty_words
mapping_empty l e = over_all l (replicate 2816 no_image) (e ∙ sym (length-replicate 2816 no_image))

pub empty_length : length empty_words ≡ mapping_length
unfolding empty_words
empty_length = length-replicate mapping_length no_image
