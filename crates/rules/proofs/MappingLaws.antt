-- Order 10: the laws of the mapping that an equal comparison leaves. Its entries are the two orders of definition, side by side, and each
-- fragment defines each number once; what must be equal besides is so by demand 3. Assumes nothing.
use Prim.Native.Nat.{ℕ, ◌≤◌}
use mathlib.Core.Bool.{true}
use mathlib.Core.List.{List}
use mathlib.Core.Path.{◌≡◌}
use lib.Dec.{lit≤}
use lib.ListN.{length, get_or}
use Rattle.rules.specs.Store.{Store, empty_store, sound, max_values, max_blocks, max_ops}
use Rattle.rules.specs.declared.types.Sort.{Sort}
use Rattle.rules.specs.Building.{after}
use Rattle.rules.specs.declared.types.Ignore.{Ignore}
use Rattle.rules.specs.Mapping.{no_image, empty_mapping, enter_all}
use Rattle.rules.specs.Laws.{Equal, In, LawsOfSound}
use Rattle.rules.specs.MappingLaws.{filed, Table, values, blocks, ops, table_of, defines_of, Bijection, Backwards, Followed, SideBySide, MappingLawsApart, MappingLawsOfSound, MappingLawsAfter}
use Rattle.rules.proofs.Basics.Entries.{none_at}
use Rattle.rules.proofs.Soundness.Sound.{facts}
use Rattle.rules.proofs.Soundness.Kept.{empty_sound, after_sound}
use Rattle.rules.proofs.Form.Images.{Once}
use Rattle.rules.proofs.Form.Once.{values_once_lem, values_here, blocks_once_lem, blocks_here, ops_once, ops_here}
use Rattle.rules.proofs.Form.Canonical.{empty_table, within}
use Rattle.rules.proofs.Form.SideBySide.{side_by_side}
use Rattle.rules.proofs.Form.Beside.{bijection, reads_backwards, one_follows}
use Rattle.rules.proofs.Laws.{laws_of_sound}

-- ---- the empty mapping's tables

abbrev E : Table → List ℕ
E t = table_of empty_mapping t

none_in : (t : Table) (v : ℕ) → get_or (E t) v no_image ≡ no_image
unfolding table_of empty_mapping
none_in values = none_at max_values
none_in blocks = none_at max_blocks
none_in ops = none_at max_ops

small : (t : Table) → length (E t) ≤ no_image
unfolding table_of empty_mapping
small values = (empty_table max_values (lit≤ tt)).small
small blocks = (empty_table max_blocks (lit≤ tt)).small
small ops = (empty_table max_ops (lit≤ tt)).small

module _ (s : Store) (sd : sound s ≡ true) (f : Sort) where
  -- what a fragment defines: each number once, and a number of its table
  listed : (t : Table) (n : ℕ) → In s f n → Once (length (E t)) (defines_of s f n t)
  unfolding table_of empty_mapping defines_of
  listed values n h = let so = facts s sd in within max_values (length s.values) (defines_of s f n values) so.totals.values (values_once_lem s so f n h) (values_here s so f n)
  listed blocks n h = let so = facts s sd in within max_blocks (length s.blocks) (defines_of s f n blocks) so.totals.blocks (blocks_once_lem s so f n h) (blocks_here s so f n h)
  listed ops n h = let so = facts s sd in within max_ops (length s.ops) (defines_of s f n ops) so.totals.ops (ops_once s so f n h) (ops_here s so f n h)

  module _ (ig : Ignore) where
    beside : (a b : ℕ) → In s f a → In s f b → Equal s ig f a b → (t : Table)
        → (table_of (filed s ig f a b) t ≡ enter_all (defines_of s f a t) (defines_of s f b t) (E t)) × (length (defines_of s f a t) ≡ length (defines_of s f b t))
    unfolding SideBySide
    beside = side_by_side s sd ig f

    bijective : (a b : ℕ) → In s f a → In s f b → Equal s ig f a b
        → (t : Table) → Bijection (table_of (filed s ig f a b) t) (defines_of s f a t) (defines_of s f b t)
    bijective a b ia ib e t =
        let ab = beside a b ia ib e t in
        rw ab.0 (bijection (E t) (none_in t) (small t) (defines_of s f a t) (defines_of s f b t) (listed t a ia) (listed t b ib) ab.1)

    apart : MappingLawsApart s ig f
    unfolding Backwards Followed
    apart =
        record {
          backwards = λ a b ia ib e g t l r.
              let ab = beside a b ia ib e t in
              let ba = beside b a ib ia g t in
              rw (ab.0, ba.0)
              (reads_backwards (E t) (none_in t) (small t) (defines_of s f a t) (defines_of s f b t) (listed t a ia) (listed t b ib) ab.1 l r);
          followed = λ a b c ia ib ic e g h t l r.
              let ab = beside a b ia ib e t in
              let bc = beside b c ib ic g t in
              let ac = beside a c ia ic h t in
              rw (ab.0, bc.0, ac.0)
              (one_follows (E t) (none_in t) (small t) (defines_of s f a t) (defines_of s f b t) (defines_of s f c t)
              (listed t a ia) (listed t b ib) (listed t c ic) ab.1 bc.1 l r);
        }

pub mapping_laws_of_sound : MappingLawsOfSound
unfolding MappingLawsOfSound LawsOfSound
mapping_laws_of_sound s sd ig f =
    let laws = laws_of_sound s sd ig f in
    let without = apart s sd f ig in (
      record {
        bijective = bijective s sd f ig;
        backwards = λ a b ia ib p e. without.backwards a b ia ib e (laws.symmetric a b ia ib p e);
        followed = λ a b c ia ib ic p q e g. without.followed a b c ia ib ic e g (laws.transitive a b c ia ib ic p q e g);
      },
      without,
    )

pub mapping_laws_after : MappingLawsAfter
unfolding MappingLawsAfter MappingLawsOfSound
mapping_laws_after calls ig f = (mapping_laws_of_sound (after empty_store calls) (after_sound empty_store calls empty_sound) ig f).0
