-- The laws of copies, as `specs/CopyLaws` has them: original and copy satisfy the premise and are equal, the mapping is the copier's, and a copy with an
-- early name renamed would not be equal. Assumes nothing.
use Prim.Native.Nat.{ℕ}
use mathlib.Core.Bool.{true, false, ◌&&◌}
use mathlib.Core.List.{List, map}
use mathlib.Core.Logic.{◌⊎◌, inl, inr}
use Rattle.std.specs.Prelude.{Option}
use mathlib.Core.Path.{◌≡◌, sym, ap, subst, ◌∙◌}
use borrow.Author.Tests.{ltb-true, lt-ltb}
use native.Mathlib.Omega.{arith}
use lib.ListN.{length}
use Rattle.std.specs.List.{flat_map}
use Rattle.rules.specs.Store.{Store, regions_of, values_of, op_exists, parent_exists, sound, totals_hold}
use Rattle.rules.specs.Fragments.{exists, steps, op_owner, block_owner, defines_owners, defines_blocks, defines_values, fragment_ops}
use Rattle.rules.specs.declared.types.Sort.TheVariants.{Op as op}
use Rattle.rules.specs.declared.types.Ignore.{Ignore}
use Rattle.rules.specs.Types.{renamed}
use Rattle.rules.specs.Hash.{no_numbers, hash}
use Rattle.rules.specs.Keys.{key}
use Rattle.rules.specs.Mapping.{empty_mapping, enter_all}
use Rattle.rules.specs.Laws.{equal, Equal, In}
use Rattle.rules.specs.MappingLaws.{filed, values, blocks, ops, table_of, defines_of, SideBySide}
use Rattle.rules.specs.TypeLaws.{RenamedSound}
use Rattle.rules.specs.Entering.{Entered, entered, rights, EnteredInOrder}
use Rattle.rules.specs.Copying.{copied_regions, op_copy, block_copy, region_copy, value_copy, copied, copy_mapping, placed_outside, in_time, copy_nests, copy_tests}
use Rattle.rules.specs.CopyLaws.{CopyEqual, CopyAlike, CopyFiled, NumberedInOrder, CopyOrder, CopyPremise, EarlyUnequal}
use Rattle.rules.proofs.Basics.Tests.{and_left, and_right, clash, decided}
use Rattle.rules.proofs.Soundness.Sound.{Sound, facts}
use Rattle.rules.proofs.Soundness.Accepted.{first_failed_none}
use Rattle.rules.proofs.RenamedTypes.Renamed.{exists_renamed}
use Rattle.rules.proofs.RenamedTypes.Under as under
use Rattle.rules.proofs.Form.Canonical.{canonical→equal, equal→canonical, canonical→hash}
use Rattle.rules.proofs.Form.SideBySide.{side_by_side}
use Rattle.rules.proofs.Keys.Writing.{canonical→key}
use Rattle.rules.proofs.Basics.Distinct.{concat_map_same}
use Rattle.rules.proofs.Entering.{entered_in_order}
use Rattle.rules.proofs.Copying.Inside.{ops_distinct, blocks_distinct, values_distinct, copied_distinct}
use Rattle.rules.proofs.Copying.Renumbered.{consecutive}
use Rattle.rules.proofs.Copying.Walked.{concat_map_map, map_concat_map}
use Rattle.rules.proofs.Copying.Tables.{ops_length}
use Rattle.rules.proofs.Copying.Kept.{op_copied, sound_exactly}
use Rattle.rules.proofs.Copying.Twin.{root_copy, ops_stay, blocks_stay, values_stay, ops_copied, blocks_copied, values_copied, copy_moved, names_forth, premise, one_form, form_in_time}

module _ (s : Store) (h : sound s ≡ true) (n : ℕ) (place : Option ℕ) (e : (op_exists s n && parent_exists s place) ≡ true) (out : placed_outside s n place ≡ true)
    (nests : copy_nests s n place ≡ true) (totals : totals_hold (copied s n place) ≡ true) where
  abbrev with : Store
  with = copied s n place

  abbrev copy : ℕ
  copy = length s.ops

  sd : Sound s
  sd = facts s h

  ex : op_exists s n ≡ true
  ex = and_left _ _ e

  pe : parent_exists s place ≡ true
  pe = and_right (op_exists s n) _ e

  with_sound : sound with ≡ true
  with_sound = (sound_exactly s sd n ex place pe).0 (nests, totals)

  original_in : In with op n
  unfolding exists op_exists
  original_in = lt-ltb n (length with.ops) (omega (arith, ltb-true n (length s.ops) ex, ops_length s n place))

  copy_in : In with op copy
  unfolding exists op_exists
  copy_in = subst (λ (m : ℕ). op_exists with m ≡ true) (root_copy s sd n ex place pe) (op_copied s sd n ex place pe n (ltb-true _ _ ex))

  module _ (types : List ℕ) where
    abbrev under_types : Store
    under_types = renamed types with

    renamed_sound : sound under_types ≡ true
    unfolding RenamedSound
    renamed_sound = under.renamed_sound types with with_sound

    original_under : In under_types op n
    original_under = exists_renamed types with op n ∙ original_in

    copy_under : In under_types op copy
    copy_under = exists_renamed types with op copy ∙ copy_in

    twins : in_time s n (steps s op n) no_numbers ≡ true → (ig : Ignore) → Equal under_types ig op n copy
    twins early ig = canonical→equal under_types renamed_sound ig op n copy original_under copy_under (one_form s sd n ex place pe out early types ig)

    -- so the copy equals the original too, and they have one hash and one key
    alike : in_time s n (steps s op n) no_numbers ≡ true → (ig : Ignore)
        → Equal under_types ig op copy n × (hash under_types ig op n ≡ hash under_types ig op copy) × (key under_types ig op n ≡ key under_types ig op copy)
    alike early ig =
        let e = one_form s sd n ex place pe out early types ig in
        (canonical→equal under_types renamed_sound ig op copy n copy_under original_under (sym e), canonical→hash under_types ig op n copy e, canonical→key under_types ig op n copy e)

    -- each table is what the original defines and what the copy does, side by side
    filed_is : (ig : Ignore) → Equal under_types ig op n copy → filed under_types ig op n copy ≡ copy_mapping s n
    unfolding copy_mapping table_of defines_of SideBySide fragment_ops
    filed_is ig eq = λ i. record { values = in_values i; blocks = in_blocks_lem i; ops = in_ops i }
      where
        in_values : (filed under_types ig op n copy).values ≡ enter_all (defines_values s op n) (map (value_copy s n) (defines_values s op n)) empty_mapping.values
        in_values =
            (side_by_side under_types renamed_sound ig op n copy original_under copy_under eq values).0
            ∙ λ i. enter_all ((under.values types with op n ∙ values_stay s sd n ex place pe out) i) ((under.values types with op copy ∙ values_copied s sd n ex place pe out) i) empty_mapping.values

        in_blocks_lem : (filed under_types ig op n copy).blocks ≡ enter_all (defines_blocks s op n) (map (block_copy s n) (defines_blocks s op n)) empty_mapping.blocks
        in_blocks_lem =
            (side_by_side under_types renamed_sound ig op n copy original_under copy_under eq blocks).0
            ∙ λ i. enter_all ((under.blocks types with op n ∙ blocks_stay s sd n ex place pe out) i) ((under.blocks types with op copy ∙ blocks_copied s sd n ex place pe out) i) empty_mapping.blocks

        in_ops : (filed under_types ig op n copy).ops ≡ enter_all (fragment_ops s op n) (map (op_copy s n) (fragment_ops s op n)) empty_mapping.ops
        in_ops =
            (side_by_side under_types renamed_sound ig op n copy original_under copy_under eq ops).0
            ∙ λ i. enter_all ((ap (flat_map op_owner) (under.owners types with op n) ∙ ops_stay s sd n ex place pe out) i)
            ((ap (flat_map op_owner) (under.owners types with op copy) ∙ ops_copied s sd n ex place pe out) i) empty_mapping.ops

  -- ---- the order of the numbers

  module _ (types : List ℕ) (ig : Ignore) (eq : Equal (renamed types with) ig op n copy) where
    pairs : List Entered
    pairs = entered (renamed types with) ig op n copy empty_mapping

    on_right : rights pairs ≡ defines_owners with op copy
    unfolding pairs EnteredInOrder equal
    on_right = (entered_in_order (renamed types with) ig op n copy empty_mapping eq).1 ∙ under.owners types with op copy

    ops_on_right : flat_map op_owner (rights pairs) ≡ map (op_copy s n) (fragment_ops s op n)
    unfolding fragment_ops
    ops_on_right = ap (flat_map op_owner) on_right ∙ ops_copied s sd n ex place pe out

    regions_of_copies : flat_map (regions_of with) (map (op_copy s n) (fragment_ops s op n)) ≡ map (region_copy s n) (copied_regions s n)
    unfolding copied_regions
    regions_of_copies =
        concat_map_map (regions_of with) (op_copy s n) (fragment_ops s op n)
        ∙ concat_map_same _ _ (fragment_ops s op n) (copy_moved s sd n ex place pe).regions
        ∙ sym (map_concat_map (region_copy s n) (regions_of s) (fragment_ops s op n))

    in_order : NumberedInOrder s with pairs
    unfolding op_copy block_copy value_copy region_copy defines_blocks defines_values copied_regions
    in_order =
        record {
          ops = rw ops_on_right (consecutive (fragment_ops s op n) (length s.ops) (ops_distinct s sd n ex));
          regions =
              rw (ops_on_right, regions_of_copies)
              (consecutive (copied_regions s n) (length s.regions) (copied_distinct s sd n ex));
          blocks =
              rw (ap (flat_map block_owner) on_right ∙ blocks_copied s sd n ex place pe out)
              (consecutive (defines_blocks s op n) (length s.blocks) (blocks_distinct s sd n ex));
          values =
              rw (ap (flat_map (values_of with)) on_right ∙ values_copied s sd n ex place pe out)
              (consecutive (defines_values s op n) (length s.values) (values_distinct s sd n ex));
        }

  -- ---- an early name

  early : (ig : Ignore) → Equal with ig op n copy → in_time s n (steps s op n) no_numbers ≡ true
  early ig eq =
      form_in_time s sd n ex place pe out ig (equal→canonical with with_sound ig op n copy original_in copy_in (inr (names_forth s sd n ex place pe out)) eq)

-- ---- as stated

pub copy_equal : CopyEqual
unfolding CopyEqual copy_tests
copy_equal s h n place c types ig =
    let p = first_failed_none _ c in
    twins s h n place p.0 p.1.0 p.1.1.1.0 p.1.1.1.1.0 types p.1.1.0 ig

pub copy_alike : CopyAlike
unfolding CopyAlike copy_tests
copy_alike s h n place c types ig =
    let p = first_failed_none _ c in
    alike s h n place p.0 p.1.0 p.1.1.1.0 p.1.1.1.1.0 types p.1.1.0 ig

pub copy_filed : CopyFiled
unfolding CopyFiled CopyEqual copy_tests
copy_filed s h n place c types ig =
    let p = first_failed_none _ c in
    filed_is s h n place p.0 p.1.0 p.1.1.1.0 p.1.1.1.1.0 types ig (copy_equal s h n place c types ig)

pub copy_order : CopyOrder
unfolding CopyOrder CopyEqual copy_tests pairs
copy_order s h n place c types ig =
    let p = first_failed_none _ c in
    in_order s h n place p.0 p.1.0 p.1.1.1.0 p.1.1.1.1.0 types ig (copy_equal s h n place c types ig)

pub copy_premise : CopyPremise
unfolding CopyPremise copy_tests
copy_premise s h n place c =
    let p = first_failed_none _ c in
    premise s (facts s h) n (and_left _ _ p.0) place (and_right (op_exists s n) _ p.0) p.1.0

pub early_unequal : EarlyUnequal
unfolding EarlyUnequal
early_unequal s h n place e out nests totals late ig = go (decided (equal (copied s n place) ig op n (length s.ops)))
  where
    go : (equal (copied s n place) ig op n (length s.ops) ≡ true) ⊎ (equal (copied s n place) ig op n (length s.ops) ≡ false)
        → equal (copied s n place) ig op n (length s.ops) ≡ false
    go (inl eq) = clash (early s h n place e out nests totals ig eq) late
    go (inr ne) = ne
