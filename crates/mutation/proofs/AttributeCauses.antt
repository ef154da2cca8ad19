-- Where a set attribute goes, read off the columns of a sound buffer: the first test that fails gives the cause of a refusal, and where none does there is room. Assumes nothing.
use Rattle.rules.specs.declared.types.Cause.TheVariants.{NotThere, UnknownKind, StoreFull, OwnerFull}
use Rattle.rules.specs.declared.types.Cause.{Cause}
use Prim.Native.Nat.{ℕ, ◌+◌, ◌<◌, ◌≤◌}
use native.Mathlib.Omega.{arith}
use mathlib.Core.Bool.{Bool, true, false, cond, ◌||◌}
use mathlib.Core.List.{List}
use Rattle.std.specs.Prelude.{Option, None, Some}
use mathlib.Core.Path.{◌≡◌, subst, ◌∙◌}
use borrow.Author.Tests.{leb-true, lt-leb, le-leb}
use lib.Dec.{leb}
use lib.ListN.{length}
use Rattle.rules.specs.Store.{owner_exists, attribute_total, max_own_keys, max_attributes, max_attribute_kind}
use Rattle.rules.specs.declared.types.Attribute.{Attribute}
use Rattle.rules.specs.declared.types.Owner.{Owner}
use Rattle.rules.specs.Building.{set_attribute, attributes_of, has_key, tests, first_failed}
use Rattle.rules.proofs.Soundness.Accepted.{first_failed_none}
use Rattle.layout.specs.Columns.{columns}
use Rattle.layout.specs.Reading.{attribute_count, store_in}
use Rattle.layout.specs.Soundness.{IsSound}
use Rattle.layout.specs.Owners.{key_count}
use Rattle.mutation.specs.SetWrites.{key_there}
use Rattle.mutation.proofs.Facts.{attributes_counted}
use Rattle.mutation.proofs.Owners.{key_test, keys_counted}
use Rattle.mutation.proofs.SetAttribute.{KeyRoom}

module _ (b : List ℕ) (h : IsSound b) (w : Owner) (a : Attribute) where
  abbrev failing : Option Cause
  failing = first_failed (tests (store_in b) (set_attribute w a))

  abbrev there : Bool
  there = key_there (columns b) w a.key

  pub kind_over : max_attribute_kind < a.kind → failing ≡ Some UnknownKind
  unfolding tests first_failed
  kind_over l = simp (lt-leb _ _ l)

  pub no_owner : a.kind ≤ max_attribute_kind → owner_exists (store_in b) w ≡ false → failing ≡ Some NotThere
  unfolding tests first_failed
  no_owner l e = simp (le-leb _ _ l, e)

  module _ (l : a.kind ≤ max_attribute_kind) (e : owner_exists (store_in b) w ≡ true) where
    -- the tests of room, over the columns
    room_tests : (t : Bool) → there ≡ t → failing ≡ cond (t || leb (key_count (columns b) w + 1) max_own_keys) (cond (t || leb (attribute_count (columns b) + 1) max_attributes) None (Some StoreFull)) (Some OwnerFull)
    unfolding tests first_failed
    room_tests t q = simp (le-leb _ _ l, e, key_test b h w e a.key, q, keys_counted b h w e, attributes_counted b h)

    pub key_set : there ≡ true → failing ≡ None
    key_set = room_tests true

    module _ (t : there ≡ false) where
      pub many_keys : max_own_keys ≤ key_count (columns b) w → failing ≡ Some OwnerFull
      many_keys m = room_tests false t ∙ simp (lt-leb (key_count (columns b) w + 1) max_own_keys (omega arith))

      module _ (m : key_count (columns b) w < max_own_keys) where
        total_test : failing ≡ cond (leb (attribute_count (columns b) + 1) max_attributes) None (Some StoreFull)
        total_test = room_tests false t ∙ simp (le-leb (key_count (columns b) w + 1) max_own_keys (omega arith))

        pub many_attributes : max_attributes ≤ attribute_count (columns b) → failing ≡ Some StoreFull
        many_attributes n = total_test ∙ simp (lt-leb (attribute_count (columns b) + 1) max_attributes (omega arith))

        pub room_left : attribute_count (columns b) < max_attributes → failing ≡ None
        room_left n = total_test ∙ simp (le-leb (attribute_count (columns b) + 1) max_attributes (omega arith))

  -- ---- and where all pass

  module _ (e : failing ≡ None) where
    pub kind_fits : a.kind ≤ max_attribute_kind
    unfolding tests
    kind_fits = leb-true a.kind max_attribute_kind (first_failed_none _ e).0

    pub owner_there : owner_exists (store_in b) w ≡ true
    unfolding tests
    owner_there = (first_failed_none _ e).1.0

    passed_new : there ≡ false → (test : Bool) → (has_key a.key (attributes_of (store_in b) w) || test) ≡ true → test ≡ true
    passed_new t test p = subst (λ (x : Bool). (x || test) ≡ true) (key_test b h w owner_there a.key ∙ t) p

    pub room_there : KeyRoom (columns b) w a.key
    unfolding tests
    room_there t =
        let p = (first_failed_none (tests (store_in b) (set_attribute w a)) e).1.1 in (
          omega (arith, leb-true (length (attributes_of (store_in b) w) + 1) max_own_keys (passed_new t _ p.0), keys_counted b h w owner_there),
          omega (arith, leb-true (attribute_total (store_in b) + 1) max_attributes (passed_new t (leb (attribute_total (store_in b) + 1) max_attributes) p.1.0), attributes_counted b h),
        )
