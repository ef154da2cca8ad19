-- The laws of extents: what is reserved by them is filled exactly, since types change no length; each number is one that a sound store
-- bounds; and a fragment that exists passes every test. Assumes nothing.
use Prim.Native.Nat.{ℕ, zero, suc}
use mathlib.Core.Bool.{true}
use mathlib.Core.List.{List, append-nil}
use Rattle.std.specs.Prelude.{None}
use mathlib.Core.Path.{◌≡◌, refl, sym, ◌∙◌}
use native.Mathlib.Nat.{le_of_eq}
use lib.ListN.{length}
use lib.Seq.{drop-length}
use Rattle.rules.specs.Store.{Store, max_nesting, ops_of, blocks_of, regions_of}
use Rattle.rules.specs.Fragments.{ops_in_blocks, ops_inside, outermost}
use Rattle.rules.specs.declared.types.Sort.{Sort}
use Rattle.rules.specs.declared.types.Sort.TheVariants.{Op as op, Block as block, Region as region}
use Rattle.rules.specs.Building.{first_failed}
use Rattle.rules.specs.Types.{renamed}
use Rattle.rules.specs.Keys.{key, key_length, written}
use Rattle.rules.specs.KeyLaws.{KeyedIs, KeyLongest}
use Rattle.rules.specs.Extents.{deepest, op_nesting, deepest_nesting, extent, extent_tests, sized_by, sized}
use Rattle.rules.specs.ExtentLaws.{ExtentFills, ExtentRenamed, ExtentMost, SizedIs}
use Rattle.rules.proofs.Soundness.Accepted.{all_passed}
use Rattle.rules.proofs.Form.Counted.{size_most, values_most, blocks_most}
use Rattle.rules.proofs.Keys.Longest.{key_longest}
use Rattle.rules.proofs.Keys.Given.{keyed_is}
use Rattle.rules.proofs.RenamedTypes.Under as under
use Rattle.rules.proofs.Extents.Nesting.{nesting_most}
use Rattle.rules.proofs.Extents.Lengths.{key_length_renamed}

-- ---- under a list of types

module _ (types : List ℕ) (s : Store) where
  op_nesting_renamed : (k n : ℕ) → op_nesting k (renamed types s) n ≡ op_nesting k s n
  unfolding op_nesting renamed ops_inside ops_in_blocks ops_of blocks_of regions_of
  op_nesting_renamed zero n = refl
  op_nesting_renamed (suc k) n = λ i. deepest (λ (m : ℕ). suc (op_nesting_renamed k m i)) (ops_inside s n)

  outermost_renamed : (f : Sort) (n : ℕ) → outermost (renamed types s) f n ≡ outermost s f n
  unfolding outermost renamed ops_in_blocks ops_of blocks_of
  outermost_renamed op n = refl
  outermost_renamed block n = refl
  outermost_renamed region n = refl

  nesting_renamed : (f : Sort) (n : ℕ) → deepest_nesting (renamed types s) f n ≡ deepest_nesting s f n
  unfolding deepest_nesting
  nesting_renamed f n = λ i. deepest (λ (m : ℕ). op_nesting_renamed max_nesting m i) (outermost_renamed f n i)

pub extent_renamed : ExtentRenamed
unfolding ExtentRenamed extent
extent_renamed s types ig f n = λ i.
    record {
      bytes = key_length_renamed types s ig f n i;
      values = length (under.values types s f n i);
      blocks = length (under.blocks types s f n i);
      ops = length (under.ops types s f n i);
      nesting = nesting_renamed types s f n i;
    }

-- ---- the key

-- bytes as many as are lent leave none behind them
all_written : (k lent : List ℕ) → length k ≡ length lent → written k lent ≡ k
unfolding written
all_written k lent e = rw (e, drop-length lent) (append-nil k)

pub extent_fills : ExtentFills
unfolding ExtentFills KeyedIs extent
extent_fills s sd types th ig f n h bytes e =
    let l : length (key (renamed types s) ig f n) ≡ length bytes = key_length_renamed types s ig f n ∙ sym e in
    keyed_is s sd types th ig f n bytes h (le_of_eq l)
    ∙ (λ i. record { answer = key_length (l i); bytes = all_written (key (renamed types s) ig f n) bytes l i })

-- ---- the most of each

pub extent_most : ExtentMost
unfolding ExtentMost KeyLongest extent
extent_most s sd ig f n h =
    (key_longest s sd ig f n h, values_most s sd f n h, blocks_most s sd f n h, size_most s sd f n h, nesting_most s f n)

-- ---- the answer

pub sized_is : SizedIs
unfolding SizedIs sized sized_by extent_tests
sized_is s sd ig f n h =
    let t : first_failed (extent_tests true s f n) ≡ None = all_passed _ (refl, (h, tt)) in
    rw t
