-- A sound store to which something was added had room for it: its totals are those of before and the new, and the new one's own lists are
-- just what it brought. Assumes nothing.
use Prim.Native.Nat.{ℕ, zero, suc, ◌+◌, ◌<◌, ◌≤◌}
use native.Mathlib.Nat.{not-suc-le-zero, le_of_suc-le-suc}
use native.Mathlib.Omega.{arith}
use mathlib.Core.Bool.{true, false, ◌||◌}
use mathlib.Core.List.{List, [], ◌∷◌}
use mathlib.Core.Logic.{◌⊎◌, inl, inr}
use mathlib.Core.Path.{◌≡◌, refl, sym, ap, ◌∙◌}
use borrow.Author.Tests.{le-ltb, leb-true, le-leb, eq-eqb, ne_eqb}
use lib.Dec.{leb}
use lib.ListN.{length, get_or, replicate, length-append, length-replicate}
use Rattle.std.specs.List.{list_all}
use Rattle.rules.specs.Lists.{sum, update_at}
use Rattle.std.specs.Prelude.{is_some}
use Rattle.rules.specs.Store.{Store, Op, Block, op_exists, block_exists, region_exists, value_exists, owner_exists, parent_exists, parent_of, max_nesting, nesting_holds, results_of, arguments_of, operand_total, successor_total, attributes_hold, max_own_keys}
use Rattle.rules.specs.declared.types.Attribute.{Attribute}
use Rattle.rules.specs.declared.types.Owner.TheVariants.{Op as of_op, Block as of_block}
use Rattle.rules.specs.Building.{has_key, put_attribute, values_for}
use Rattle.rules.proofs.Basics.Tests.{or_left, or_right, decided, clash, passed}
use Rattle.rules.proofs.Soundness.Sound.{Sound, OpSound}
use Rattle.rules.proofs.Basics.Appended.{sum_append}
use Rattle.rules.proofs.Soundness.KeptAttributes.{put_cases}
use Rattle.rules.proofs.Soundness.Grown.{levels_kept}
use Rattle.rules.proofs.Soundness.NewValues.{length_values_for, values_new}
use Rattle.rules.proofs.Soundness.KeptNewOperation.{with_operation, OpAllowed, operation_grown, fresh_op, new_op_at, new_regions}
use Rattle.rules.proofs.Soundness.KeptNewBlock.{with_block, BlockAllowed}

-- ---- a new operation or block

module _ (s : Store) (o : Op) (regions : ℕ) (types : List ℕ) (h : Sound s) (u : Sound (with_operation s o regions types)) where
  abbrev t : Store
  t = with_operation s o regions types

  longer : length t.ops ≡ length s.ops + 1
  longer = length-append s.ops (o ∷ [])

  new_op : OpSound t (length s.ops)
  new_op = u.op (length s.ops) (omega (arith, longer))

  new_results : length (results_of t (length s.ops)) ≡ length types
  unfolding results_of owner_exists op_exists
  new_results = values_new s t h (of_op (length s.ops)) types refl (fresh_op s)

  pub operation_allowed :
      parent_exists s o.parent ≡ true
      → list_all (value_exists s) o.operands ≡ true
      → list_all (block_exists s) o.successors ≡ true
      → o.attributes ≡ []
      → OpAllowed s o regions types
  unfolding parent_of nesting_holds operand_total successor_total sum
  operation_allowed parent operands successors bare =
      record {
        fit =
            record {
              operands_in = operands;
              successors_in = successors;
              operands_fit = rw (new_op_at s o regions types) at new_op.operands_fit;
              successors_fit = rw (new_op_at s o regions types) at new_op.successors_fit;
              attributes_fit = rw (new_op_at s o regions types) at new_op.attributes_fit;
            };
        parent_in = parent;
        nesting = ap is_some (sym (levels_kept s t (operation_grown s o regions types) h max_nesting o.parent parent)) ∙ (rw (parent_of, new_op_at s o regions types) at new_op.nesting);
        bare = bare;
        own_regions = rw (new_regions s o regions types h) at new_op.regions_fit;
        own_results = rw new_results at new_op.results_fit;
        ops = omega (arith, longer, u.totals.ops);
        regions_left = omega (arith, length-append s.regions (replicate regions (length s.ops)), length-replicate regions (length s.ops), u.totals.regions);
        values_left = omega (arith, length-append s.values (values_for (of_op (length s.ops)) types), length_values_for (of_op (length s.ops)) types, u.totals.values);
        operands_left = omega (arith, sum_append (λ (x : Op). length x.operands) s.ops (o ∷ []), u.totals.operands);
        successors_left = omega (arith, sum_append (λ (x : Op). length x.successors) s.ops (o ∷ []), u.totals.successors);
      }

pub block_allowed : (s : Store) (b : Block) (types : List ℕ) → Sound s → Sound (with_block s b types) → region_exists s b.region ≡ true
    → b.attributes ≡ [] → BlockAllowed s b types
unfolding arguments_of owner_exists block_exists
block_allowed s b types h u region bare =
    let N : ℕ = length s.blocks in
    let t : Store = with_block s b types in
    let longer : length t.blocks ≡ N + 1 = length-append s.blocks (b ∷ []) in
    record {
      region_in = region;
      bare = bare;
      own_arguments = rw (values_new s t h (of_block N) types refl (le-ltb N N (omega arith))) at (u.block N (omega arith)).arguments_fit;
      blocks_left = omega (arith, u.totals.blocks);
      values_left = omega (arith, length-append s.values (values_for (of_block N) types), length_values_for (of_block N) types, u.totals.values);
    }

-- ---- a change at one place

pub update_there {ℓ} : {A : Type ℓ} (g : A → A) (n : ℕ) (xs : List A) (d : A) → n < length xs → get_or (update_at g n xs) n d ≡ g (get_or xs n d)
unfolding update_at
update_there g n [] d l = absurd (not-suc-le-zero l)
update_there g zero (x ∷ xs) d l = refl
update_there g (suc n) (x ∷ xs) d l = update_there g n xs d (le_of_suc-le-suc l)

put_added : (a : Attribute) (bs : List Attribute) → has_key a.key bs ≡ false → length (put_attribute a bs) ≡ length bs + 1
unfolding has_key put_attribute
put_added a [] e = omega arith
put_added a (b ∷ bs) e =
    put_cases
    (λ (xs : List Attribute). length xs ≡ suc (length bs) + 1)
    a
    b
    bs
    (λ u. omega arith)
    (λ u. clash (or_left _ (has_key a.key bs) (eq-eqb b.key a.key (sym u))) e)
    (λ u. omega (arith, put_added a bs (rw (ne_eqb b.key a.key (λ x. omega arith)) at e)))

-- the test allows one more where the key is new, if there was room for the list after it
pub put_allowed : (a : Attribute) (bs : List Attribute) (m n : ℕ) → m + length (put_attribute a bs) ≤ n + length bs
    → (has_key a.key bs || leb (m + 1) n) ≡ true
put_allowed a bs m n l = go (decided (has_key a.key bs))
  where
    go : (has_key a.key bs ≡ true) ⊎ (has_key a.key bs ≡ false) → (has_key a.key bs || leb (m + 1) n) ≡ true
    go (inl e) = or_left _ _ e
    go (inr e) = or_right (has_key a.key bs) _ (le-leb (m + 1) n (omega (arith, put_added a bs e)))

pub keys_allowed : (a : Attribute) (bs : List Attribute) → attributes_hold (put_attribute a bs) ≡ true
    → (has_key a.key bs || leb (length bs + 1) max_own_keys) ≡ true
unfolding attributes_hold
keys_allowed a bs h = put_allowed a bs (length bs) max_own_keys (omega (arith, leb-true (length (put_attribute a bs)) max_own_keys (passed _ h).1.0))
