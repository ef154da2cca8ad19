-- The store with a copy is sound, if the copy's nesting and the totals hold: its names are numbers of the store, what is around a thing has the smaller
-- number, and each copy has as many of everything as the original. Assumes nothing.
use Prim.Native.Nat.{ℕ, ◌<◌, ◌≤◌}
use native.Mathlib.Omega.{arith}
use native.Mathlib.Decide.{ℕ_discrete, dec_lt}
use mathlib.Core.Bool.{Bool, true}
use mathlib.Core.List.Memᴰ
use mathlib.Core.List.{List, map, Memᴰ}
use mathlib.Core.Logic.{◌↔◌}
use Rattle.std.specs.Prelude.{Option, None, Some}
use mathlib.Core.Path.{◌≡◌, refl, sym, ap, subst, ◌∙◌}
use borrow.Author.Tests.{ltb-true, lt-ltb}
use lib.Dec.{ltb}
use lib.ListN.{length, get_or, length-map}
use Rattle.std.specs.List.{list_all}
use Rattle.rules.specs.Store.{Store, Op, Block, Value, op_at, block_at, value_at, parent_of, op_around, op_after, block_after, results_of, arguments_of, op_exists, block_exists, region_exists, value_exists, owner_exists, parent_exists, nesting_holds, totals_hold, sound}
use Rattle.rules.specs.declared.types.Owner.{Owner}
use Rattle.rules.specs.declared.types.Owner.TheVariants.{Op as of_op, Block as of_block}
use Rattle.rules.specs.Fragments.{defines_blocks, defines_values, fragment_ops}
use Rattle.rules.specs.declared.types.Sort.TheVariants.{Op as op}
use Rattle.rules.specs.Copying.{copied_regions, op_copy, block_copy, region_copy, value_copy, owner_copy, parent_copy, copied_op, copied_block, copied_value, copied, copy_nests, copy_tests, renumbered}
use Rattle.rules.specs.CopyLaws.{CopySound, CopyAcceptedExactly}
use Rattle.rules.proofs.Basics.Tests.{and_left, and_right, all_at, all_of}
use Rattle.rules.proofs.Basics.Appended.{all_append}
use Rattle.rules.proofs.Soundness.Sound.{Sound, OpSound, BlockSound, facts, sound_of, totals_facts, totals_hold_lem}
use Rattle.rules.proofs.Soundness.Accepted.{first_failed_none, all_passed}
use Rattle.rules.proofs.Soundness.Grown.{Grown, appended_grown, fits, fits_kept, parent_kept, owner_op, owner_block, around_in, after_kept, op_kept, block_kept, regions_kept, values_kept}
use Rattle.rules.proofs.Copying.Renumbered.{number_named, number_of}
use Rattle.rules.proofs.Copying.Inside.{ops_distinct, blocks_distinct, op_below, block_below, op_owned, block_owned, op_around_lem, region_around, block_rises, op_rises, value_owner_lem}
use Rattle.rules.proofs.Copying.Tables.{old_op, new_op, old_block, new_block_lem, new_region, op_new, block_new, ops_length, blocks_length, regions_length, values_length}
use Rattle.rules.proofs.Copying.Children.{region_parent, owner_here, regions_old, regions_new, values_old, values_new, parent_root, parent_copied}

all_map : {A B : Type 0} (p : B → Bool) (q : A → Bool) (f : A → B) (xs : List A) → ((x : A) → q x ≡ true → p (f x) ≡ true) → list_all q xs ≡ true → list_all p (map f xs) ≡ true
all_map p q f xs h k = all_of p (map f xs) (λ y m. let w = Memᴰ.of_map f xs m in subst (λ (z : _). p z ≡ true) w.2 (h w.0 (all_at q xs k w.1)))

module _ (s : Store) (sd : Sound s) (n : ℕ) (ex : op_exists s n ≡ true) (place : Option ℕ) (pe : parent_exists s place ≡ true) where
  abbrev with : Store
  with = copied s n place

  pub with_grown : Grown s with
  unfolding copied
  with_grown =
      appended_grown s with (map (copied_op s n place) (fragment_ops s op n)) (map (copied_block s n) (defines_blocks s op n))
      (map (λ (r : ℕ). op_copy s n (get_or s.regions r 0)) (copied_regions s n)) (map (copied_value s n) (defines_values s op n)) refl refl refl refl

  -- ---- what is named exists

  pub op_copied : (m : ℕ) → m < length s.ops → op_exists with (op_copy s n m) ≡ true
  unfolding op_exists op_copy
  op_copied m l = lt-ltb (renumbered (fragment_ops s op n) (length s.ops) m) (length with.ops) (omega (arith, ops_length s n place, number_named (fragment_ops s op n) (length s.ops) m l))

  block_copied : (b : ℕ) → b < length s.blocks → block_exists with (block_copy s n b) ≡ true
  unfolding block_exists block_copy
  block_copied b l = lt-ltb (renumbered (defines_blocks s op n) (length s.blocks) b) (length with.blocks) (omega (arith, blocks_length s n place, number_named (defines_blocks s op n) (length s.blocks) b l))

  region_copied : (r : ℕ) → r < length s.regions → region_exists with (region_copy s n r) ≡ true
  unfolding region_exists region_copy
  region_copied r l = lt-ltb (renumbered (copied_regions s n) (length s.regions) r) (length with.regions) (omega (arith, regions_length s n place, number_named (copied_regions s n) (length s.regions) r l))

  pub value_copied : (v : ℕ) → v < length s.values → value_exists with (value_copy s n v) ≡ true
  unfolding value_exists value_copy
  value_copied v l = lt-ltb (renumbered (defines_values s op n) (length s.values) v) (length with.values) (omega (arith, values_length s n place, number_named (defines_values s op n) (length s.values) v l))

  owner_copied : (w : Owner) → owner_exists s w ≡ true → owner_exists with (owner_copy s n w) ≡ true
  unfolding owner_exists owner_copy op_exists block_exists
  owner_copied (of_op m) h = op_copied m (ltb-true _ _ h)
  owner_copied (of_block b) h = block_copied b (ltb-true _ _ h)

  -- ---- what is around it

  pub parent_with : {m : ℕ} → Memᴰ m (fragment_ops s op n) → parent_of with (op_copy s n m) ≡ parent_copy s n place m
  unfolding parent_of copied_op
  parent_with k = ap (λ (o : Op). o.parent) (new_op s n place k)

  pub around_with : {b : ℕ} → Memᴰ b (defines_blocks s op n) → op_around with (block_copy s n b) ≡ op_copy s n (op_around s b)
  unfolding op_around copied_block
  around_with {b} k =
      ap (λ (o : Block). get_or with.regions o.region 0) (new_block_lem s n place k)
      ∙ new_region s n place (region_around s sd n ex b k)

  parent_exists_lem : (m : ℕ) → Memᴰ m (fragment_ops s op n) → Dec (m ≡ n) → parent_exists with (parent_copy s n place m) ≡ true
  unfolding parent_exists
  parent_exists_lem m k (yes e) =
      ap (λ (x : ℕ). parent_exists with (parent_copy s n place x)) e ∙ ap (parent_exists with) (parent_root s sd n ex place pe) ∙ parent_kept s with with_grown place pe
  parent_exists_lem m k (no ne) = let a = parent_copied s sd n ex place pe m k ne in ap (parent_exists with) a.3 ∙ block_copied a.0 (block_below s sd n ex a.2)

  place_after : (p : Option ℕ) → parent_exists s p ≡ true → (m : ℕ) → length s.ops ≤ m → op_after s m p ≡ true
  unfolding op_after parent_exists block_exists
  place_after None h m l = refl
  place_after (Some b) h m l = lt-ltb (op_around s b) m (omega (arith, around_in s sd b (ltb-true _ _ h)))

  op_after_lem : (m : ℕ) → Memᴰ m (fragment_ops s op n) → Dec (m ≡ n) → op_after with (op_copy s n m) (parent_copy s n place m) ≡ true
  unfolding op_after
  op_after_lem m k (yes e) =
      ap (λ (x : ℕ). op_after with (op_copy s n m) (parent_copy s n place x)) e
      ∙ ap (op_after with (op_copy s n m)) (parent_root s sd n ex place pe)
      ∙ after_kept s with with_grown sd (op_copy s n m) place pe (place_after place pe (op_copy s n m) (op_new s n place k))
  op_after_lem m k (no ne) =
      let a = parent_copied s sd n ex place pe m k ne in
      ap (op_after with (op_copy s n m)) a.3
      ∙ ap (λ (x : ℕ). ltb x (op_copy s n m)) (around_with a.2)
      ∙ lt-ltb _ _ (op_rises s sd n ex m a.0 k ne a.1)

  place_before : (p : Option ℕ) → parent_exists s p ≡ true → (b : ℕ) → length s.blocks ≤ b → block_after b p ≡ true
  unfolding block_after parent_exists block_exists
  place_before None h b l = refl
  place_before (Some a) h b l = lt-ltb a b (omega (arith, ltb-true a (length s.blocks) h))

  block_after_lem : (b : ℕ) → Memᴰ b (defines_blocks s op n) → Dec (op_around s b ≡ n) → block_after (block_copy s n b) (parent_copy s n place (op_around s b)) ≡ true
  unfolding block_after
  block_after_lem b k (yes e) =
      ap (λ (x : ℕ). block_after (block_copy s n b) (parent_copy s n place x)) e
      ∙ ap (block_after (block_copy s n b)) (parent_root s sd n ex place pe)
      ∙ place_before place pe (block_copy s n b) (block_new s n place k)
  block_after_lem b k (no ne) =
      let a = parent_copied s sd n ex place pe (op_around s b) (op_around_lem s sd n ex b k) ne in
      ap (block_after (block_copy s n b)) a.3 ∙ lt-ltb _ _ (block_rises s sd n ex b a.0 k ne a.1).1

  -- ---- an operation, a block

  module _ (nests : (m : ℕ) → Memᴰ m (fragment_ops s op n) → nesting_holds with (parent_copy s n place m) ≡ true) where
    new_op_sound : (m : ℕ) → Memᴰ m (fragment_ops s op n) → OpSound with (op_copy s n m)
    unfolding copied_op results_of owner_copy value_exists block_exists
    new_op_sound m k =
        let o = sd.op m (op_below s sd n ex k) in
        let e : op_at with (op_copy s n m) ≡ copied_op s n place m = new_op s n place k in
        record {
          parent_in = rw (parent_with k) (parent_exists_lem m k (ℕ_discrete m n));
          operands_in = rw e (all_map (value_exists with) (value_exists s) (value_copy s n) (op_at s m).operands (λ v h. value_copied v (ltb-true _ _ h)) o.operands_in);
          successors_in = rw e (all_map (block_exists with) (block_exists s) (block_copy s n) (op_at s m).successors (λ b h. block_copied b (ltb-true _ _ h)) o.successors_in);
          later = rw (parent_with k) (op_after_lem m k (ℕ_discrete m n));
          nesting = rw (parent_with k) (nests m k);
          regions_fit = rw (regions_new s sd n ex place pe k, length-map) o.regions_fit;
          results_fit = rw (values_new s sd n ex place pe (op_owned s sd n ex k), length-map) o.results_fit;
          operands_fit = rw (e, length-map) o.operands_fit;
          successors_fit = rw (e, length-map) o.successors_fit;
          attributes_fit = rw e o.attributes_fit;
        }

    new_block_sound : (b : ℕ) → Memᴰ b (defines_blocks s op n) → BlockSound with (block_copy s n b)
    unfolding copied_block arguments_of owner_copy region_exists
    new_block_sound b k =
        let o = sd.block b (block_below s sd n ex k) in
        let e : block_at with (block_copy s n b) ≡ copied_block s n b = new_block_lem s n place k in
        record {
          region_in = rw e (region_copied (block_at s b).region (ltb-true _ _ o.region_in));
          later = rw (around_with k, parent_with (op_around_lem s sd n ex b k)) (block_after_lem b k (ℕ_discrete (op_around s b) n));
          arguments_fit = rw (values_new s sd n ex place pe (block_owned s sd n ex k), length-map) o.arguments_fit;
          attributes_fit = rw e o.attributes_fit;
        }

    old_op_sound : (m : ℕ) → m < length s.ops → OpSound with m
    unfolding results_of
    old_op_sound m l =
        op_kept s with with_grown sd m l (rw (old_op s n place m l) (fits_kept s with with_grown (op_at s m) (fits s sd m l)))
        (rw (regions_old s sd n ex place pe m l) (sd.op m l).regions_fit)
        (rw (values_old s sd n ex place pe (of_op m) (owner_op s sd m l)) (sd.op m l).results_fit)

    old_block_sound : (b : ℕ) → b < length s.blocks → BlockSound with b
    unfolding arguments_of
    old_block_sound b l =
        block_kept s with with_grown sd b l (rw (values_old s sd n ex place pe (of_block b) (owner_block s sd b l)) (sd.block b l).arguments_fit)
        (rw (old_block s n place b l) (sd.block b l).attributes_fit)

    op_sound : (m : ℕ) → m < length with.ops → Dec (m < length s.ops) → OpSound with m
    unfolding op_copy
    op_sound m l (yes h) = old_op_sound m h
    op_sound m l (no h) =
        let w = number_of (fragment_ops s op n) (length s.ops) (ops_distinct s sd n ex) m (omega arith) (omega (arith, ops_length s n place)) in
        subst (OpSound with) (sym w.2) (new_op_sound w.0 w.1)

    block_sound : (b : ℕ) → b < length with.blocks → Dec (b < length s.blocks) → BlockSound with b
    unfolding block_copy
    block_sound b l (yes h) = old_block_sound b h
    block_sound b l (no h) =
        let w = number_of (defines_blocks s op n) (length s.blocks) (blocks_distinct s sd n ex) b (omega arith) (omega (arith, blocks_length s n place)) in
        subst (BlockSound with) (sym w.2) (new_block_sound w.0 w.1)

    pub with_sound : totals_hold with ≡ true → sound with ≡ true
    unfolding copied copied_value
    with_sound totals =
        sound_of with (record {
          op = λ m l. op_sound m l (dec_lt m (length s.ops));
          block = λ b l. block_sound b l (dec_lt b (length s.blocks));
          regions_in = all_append (op_exists with) s.regions _ (regions_kept s with with_grown sd)
              (all_of (op_exists with) _ (λ o i. let w = Memᴰ.of_map (λ (r : ℕ). op_copy s n (get_or s.regions r 0)) (copied_regions s n) i in
              subst (λ (x : ℕ). op_exists with x ≡ true) w.2 (op_copied (get_or s.regions w.0 0) (op_below s sd n ex (region_parent s sd n ex place pe w.1).1))));
          values_in = all_append (λ (v : Value). owner_exists with v.owner) s.values _ (values_kept s with with_grown sd)
              (all_of (λ (v : Value). owner_exists with v.owner) _ (λ v i. let w = Memᴰ.of_map (copied_value s n) (defines_values s op n) i in
              subst (λ (x : Value). owner_exists with x.owner ≡ true) w.2 (owner_copied (value_at s w.0).owner (owner_here s sd n ex place pe (value_owner_lem s sd n ex w.1).1))));
          totals = totals_facts with totals;
        })

  -- ---- the other way round

  pub sound_nests : sound with ≡ true → copy_nests s n place ≡ true
  unfolding copy_nests op_exists
  sound_nests h =
      all_of (λ (m : ℕ). nesting_holds with (parent_copy s n place m)) (fragment_ops s op n)
      (λ m k. ap (nesting_holds with) (sym (parent_with k)) ∙ ((facts with h).op (op_copy s n m) (ltb-true _ _ (op_copied m (op_below s sd n ex k)))).nesting)

  pub sound_exactly : (copy_nests s n place ≡ true) × (totals_hold with ≡ true) ↔ (sound with ≡ true)
  unfolding copy_nests
  sound_exactly = (
    λ h. with_sound (λ m k. all_at (λ (x : ℕ). nesting_holds with (parent_copy s n place x)) (fragment_ops s op n) h.0 k) h.1,
    λ h. (sound_nests h, totals_hold_lem with (facts with h).totals),
  )

-- ---- as stated

pub copy_sound : CopySound
unfolding CopySound copy_tests
copy_sound s h n place c =
    let p = first_failed_none _ c in
    (sound_exactly s (facts s h) n (and_left _ _ p.0) place (and_right (op_exists s n) _ p.0)).0 (p.1.1.1.0, p.1.1.1.1.0)

pub copy_accepted_exactly : CopyAcceptedExactly
unfolding CopyAcceptedExactly CopySound copy_tests
copy_accepted_exactly s h n place e out early =
    let ex = sound_exactly s (facts s h) n (and_left _ _ e) place (and_right (op_exists s n) _ e) in
    (λ c. copy_sound s h n place c, λ k. let w = ex.1 k in all_passed _ (e, (out, (early, (w.0, (w.1, tt))))))
