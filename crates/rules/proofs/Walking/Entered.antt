-- A comparison that begins with an empty mapping enters at most one operation or block for each pair that it counts, and values only with
-- their owner: so it is at the start, and each pair entered keeps it so. Assumes nothing.
use Prim.Native.Nat.{ℕ, ◌+◌, ◌<◌, ◌≤◌}
use native.Mathlib.Decide.{ℕ_discrete}
use native.Mathlib.Omega.{arith}
use mathlib.Core.Bool.{Bool, true, false, not}
use mathlib.Core.List.{List, Memᴰ}
use Rattle.rules.specs.declared.types.Cause.{Cause}
use Rattle.std.specs.Prelude.{Option, None, Some}
use mathlib.Core.Path.{◌≡◌, refl, sym, ap, subst, ◌∙◌}
use borrow.Author.Tests.{eq-eqb}
use lib.Dec.{eqb}
use lib.ListN.{length, get_or, set, replicate, length-set, length-replicate}
use lib.Seq.{get_or-set_same, get_or-set_other}
use Rattle.rules.specs.Lists.{count_below}
use Rattle.rules.specs.Store.{Store, value_at, values_of, sound, max_blocks, max_ops}
use Rattle.rules.specs.declared.types.Owner.{Owner}
use Rattle.rules.specs.declared.types.Owner.TheVariants.{Op as of_op, Block as of_block}
use Rattle.rules.specs.Fragments.{exists}
use Rattle.rules.specs.declared.types.Sort.{Sort}
use Rattle.rules.specs.declared.types.Sort.TheVariants.{Block as block}
use Rattle.rules.specs.Building.{first_failed}
use Rattle.rules.specs.declared.types.Ignore.{Ignore}
use Rattle.rules.specs.Mapping.{no_image, empty_mapping, enter_all}
use Rattle.rules.specs.Comparison.{State, unequal, one_longer, Walk, on, ended, standing, enter_ops, enter_blocks, start, compare, pair_of}
use Rattle.rules.specs.Types.{renamed}
use Rattle.rules.specs.Answers.{compare_tests, comparison_of, comparison_by, comparison}
use Rattle.rules.specs.Runs.{compare_runs}
use Rattle.rules.specs.Entered.{mapped, owner_entry, EnteredBy, paired_in}
use Rattle.rules.proofs.RenamedTypes.Renamed.{exists_renamed, entered_renamed, renamed_sound}
use Rattle.rules.proofs.Basics.Counts.{count_more, count_zero}
use Rattle.rules.proofs.Basics.Entries.{none_at, enter_other}
use Rattle.rules.proofs.Basics.Tests.{and_left, and_right}
use Rattle.rules.proofs.Soundness.Accepted.{first_failed_none}
use Rattle.rules.proofs.Soundness.Children.{values_in_lem}
use Rattle.rules.proofs.Soundness.Sound.{Sound, facts}
use Rattle.rules.proofs.Walking.Keeping.{keeps_fragments, keeps_runs}

-- ---- entries made

-- at most one more has an image
one_more_lem : (size : ℕ) (es : List ℕ) (l r : ℕ) → count_below size (mapped (set es l r)) ≤ count_below size (mapped es) + 1
unfolding mapped
one_more_lem size es l r =
    count_more (mapped (set es l r)) (mapped es) l size (λ k ne h. subst (λ (e : ℕ). not (eqb e no_image) ≡ true) (get_or-set_other es l k r no_image ne) h)

-- of the numbers of a table, the one entered has an image if that is one; of the others what there was
entered_not : (es : List ℕ) (l r k : ℕ) → l < length es → (r ≡ no_image → ⊥) → get_or (set es l r) k no_image ≡ no_image → (k ≡ l → ⊥) × (get_or es k no_image ≡ no_image)
entered_not es l r k b nr h = go (ℕ_discrete k l)
  where
    go : Dec (k ≡ l) → (k ≡ l → ⊥) × (get_or es k no_image ≡ no_image)
    go (yes e) = absurd (nr (sym (get_or-set_same es l r no_image b) ∙ subst (λ (j : ℕ). get_or (set es l r) j no_image ≡ no_image) e h))
    go (no ne) = (ne, sym (get_or-set_other es l k r no_image ne) ∙ h)

-- ---- a pair entered

-- what was entered so far, in tables of the right lengths
pub record Entering (s : Store) (st : State) : Type 0 where
  pub ops : length st.mapping.ops ≡ max_ops
  pub blocks : length st.mapping.blocks ≡ max_blocks
  pub by : EnteredBy s st.mapping st.paired

module _ (s : Store) (sd : Sound s) where
  op_image : (r : ℕ) → r < length s.ops → r ≡ no_image → ⊥
  op_image r h e = omega (arith, sd.totals.ops)

  block_image : (r : ℕ) → r < length s.blocks → r ≡ no_image → ⊥
  block_image r h e = omega (arith, sd.totals.blocks)

  -- a value of another owner
  not_of : (w : Owner) (v : ℕ) → ((value_at s v).owner ≡ w → ⊥) → Memᴰ v (values_of s w) → ⊥
  not_of w v ne m = ne (values_in_lem s w m).1

  past : (w : Owner) (v : ℕ) → length s.values ≤ v → Memᴰ v (values_of s w) → ⊥
  past w v h m = let l : v < length s.values = (values_in_lem s w m).0 in omega arith

  module _ (l r : ℕ) (st : State) where
    ops_entered : l < length s.ops → r < length s.ops → Entering s st → Entering s (enter_ops s l r st)
    unfolding enter_ops owner_entry
    ops_entered hl hr h =
        record {
          ops = length-set st.mapping.ops l r ∙ h.ops;
          blocks = h.blocks;
          by =
              record {
                owners = let few = h.by.owners in omega (arith, one_more_lem max_ops st.mapping.ops l r);
                values = λ v e. go v (value_at s v).owner refl e;
                beyond = λ v b. enter_other (values_of s (of_op l)) (values_of s (of_op r)) st.mapping.values v (past (of_op l) v b) ∙ h.by.beyond v b;
              };
        }
      where
        long : l < length st.mapping.ops
        long = omega (arith, sd.totals.ops, h.ops)

        other : (v : ℕ) → ((value_at s v).owner ≡ of_op l → ⊥) → owner_entry st.mapping (value_at s v).owner ≡ no_image
            → get_or (enter_all (values_of s (of_op l)) (values_of s (of_op r)) st.mapping.values) v no_image ≡ no_image
        other v ne e =
            enter_other (values_of s (of_op l)) (values_of s (of_op r)) st.mapping.values v (not_of (of_op l) v ne) ∙ h.by.values v e

        go : (v : ℕ) (w : Owner) → (value_at s v).owner ≡ w → owner_entry (enter_ops s l r st).mapping w ≡ no_image
            → get_or (enter_all (values_of s (of_op l)) (values_of s (of_op r)) st.mapping.values) v no_image ≡ no_image
        go v (of_op n) e k =
            let x = entered_not st.mapping.ops l r n long (op_image r hr) k in
            other v (λ d. x.0 (let j : of_op n ≡ of_op l = sym e ∙ d in cc)) (rw e x.1)
        go v (of_block b) e k = other v (λ d. let j : of_block b ≡ of_op l = sym e ∙ d in let z : ◌≡◌ {A = ℕ} 0 1 = cc in absurd (omega arith)) (rw e k)

    blocks_entered : l < length s.blocks → r < length s.blocks → Entering s st → Entering s (enter_blocks s l r st)
    unfolding enter_blocks owner_entry
    blocks_entered hl hr h =
        record {
          ops = h.ops;
          blocks = length-set st.mapping.blocks l r ∙ h.blocks;
          by =
              record {
                owners = let few = h.by.owners in omega (arith, one_more_lem max_blocks st.mapping.blocks l r);
                values = λ v e. go v (value_at s v).owner refl e;
                beyond = λ v b. enter_other (values_of s (of_block l)) (values_of s (of_block r)) st.mapping.values v (past (of_block l) v b) ∙ h.by.beyond v b;
              };
        }
      where
        long : l < length st.mapping.blocks
        long = omega (arith, sd.totals.blocks, h.blocks)

        other : (v : ℕ) → ((value_at s v).owner ≡ of_block l → ⊥) → owner_entry st.mapping (value_at s v).owner ≡ no_image
            → get_or (enter_all (values_of s (of_block l)) (values_of s (of_block r)) st.mapping.values) v no_image ≡ no_image
        other v ne e =
            enter_other (values_of s (of_block l)) (values_of s (of_block r)) st.mapping.values v (not_of (of_block l) v ne) ∙ h.by.values v e

        go : (v : ℕ) (w : Owner) → (value_at s v).owner ≡ w → owner_entry (enter_blocks s l r st).mapping w ≡ no_image
            → get_or (enter_all (values_of s (of_block l)) (values_of s (of_block r)) st.mapping.values) v no_image ≡ no_image
        go v (of_op n) e k = other v (λ d. let j : of_op n ≡ of_block l = sym e ∙ d in let z : ◌≡◌ {A = ℕ} 0 1 = cc in absurd (omega arith)) (rw e k)
        go v (of_block b) e k =
            let x = entered_not st.mapping.blocks l r b long (block_image r hr) k in
            other v (λ d. x.0 (let j : of_block b ≡ of_block l = sym e ∙ d in cc)) (rw e x.1)

-- ---- from the empty mapping

none_mapped : (size : ℕ) (k : ℕ) → mapped (replicate size no_image) k ≡ false
unfolding mapped
none_mapped size k = rw (none_at size k) (ap not (eq-eqb no_image no_image refl))

at_start_lem : (s : Store) → Entering s (start empty_mapping)
unfolding start empty_mapping
at_start_lem s =
    record {
      ops = length-replicate max_ops no_image;
      blocks = length-replicate max_blocks no_image;
      by =
          record {
            owners =
                omega (arith, count_zero _ max_blocks (none_mapped max_blocks), count_zero _ max_ops (none_mapped max_ops));
            values = λ v e. none_at 2048 v;
            beyond = λ v b. none_at 2048 v;
          };
    }

pub none_entered : (s : Store) → EnteredBy s empty_mapping 0
unfolding start
none_entered s = (at_start_lem s).by

pub entered_by : (s : Store) → sound s ≡ true → (ig : Ignore) (f : Sort) (l r : ℕ) → exists s f l ≡ true → exists s f r ≡ true
    → EnteredBy s (standing (compare s ig f l r empty_mapping)).mapping (standing (compare s ig f l r empty_mapping)).paired
unfolding compare
entered_by s sd ig f l r el er =
    (keeps_fragments (Entering s) s ig
    (λ a b ha hb st h. ops_entered s (facts s sd) a b st ha hb h)
    (λ a b ha hb st h. blocks_entered s (facts s sd) a b st ha hb h)
    f l r el er (start empty_mapping) (at_start_lem s)).by

-- the same of two runs of operations
pub runs_entered : (s : Store) → sound s ≡ true → (ig : Ignore) (b : ℕ) (ls rs : List ℕ)
    → ((l : ℕ) → Memᴰ l ls → l < length s.ops) → ((r : ℕ) → Memᴰ r rs → r < length s.ops)
    → EnteredBy s (standing (compare_runs s ig b ls rs)).mapping (standing (compare_runs s ig b ls rs)).paired
unfolding compare_runs
runs_entered s sd ig b ls rs el er =
    (keeps_runs (Entering s) s ig
    (λ a c ha hb st h. ops_entered s (facts s sd) a c st ha hb h)
    (λ a c ha hb st h. blocks_entered s (facts s sd) a c st ha hb h)
    (pair_of block b b) ls rs el er (start empty_mapping) (at_start_lem s)).by

-- answered or refused
module _ (s : Store) (sd : sound s ≡ true) (lent : Bool) (types : List ℕ) (ig : Ignore) (f : Sort) (l r : ℕ) where
  by_walk : (w : Walk) → EnteredBy s (standing w).mapping (standing w).paired
      → EnteredBy s (comparison_of w empty_mapping).mapping (paired_in (comparison_of w empty_mapping).answer)
  unfolding comparison_of standing paired_in
  by_walk (on st) h = h
  by_walk (ended (unequal p) st) h = h
  by_walk (ended (one_longer p) st) h = h

  pub comparison_entered : EnteredBy s (comparison lent s types empty_mapping ig f l r).mapping (paired_in (comparison lent s types empty_mapping ig f l r).answer)
  unfolding comparison comparison_by compare_tests paired_in
  comparison_entered = go (first_failed (compare_tests lent s types empty_mapping f l r)) refl
    where
      go : (o : Option Cause) → first_failed (compare_tests lent s types empty_mapping f l r) ≡ o
          → EnteredBy s (comparison_by o (renamed types s) empty_mapping ig f l r).mapping (paired_in (comparison_by o (renamed types s) empty_mapping ig f l r).answer)
      go None e =
          let both = (first_failed_none (compare_tests lent s types empty_mapping f l r) e).1.1.1.0 in
          by_walk (compare (renamed types s) ig f l r empty_mapping)
          (entered_renamed types s (entered_by (renamed types s) (renamed_sound types s sd) ig f l r (exists_renamed types s f l ∙ and_left _ (exists s f r) both) (exists_renamed types s f r ∙ and_right (exists s f l) _ both)))
      go (Some cause) e = none_entered s
