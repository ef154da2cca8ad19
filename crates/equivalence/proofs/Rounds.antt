-- The walks that call one another: two regions are their lists of blocks, two operations are what they name and then their regions pair
-- by pair, and two lists of blocks are their three passes, the last of them pair by pair. Assumes nothing.
use Rattle.std.specs.Prelude.{Result, Ok, Err}
use Prim.Native.Nat.{ℕ, suc, ◌+◌, ◌<◌}
use native.Mathlib.Omega.{arith}
use mathlib.Core.Bool.{true, false}
use mathlib.Core.List.{List, ◌∷◌, Memᴰ}
use mathlib.Core.Path.{◌≡◌, refl, sym, ap, ap₂, subst, ◌∙◌}
use Rattle.rules.specs.Store.{Store, op_around, ops_of, blocks_of, regions_of, region_exists, sound}
use Rattle.rules.specs.Fragments.{exists, levels}
use Rattle.rules.specs.Types.{renamed}
use Rattle.rules.specs.Comparison.{State, Walk, standing, ◌>>=◌, each_pair, expect, check_names, check_ops, pass3, compare_lists, compare_regions, compare_by}
use Rattle.rules.specs.Answers.{comparison_of}
use Rattle.rules.proofs.Walking.Enough.{regions_enough}
use Rattle.rules.proofs.Walking.Paired.{Grows, grows_each, grows_ops, grows_pass2, grows_pass3, grows_regions}
use Rattle.rules.proofs.RenamedTypes.Renamed.{renamed_sound}
use Rattle.rules.proofs.Soundness.Children.{regions_in_lem}
use Rattle.layout.proofs.Tabulate.{regions_length}
use Rattle.layout.specs.Columns.{Cols}
use Rattle.layout.specs.Reading.{region_count, store_of}
use Rattle.layout.proofs.Ranges.{range, range_first}
use Rattle.fragments.specs.Options.{Options, renamed_under}
use Rattle.fragments.specs.Order.{block_list}
use Rattle.fragments.specs.declared.types.Blocks.{Blocks}
use Rattle.fragments.specs.declared.types.Blocks.TheVariants as list
use Rattle.fragments.proofs.Below.{below, around_list, around_all, op_falls}
use Rattle.equivalence.specs.MappingWords.{mapping_of, names_agree}
use Rattle.equivalence.specs.Compares.{answer_of, state_of, outcome, PairedFits}
use Rattle.equivalence.specs.Compares.{Compares}
use Rattle.equivalence.specs.Walked.{left_of, right_of, lefts, rights, pair_of_lists, region_walk, op_walk, ops_walk, lists_walk, pass1_walk, pass2_walk}
use Rattle.equivalence.specs.declared.verdicts.Unequal.{Unequal}
use Rattle.equivalence.specs.declared.verdicts.Unequal.TheVariants.{FirstNEQOps}
use Rattle.equivalence.specs.declared.types.BlockLists.{BlockLists}
use Rattle.equivalence.specs.declared.types.BlockLists.TheVariants.{InRegions}
use Rattle.equivalence.proofs.Telling.{told_ended, told_bind, few_part}

module _ (s : Store) (o : Options) where
  -- ---- two regions

  -- one region more to enter makes no difference
  pub region_lists : sound s ≡ true → (l r : ℕ) (st : State) → region_walk s o l r st ≡ lists_walk s o (InRegions l r) st
  unfolding region_walk lists_walk op_walk left_of right_of block_list pair_of_lists compare_regions compare_by exists renamed blocks_of region_exists
  region_lists sd l r st =
      regions_enough (renamed_under o s) (renamed_sound o.types s sd) o.ignore levels (suc levels) (omega arith) (omega arith) l r st

  -- ---- two operations

  pub names_disagree : (l r : ℕ) (b : List ℕ) (n : ℕ) → names_agree (renamed_under o s) (mapping_of b) l r ≡ false
      → Compares (op_walk s o l r (state_of b n)) (Err (FirstNEQOps l r n)) b
  unfolding Compares outcome op_walk check_ops check_names expect comparison_of standing answer_of state_of
  names_disagree l r b n e = rw e refl

  pub names_passed : (l r : ℕ) (b : List ℕ) (n : ℕ) → names_agree (renamed_under o s) (mapping_of b) l r ≡ true
      → op_walk s o l r (state_of b n) ≡ each_pair (region_walk s o) (regions_of s l) (regions_of s r) (state_of b n)
  unfolding op_walk check_ops check_names expect state_of region_walk renamed regions_of
  names_passed l r b n e = rw e refl

  pub grows_region : (l r : ℕ) → Grows (region_walk s o l r)
  unfolding region_walk
  grows_region l r = grows_regions (renamed_under o s) o.ignore levels l r

  pub grows_op : (l r : ℕ) → Grows (op_walk s o l r)
  unfolding op_walk
  grows_op l r = grows_ops (renamed_under o s) _ (grows_regions (renamed_under o s) o.ignore levels) l r

  -- ---- two lists of blocks

  pub grows_ops_in : (l r : ℕ) → Grows (ops_walk s o l r)
  unfolding ops_walk
  grows_ops_in l r = grows_each (op_walk s o) grows_op _ _

  module _ (x : BlockLists) (st : State) where
    abbrev pub first : Walk
    first = pass1_walk s o x st

    abbrev pub second : State → Walk
    second = pass2_walk s o x

    abbrev third : State → Walk
    third = pass3 (renamed_under o s) (op_walk s o) (lefts s x) (rights s x)

    grows_third : Grows third
    grows_third = grows_pass3 (renamed_under o s) (op_walk s o) grows_op (lefts s x) (rights s x)

    pub few_first : PairedFits (lists_walk s o x st) → PairedFits first
    unfolding lists_walk compare_lists
    few_first h = few_part (first >>= second) first second (grows_pass2 (renamed_under o s) o.ignore (lefts s x) (rights s x)) refl (few_part (lists_walk s o x st) (first >>= second) third grows_third refl h)

    pub first_ended : (u : Unequal) (b : List ℕ) {q : Result ℕ Unequal} → q ≡ Err u → Compares first q b → Compares (lists_walk s o x st) (Err u) b
    unfolding lists_walk compare_lists
    first_ended u b e h = told_ended (first >>= second) third u b refl (told_ended first second u b e h)

    module _ (b : List ℕ) {n : ℕ} {q : Result ℕ Unequal} (e : q ≡ Ok n) (h : Compares first q b) where
      past_first : lists_walk s o x st ≡ second (state_of b n) >>= third
      unfolding lists_walk compare_lists
      past_first = ap (λ (w : Walk). w >>= third) (told_bind first second b e h)

      pub few_second : PairedFits (lists_walk s o x st) → PairedFits (second (state_of b n))
      few_second f = few_part (lists_walk s o x st) (second (state_of b n)) third grows_third past_first f

      pub second_ended : (u : Unequal) (c : List ℕ) {p : Result ℕ Unequal} → p ≡ Err u → Compares (second (state_of b n)) p c → Compares (lists_walk s o x st) (Err u) c
      second_ended u c k t = subst (λ (w : Walk). Compares w (Err u) c) (sym past_first) (told_ended (second (state_of b n)) third u c k t)

      pub third_starts : (c : List ℕ) {m : ℕ} {p : Result ℕ Unequal} → p ≡ Ok m → Compares (second (state_of b n)) p c
          → lists_walk s o x st ≡ each_pair (ops_walk s o) (lefts s x) (rights s x) (state_of c m)
      unfolding ops_walk pass3 renamed ops_of
      third_starts c f t = past_first ∙ told_bind (second (state_of b n)) third c f t

-- ---- what is below a block's operations

-- the operation around a block is the one around its list
pub block_around : (s : Store) (x : Blocks) (b : ℕ) → Memᴰ b (block_list s x) → below s (op_around s b) ≡ below s (around_list s x)
block_around s x b m = ap (below s) (around_all s x b m)

pub op_behind : (s : Store) → sound s ≡ true → (b n : ℕ) → Memᴰ n (ops_of s b) → below s n < below s (op_around s b)
unfolding block_list around_list
op_behind s sd b n m = op_falls s sd (list.Single b) b n (Memᴰ.head refl) m

-- ---- regions pair by pair

-- a region of an operation exists, and the operation is around it
pub region_in : (C : Cols) (n r : ℕ) → Memᴰ r (regions_of (store_of C) n) → r < region_count C
region_in C n r m = subst (λ (k : ℕ). r < k) (regions_length C) (regions_in_lem (store_of C) n m).0

-- what is left of a range begins with the next number
pub range_next : (a e t f x : ℕ) → x ≡ a → a < e → t ≡ a + 1 → f ≡ e → range a e ≡ x ∷ range t f
range_next a e t f x h l i j =
    let k : suc a ≡ t = omega arith in
    range_first a e l ∙ ap₂ (λ (u v : ℕ). u ∷ range v e) (sym h) k ∙ ap (λ (u : ℕ). x ∷ range t u) (sym j)
