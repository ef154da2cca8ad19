-- A comparison that tests the lengths of every two lists that it goes through together is the same comparison: pass 1 has tested the
-- blocks' lists, pass 2 the operations', and pairing two operations the rest. In this form each pass is one lock-step. Assumes nothing.
use Prim.Native.Nat.{ℕ, zero, suc}
use native.Mathlib.Omega.{arith}
use mathlib.Core.Bool.{Bool, true, false, cond, ◌&&◌}
use mathlib.Core.List.{List, [], ◌∷◌}
use mathlib.Core.Path.{◌≡◌, refl, ap, ◌∙◌}
use lib.Dec.{eqb}
use lib.ListN.{length, get_or}
use Rattle.rules.specs.Lists.{same_list}
use Rattle.rules.specs.Store.{Store, ops_of, blocks_of, regions_of}
use Rattle.rules.specs.declared.types.Owner.TheVariants.{Op as of_op}
use Rattle.rules.specs.Fragments.{levels}
use Rattle.rules.specs.declared.types.Sort.{Sort}
use Rattle.rules.specs.declared.types.Sort.TheVariants.{Op as op, Block as block, Region as region}
use Rattle.rules.specs.Shells.{counts_of, same_shells}
use Rattle.rules.specs.declared.types.Ignore.{Ignore}
use Rattle.rules.specs.Comparison.{State, Pair, Walk, on, ended, unequal, ◌>>=◌, pairwise, each_pair, pair_of, expect, pair_ops, enter_ops, pair_blocks, operands_agree, successors_agree, check_names, check_ops, pass1, pass2, pass3, compare_lists, compare_regions, compare_by}
use Rattle.rules.proofs.Basics.Tests.{impossible, passed, numbers_same}

-- ---- lists of one length, pair by pair related

abbrev pub Pairs : (ℕ → ℕ → Type 0) → List ℕ → List ℕ → Type 0
Pairs R [] [] = Unit {0}
Pairs R [] (r ∷ rs) = ⊥
Pairs R (l ∷ ls) [] = ⊥
Pairs R (l ∷ ls) (r ∷ rs) = R l r × Pairs R ls rs

-- a pairwise walk that goes on has found the lists of one length, and each pair related
pub gained : (f : ℕ → ℕ → State → Walk) (p : Pair) (R : ℕ → ℕ → Type 0) → ((l r : ℕ) (st st' : State) → f l r st ≡ on st' → R l r)
    → (ls rs : List ℕ) (st st' : State) → pairwise f p ls rs st ≡ on st' → Pairs R ls rs
unfolding pairwise
gained f p R step [] [] st st' h = tt
gained f p R step [] (r ∷ rs) st st' h = impossible cc
gained f p R step (l ∷ []) [] st st' h = impossible cc
gained f p R step (l ∷ m ∷ ls) [] st st' h = impossible cc
gained f p R step (l ∷ ls) (r ∷ rs) st st' h = go (f l r st) refl (λ st₁ k. gained f p R step ls rs st₁ st' k) h
  where
    go : (w : Walk) → f l r st ≡ w → ((st₁ : State) → pairwise f p ls rs st₁ ≡ on st' → Pairs R ls rs) → w >>= pairwise f p ls rs ≡ on st'
        → R l r × Pairs R ls rs
    go (on st₁) e rest k = (step l r st st₁ e, rest st₁ k)
    go (ended why st₁) e rest k = impossible cc

-- where the pairs are related, testing lengths changes nothing
pub testing : (f g : ℕ → ℕ → State → Walk) (p : Pair) (R : ℕ → ℕ → Type 0) → ((l r : ℕ) → R l r → (st : State) → f l r st ≡ g l r st)
    → (ls rs : List ℕ) → Pairs R ls rs → (st : State) → each_pair f ls rs st ≡ pairwise g p ls rs st
unfolding each_pair pairwise
testing f g p R same [] [] q st = refl
testing f g p R same [] (r ∷ rs) q st = absurd q
testing f g p R same (l ∷ ls) [] q st = absurd q
testing f g p R same (l ∷ ls) (r ∷ rs) q st = ap (λ (w : Walk). w >>= each_pair f ls rs) (same l r q.0 st) ∙ go (g l r st) (λ st₁. testing f g p R same ls rs q.1 st₁)
  where
    go : (w : Walk) → ((st₁ : State) → each_pair f ls rs st₁ ≡ pairwise g p ls rs st₁) → w >>= each_pair f ls rs ≡ w >>= pairwise g p ls rs
    go (on st₁) rest = rest st₁
    go (ended why st₁) rest = refl

pub same_length : (ls rs : List ℕ) → length ls ≡ length rs → Pairs (λ (l r : ℕ). Unit {0}) ls rs
same_length [] [] h = tt
same_length [] (r ∷ rs) h = absurd (omega arith)
same_length (l ∷ ls) [] h = absurd (omega arith)
same_length (l ∷ ls) (r ∷ rs) h = (tt, same_length ls rs (omega arith))

-- ---- the comparison with every length tested

module _ (s : Store) where
  -- two operations whose kind and counts are equal, as they are once paired
  abbrev pub Counts : ℕ → ℕ → Type 0
  Counts l r = counts_of s (of_op l) ≡ counts_of s (of_op r)

  unfoldable pub names_agree : ℕ → ℕ → State → Bool
  names_agree l r st =
      same_list eqb (counts_of s (of_op l)) (counts_of s (of_op r)) && (operands_agree s st.mapping l r && successors_agree s st.mapping l r)

  unfoldable pub tested_names : ℕ → ℕ → State → Walk
  tested_names l r st = expect (names_agree l r st) (pair_of op l r) st st

  unfoldable pub tested_ops : (ℕ → ℕ → State → Walk) → ℕ → ℕ → State → Walk
  tested_ops regions l r st = tested_names l r st >>= pairwise regions (pair_of op l r) (regions_of s l) (regions_of s r)

  module _ (ig : Ignore) where
    unfoldable pub tested2 : Pair → List ℕ → List ℕ → State → Walk
    tested2 p ls rs = pairwise (λ (l r : ℕ). pairwise (pair_ops s ig) (pair_of block l r) (ops_of s l) (ops_of s r)) p ls rs

    unfoldable pub tested3 : (ℕ → ℕ → State → Walk) → Pair → List ℕ → List ℕ → State → Walk
    tested3 check p ls rs = pairwise (λ (l r : ℕ). pairwise check p (ops_of s l) (ops_of s r)) p ls rs

    unfoldable pub tested_lists : (ℕ → ℕ → State → Walk) → Pair → List ℕ → List ℕ → State → Walk
    tested_lists check p ls rs st = pass1 s ig p ls rs st >>= tested2 p ls rs >>= tested3 check p ls rs

    unfoldable pub tested_regions : ℕ → ℕ → ℕ → State → Walk
    tested_regions zero l r st = on st
    tested_regions (suc k) l r st = tested_lists (tested_ops (tested_regions k)) (pair_of region l r) (blocks_of s l) (blocks_of s r) st

    unfoldable pub tested_by : Sort → ℕ → ℕ → State → Walk
    tested_by op l r st = pair_ops s ig l r st >>= tested_ops (tested_regions levels) l r
    tested_by block l r st = tested_lists (tested_ops (tested_regions levels)) (pair_of block l r) (l ∷ []) (r ∷ []) st
    tested_by region l r st = tested_regions levels l r st

    -- ---- it is the comparison

    pub paired_counts : (l r : ℕ) (st st' : State) → pair_ops s ig l r st ≡ on st' → Counts l r
    unfolding pair_ops expect same_shells
    paired_counts l r st st' h = go (same_shells s ig (of_op l) (of_op r)) refl h
      where
        go : (b : Bool) → same_shells s ig (of_op l) (of_op r) ≡ b → cond b (on (enter_ops s l r st)) (ended (unequal (pair_of op l r)) st) ≡ on st' → Counts l r
        go true e k = (numbers_same _ _).0 (passed _ e).0
        go false e k = impossible cc

    pub regions_count : (l r : ℕ) → Counts l r → length (regions_of s l) ≡ length (regions_of s r)
    unfolding counts_of
    regions_count l r h = ap (λ (ns : List ℕ). get_or ns 1 0) h

    ops_tested : (f g : ℕ → ℕ → State → Walk) → ((l r : ℕ) (st : State) → f l r st ≡ g l r st) → (l r : ℕ) → Counts l r → (st : State)
        → check_ops s f l r st ≡ tested_ops g l r st
    unfolding check_ops tested_ops check_names tested_names names_agree
    ops_tested f g same l r c st =
        rw ((numbers_same (counts_of s (of_op l)) (counts_of s (of_op r))).1 c)
        (go (expect (operands_agree s st.mapping l r && successors_agree s st.mapping l r) (pair_of op l r) st st))
      where
        go : (w : Walk) → w >>= each_pair f (regions_of s l) (regions_of s r) ≡ w >>= pairwise g (pair_of op l r) (regions_of s l) (regions_of s r)
        go (on st₁) =
            testing f g (pair_of op l r) (λ (a b : ℕ). Unit {0}) (λ a b u. same a b) (regions_of s l) (regions_of s r)
            (same_length (regions_of s l) (regions_of s r) (regions_count l r c)) st₁
        go (ended why st₁) = refl

    lists_tested : (f g : ℕ → ℕ → State → Walk) → ((l r : ℕ) → Counts l r → (st : State) → f l r st ≡ g l r st) → (p : Pair) (ls rs : List ℕ) (st : State)
        → compare_lists s ig f p ls rs st ≡ tested_lists g p ls rs st
    unfolding compare_lists tested_lists pass1 pass2 pass3 tested2 tested3
    lists_tested f g same p ls rs st = first (pass1 s ig p ls rs st) refl
      where
        in_blocks : ℕ → ℕ → State → Walk
        in_blocks l r = pairwise (pair_ops s ig) (pair_of block l r) (ops_of s l) (ops_of s r)

        Inside : ℕ → ℕ → Type 0
        Inside l r = Pairs Counts (ops_of s l) (ops_of s r)

        inside : (l r : ℕ) (st₁ st₂ : State) → in_blocks l r st₁ ≡ on st₂ → Inside l r
        inside l r st₁ st₂ h = gained (pair_ops s ig) (pair_of block l r) Counts paired_counts (ops_of s l) (ops_of s r) st₁ st₂ h

        second : (st₁ : State) (w : Walk) → tested2 p ls rs st₁ ≡ w → w >>= pass3 s f ls rs ≡ w >>= tested3 g p ls rs
        second st₁ (on st₂) e =
            testing (λ (l r : ℕ). each_pair f (ops_of s l) (ops_of s r)) (λ (l r : ℕ). pairwise g p (ops_of s l) (ops_of s r)) p Inside
            (λ l r q. testing f g p Counts same (ops_of s l) (ops_of s r) q)
            ls rs (gained in_blocks p Inside inside ls rs st₁ st₂ e) st₂
        second st₁ (ended why st₂) e = refl

        first : (w : Walk) → pass1 s ig p ls rs st ≡ w → w >>= pass2 s ig ls rs >>= pass3 s f ls rs ≡ w >>= tested2 p ls rs >>= tested3 g p ls rs
        first (on st₁) e =
            let q = gained (pair_blocks s ig) p (λ (l r : ℕ). Unit {0}) (λ l r a b h. tt) ls rs st st₁ e in
            ap (λ (w : Walk). w >>= pass3 s f ls rs) (testing in_blocks in_blocks p (λ (l r : ℕ). Unit {0}) (λ l r u st₂. refl) ls rs q st₁)
            ∙ second st₁ (tested2 p ls rs st₁) refl
        first (ended why st₁) e = refl

    regions_tested : (k : ℕ) (l r : ℕ) (st : State) → compare_regions k s ig l r st ≡ tested_regions k l r st
    unfolding compare_regions tested_regions
    regions_tested zero l r st = refl
    regions_tested (suc k) l r st =
        lists_tested (check_ops s (compare_regions k s ig)) (tested_ops (tested_regions k))
        (ops_tested (compare_regions k s ig) (tested_regions k) (regions_tested k))
        (pair_of region l r) (blocks_of s l) (blocks_of s r) st

    full_tested : (l r : ℕ) → Counts l r → (st : State) → check_ops s (compare_regions levels s ig) l r st ≡ tested_ops (tested_regions levels) l r st
    full_tested = ops_tested (compare_regions levels s ig) (tested_regions levels) (regions_tested levels)

    pub compare_tested : (f : Sort) (l r : ℕ) (st : State) → compare_by s ig f l r st ≡ tested_by f l r st
    unfolding compare_by tested_by
    compare_tested op l r st = go (pair_ops s ig l r st) refl
      where
        go : (w : Walk) → pair_ops s ig l r st ≡ w → w >>= check_ops s (compare_regions levels s ig) l r ≡ w >>= tested_ops (tested_regions levels) l r
        go (on st₁) e = full_tested l r (paired_counts l r st st₁ e) st₁
        go (ended why st₁) e = refl
    compare_tested block l r st =
        lists_tested (check_ops s (compare_regions levels s ig)) (tested_ops (tested_regions levels)) full_tested (pair_of block l r) (l ∷ []) (r ∷ []) st
    compare_tested region l r st = regions_tested levels l r st
