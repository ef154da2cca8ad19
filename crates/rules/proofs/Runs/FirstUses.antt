-- The first operations of equal runs have the same operands, but for results of the left run: pass 2 begins with an empty mapping and enters
-- results of the left run alone, and pass 3 looks the first operands up in what it leaves. Assumes nothing.
use Prim.Native.Nat.{ℕ, zero, suc, ◌<◌}
use native.Mathlib.Decide.{ℕ_discrete}
use native.Mathlib.Nat.{not-suc-le-zero, le_of_suc-le-suc}
use mathlib.Core.Bool.{Bool, true, false, cond}
use mathlib.Core.List.Memᴰ
use mathlib.Core.List.{List, [], ◌∷◌, Memᴰ}
use mathlib.Core.Logic.{◌⊎◌, inl, inr}
use mathlib.Core.Path.{◌≡◌, refl, sym, ap, subst, ◌∙◌}
use borrow.Author.Tests.{eqb-true}
use lib.Dec.{eqb}
use lib.ListN.{length, get_or, set}
use lib.Seq.{get_or-set_other}
use Rattle.rules.specs.Lists.{all_pairs}
use Rattle.std.specs.List.{flat_map}
use Rattle.rules.specs.Store.{Store, op_at, type_of, values_of, results_of, max_values}
use Rattle.rules.specs.declared.types.Owner.TheVariants.{Op as of_op}
use Rattle.rules.specs.Fragments.{levels}
use Rattle.rules.specs.declared.types.Sort.TheVariants.{Op as op, Block as block}
use Rattle.rules.specs.Shells.{counts_of, same_shells}
use Rattle.rules.specs.declared.types.Ignore.{Ignore}
use Rattle.rules.specs.Mapping.{no_image, empty_mapping, or_self, image, enter_all}
use Rattle.rules.specs.Comparison.{State, Pair, unequal, Walk, on, ended, ◌>>=◌, pairwise, each_pair, pair_of, expect, enter_ops, pair_ops, operands_agree, successors_agree, check_names, check_ops, compare_regions, start}
use Rattle.rules.specs.Laws.{succeeds}
use Rattle.rules.specs.Runs.{compare_runs}
use Rattle.rules.proofs.Basics.Tests.{and_left, and_right, clash, impossible}
use Rattle.rules.proofs.Form.Tested.{Counts, gained, paired_counts}
use Rattle.rules.proofs.Basics.Entries.{none_at}

-- ---- lists

-- what holds of all pairs holds at each place
pairs_at : (p : ℕ → ℕ → Bool) (xs ys : List ℕ) → all_pairs p xs ys ≡ true → (i : ℕ) → i < length xs → i < length ys → p (get_or xs i 0) (get_or ys i 0) ≡ true
unfolding all_pairs
pairs_at p [] ys h i l m = absurd (not-suc-le-zero l)
pairs_at p (x ∷ xs) [] h i l m = absurd (not-suc-le-zero m)
pairs_at p (x ∷ xs) (y ∷ ys) h zero l m = and_left (p x y) (all_pairs p xs ys) h
pairs_at p (x ∷ xs) (y ∷ ys) h (suc i) l m = pairs_at p xs ys (and_right (p x y) (all_pairs p xs ys) h) i (le_of_suc-le-suc l) (le_of_suc-le-suc m)

-- ---- pass 2: a value stays unmapped, or is a result of the left run

module _ (v : ℕ) where
  abbrev Unmapped : List ℕ → Type 0
  Unmapped es = get_or es v no_image ≡ no_image

  own_image : (es : List ℕ) → Unmapped es → image es v ≡ v
  unfolding image or_self
  own_image es e = ap (λ (k : ℕ). cond (eqb k no_image) v k) e

  entered : (ls rs es : List ℕ) → Unmapped es → Unmapped (enter_all ls rs es) ⊎ Memᴰ v ls
  unfolding enter_all
  entered [] rs es h = inl h
  entered (l ∷ ls) [] es h = inl h
  entered (l ∷ ls) (r ∷ rs) es h = go (ℕ_discrete v l) (λ k. entered ls rs (set es l r) k)
    where
      go : Dec (v ≡ l) → (Unmapped (set es l r) → Unmapped (enter_all ls rs (set es l r)) ⊎ Memᴰ v ls)
          → Unmapped (enter_all ls rs (set es l r)) ⊎ Memᴰ v (l ∷ ls)
      go (yes e) later = inr (Memᴰ.head e)
      go (no ne) later = pick (later (get_or-set_other es l v r no_image ne ∙ h))
        where
          pick : Unmapped (enter_all ls rs (set es l r)) ⊎ Memᴰ v ls → Unmapped (enter_all ls rs (set es l r)) ⊎ Memᴰ v (l ∷ ls)
          pick (inl k) = inl k
          pick (inr m) = inr (Memᴰ.tail m)

  module _ (s : Store) (ig : Ignore) (p : Pair) where
    abbrev Paired : List ℕ → State → Type 0
    Paired ls st = Unmapped st.mapping.values ⊎ Memᴰ v (flat_map (results_of s) ls)

    paired : (ls rs : List ℕ) (st st' : State) → Unmapped st.mapping.values → pairwise (pair_ops s ig) p ls rs st ≡ on st' → Paired ls st'
    unfolding pairwise pair_ops expect enter_ops results_of
    paired [] [] st st' h k = let e : st ≡ st' = cc in inl (subst (λ (t : State). Unmapped t.mapping.values) e h)
    paired [] (r ∷ rs) st st' h k = impossible cc
    paired (l ∷ []) [] st st' h k = impossible cc
    paired (l ∷ m ∷ ls) [] st st' h k = impossible cc
    paired (l ∷ ls) (r ∷ rs) st st' h k = go (same_shells s ig (of_op l) (of_op r)) k (paired ls rs)
      where
        later : Paired ls st' → Paired (l ∷ ls) st'
        later (inl u) = inl u
        later (inr m) = inr (Memᴰ.append_right (results_of s l) m)

        go : (b : Bool) → cond b (on (enter_ops s l r st)) (ended (unequal (pair_of op l r)) st) >>= pairwise (pair_ops s ig) p ls rs ≡ on st'
            → ((t t' : State) → Unmapped t.mapping.values → pairwise (pair_ops s ig) p ls rs t ≡ on t' → Paired ls t') → Paired (l ∷ ls) st'
        go true e rest = by (entered (values_of s (of_op l)) (values_of s (of_op r)) st.mapping.values h)
          where
            by : Unmapped (enter_ops s l r st).mapping.values ⊎ Memᴰ v (values_of s (of_op l)) → Paired (l ∷ ls) st'
            by (inl u) = later (rest (enter_ops s l r st) st' u e)
            by (inr m) = inr (Memᴰ.append_left (flat_map (results_of s) ls) m)
        go false e rest = impossible cc

-- ---- pass 3: the first operands are looked up

-- of a walk that begins with a test and goes on, the test has passed
passed_test : (b : Bool) (p : Pair) (st : State) (f g : State → Walk) → succeeds (expect b p st st >>= f >>= g) ≡ true → b ≡ true
unfolding expect succeeds
passed_test true p st f g h = refl
passed_test false p st f g h = h

operands_count : (s : Store) (l r : ℕ) → Counts s l r → length (op_at s l).operands ≡ length (op_at s r).operands
unfolding counts_of
operands_count s l r h = ap (λ (ns : List ℕ). get_or ns 3 0) h

module _ (s : Store) (ig : Ignore) (b l r : ℕ) (ls rs : List ℕ) where
  abbrev lefts : List ℕ
  lefts = (op_at s l).operands

  abbrev rights : List ℕ
  rights = (op_at s r).operands

  abbrev check : ℕ → ℕ → State → Walk
  check = check_ops s (compare_regions levels s ig)

  -- pass 2 has come to this state
  module _ (st : State) (e : pairwise (pair_ops s ig) (pair_of block b b) (l ∷ ls) (r ∷ rs) (start empty_mapping) ≡ on st) where
    images : succeeds (each_pair check (l ∷ ls) (r ∷ rs) st) ≡ true → (i : ℕ) → i < length lefts → image st.mapping.values (get_or lefts i 0) ≡ get_or rights i 0
    unfolding each_pair check_ops check_names operands_agree
    images h i k =
        let agree = passed_test _ (pair_of op l r) st _ _ h in
        let counts = (gained (pair_ops s ig) (pair_of block b b) (Counts s) (paired_counts s ig) (l ∷ ls) (r ∷ rs) (start empty_mapping) st e).0 in
        let pair = pairs_at _ lefts rights (and_left (operands_agree s st.mapping l r) (successors_agree s st.mapping l r) agree) i k (subst (λ (n : ℕ). i < n) (operands_count s l r counts) k) in
        eqb-true _ _ (and_left (eqb (image st.mapping.values (get_or lefts i 0)) (get_or rights i 0)) (eqb (type_of s (get_or lefts i 0)) (type_of s (get_or rights i 0))) pair)

    same_or_own : succeeds (each_pair check (l ∷ ls) (r ∷ rs) st) ≡ true → (i : ℕ) → i < length lefts
        → (get_or lefts i 0 ≡ get_or rights i 0) ⊎ Memᴰ (get_or lefts i 0) (flat_map (results_of s) (l ∷ ls))
    unfolding start empty_mapping
    same_or_own h i k = go (paired v s ig (pair_of block b b) (l ∷ ls) (r ∷ rs) (start empty_mapping) st (none_at max_values v) e)
      where
        v : ℕ
        v = get_or lefts i 0

        go : Paired v s ig (pair_of block b b) (l ∷ ls) st → (v ≡ get_or rights i 0) ⊎ Memᴰ v (flat_map (results_of s) (l ∷ ls))
        go (inl u) = inl (sym (own_image v st.mapping.values u) ∙ images h i k)
        go (inr m) = inr m

  pub first_uses : succeeds (compare_runs s ig b (l ∷ ls) (r ∷ rs)) ≡ true → (i : ℕ) → i < length lefts
      → (get_or lefts i 0 ≡ get_or rights i 0) ⊎ Memᴰ (get_or lefts i 0) (flat_map (results_of s) (l ∷ ls))
  unfolding compare_runs succeeds
  first_uses h i k = go (pairwise (pair_ops s ig) (pair_of block b b) (l ∷ ls) (r ∷ rs) (start empty_mapping)) refl h
    where
      go : (w : Walk) → pairwise (pair_ops s ig) (pair_of block b b) (l ∷ ls) (r ∷ rs) (start empty_mapping) ≡ w
          → succeeds (w >>= each_pair check (l ∷ ls) (r ∷ rs)) ≡ true
          → (get_or lefts i 0 ≡ get_or rights i 0) ⊎ Memᴰ (get_or lefts i 0) (flat_map (results_of s) (l ∷ ls))
      go (on st) e g = same_or_own st e g i k
      go (ended why st) e g = clash g refl
