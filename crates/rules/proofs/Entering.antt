-- A comparison that notes the pairs that it enters is the comparison, and notes as many as `paired` counts. Where it doesn't fail, each list
-- that it goes through is one of two of the same length, so that what it notes is what the two fragments define, side by side. Assumes nothing.
use Prim.Native.Nat.{ℕ, zero, suc, ◌+◌}
use native.Mathlib.Omega.{arith}
use mathlib.Core.Bool.{Bool, true, false, ◌&&◌}
use mathlib.Core.List.{List, [], ◌∷◌, ◌++◌, append_assoc, append-nil}
use mathlib.Core.Path.{◌≡◌, refl, sym, ap, subst, subst₂, ◌∙◌}
use lib.ListN.{length, length-append}
use Rattle.std.proofs.lemmas.List.{map-append}
use Rattle.std.specs.List.{flat_map}
use Rattle.rules.specs.Store.{Store, ops_of, blocks_of, regions_of}
use Rattle.rules.specs.declared.types.Owner.{Owner}
use Rattle.rules.specs.declared.types.Owner.TheVariants.{Op as of_op, Block as of_block}
use Rattle.rules.specs.Fragments.{levels, full_op, list_steps, region_steps, steps, step_defines, defines_owners}
use Rattle.rules.specs.declared.types.Sort.{Sort}
use Rattle.rules.specs.declared.types.Sort.TheVariants.{Op as op, Block as block, Region as region}
use Rattle.rules.specs.Shells.{same_shells}
use Rattle.rules.specs.declared.types.Ignore.{Ignore}
use Rattle.rules.specs.Comparison.{State, Pair, WalkOf, Walk, on, ended, standing, ◌>>=◌, pairwise, each_pair, pair_of, expect, enter_ops, pair_ops, enter_blocks, pair_blocks, operands_agree, successors_agree, check_names, check_ops, pass1, pass2, pass3, compare_lists, compare_regions, compare_by, start, compare}
use Rattle.rules.specs.Laws.{succeeds}
use Rattle.rules.specs.Entering.{Entered, Noted, noted, noting, entering, testing, noted_ops, noted_blocks, noted_check, noted_lists, noted_regions, noted_by, entered, lefts, rights, unnoted, NotedIs, NotedCount, EnteredInOrder}
use Rattle.rules.proofs.Basics.Tests.{impossible}
use Rattle.rules.proofs.Basics.Distinct.{concat_map_concat_map, concat_map_same}
use Rattle.rules.proofs.Form.Tested.{Pairs, gained, tested_names, tested_ops, tested2, tested3, tested_lists, tested_regions, tested_by, compare_tested}
use Rattle.rules.proofs.Copying.Walked.{parts}

-- ---- without its notes

unnoted_noting : (ps qs : List Entered) (w : Walk) → unnoted (noting ps qs w) ≡ w
unfolding unnoted noting noted
unnoted_noting ps qs (on st) = refl
unnoted_noting ps qs (ended why st) = refl

unnoted_bind : (w : WalkOf Noted) (F : Noted → WalkOf Noted) (g : State → Walk) → ((t : Noted) → unnoted (F t) ≡ g t.state)
    → unnoted (w >>= F) ≡ unnoted w >>= g
unfolding unnoted
unnoted_bind (on t) F g h = h t
unnoted_bind (ended why t) F g h = refl

-- a step that notes, without its notes
Unnoted : (ℕ → ℕ → Noted → WalkOf Noted) → (ℕ → ℕ → State → Walk) → Type 0
Unnoted F g = (l r : ℕ) (t : Noted) → unnoted (F l r t) ≡ g l r t.state

unnoted_pairwise : (F : ℕ → ℕ → Noted → WalkOf Noted) (g : ℕ → ℕ → State → Walk) → Unnoted F g → (p : Pair) (ls rs : List ℕ) (t : Noted)
    → unnoted (pairwise F p ls rs t) ≡ pairwise g p ls rs t.state
unfolding unnoted pairwise Unnoted
unnoted_pairwise F g h p [] [] t = refl
unnoted_pairwise F g h p [] (r ∷ rs) t = refl
unnoted_pairwise F g h p (l ∷ []) [] t = refl
unnoted_pairwise F g h p (l ∷ m ∷ ls) [] t = refl
unnoted_pairwise F g h p (l ∷ ls) (r ∷ rs) t =
    unnoted_bind (F l r t) (pairwise F p ls rs) (pairwise g p ls rs) (unnoted_pairwise F g h p ls rs)
    ∙ ap (λ (w : Walk). w >>= pairwise g p ls rs) (h l r t)

unnoted_each : (F : ℕ → ℕ → Noted → WalkOf Noted) (g : ℕ → ℕ → State → Walk) → Unnoted F g → (ls rs : List ℕ) (t : Noted)
    → unnoted (each_pair F ls rs t) ≡ each_pair g ls rs t.state
unfolding unnoted each_pair Unnoted
unnoted_each F g h [] rs t = refl
unnoted_each F g h (l ∷ ls) [] t = refl
unnoted_each F g h (l ∷ ls) (r ∷ rs) t =
    unnoted_bind (F l r t) (each_pair F ls rs) (each_pair g ls rs) (unnoted_each F g h ls rs)
    ∙ ap (λ (w : Walk). w >>= each_pair g ls rs) (h l r t)

module _ (s : Store) (ig : Ignore) where
  unnoted_check : (F : ℕ → ℕ → Noted → WalkOf Noted) (g : ℕ → ℕ → State → Walk) → Unnoted F g → Unnoted (noted_check s ig F) (check_ops s g)
  unfolding Unnoted noted_check check_ops testing
  unnoted_check F g h l r t =
      unnoted_bind (testing (check_names s l r) t) (each_pair F (regions_of s l) (regions_of s r)) (each_pair g (regions_of s l) (regions_of s r))
      (unnoted_each F g h (regions_of s l) (regions_of s r))
      ∙ ap (λ (w : Walk). w >>= each_pair g (regions_of s l) (regions_of s r)) (unnoted_noting t.pairs t.pairs (check_names s l r t.state))

  unnoted_ops : Unnoted (noted_ops s ig) (pair_ops s ig)
  unfolding Unnoted noted_ops entering
  unnoted_ops l r t = unnoted_noting _ t.pairs (pair_ops s ig l r t.state)

  unnoted_blocks : Unnoted (noted_blocks s ig) (pair_blocks s ig)
  unfolding Unnoted noted_blocks entering
  unnoted_blocks l r t = unnoted_noting _ t.pairs (pair_blocks s ig l r t.state)

  unnoted_lists : (F : ℕ → ℕ → Noted → WalkOf Noted) (g : ℕ → ℕ → State → Walk) → Unnoted F g → (l r : ℕ) (f : Sort) (ls rs : List ℕ) (t : Noted)
      → unnoted (noted_lists s ig F l r f ls rs t) ≡ compare_lists s ig g (pair_of f l r) ls rs t.state
  unfolding noted_lists compare_lists pass1 pass2 pass3 Unnoted
  unnoted_lists F g h l r f ls rs t =
      unnoted_bind _ _ (pass3 s g ls rs)
      (unnoted_each (λ (a b : ℕ). each_pair F (ops_of s a) (ops_of s b)) (λ (a b : ℕ). each_pair g (ops_of s a) (ops_of s b)) (λ a b u. unnoted_each F g h (ops_of s a) (ops_of s b) u) ls rs)
      ∙ ap (λ (w : Walk). w >>= pass3 s g ls rs)
      (unnoted_bind _ _ (pass2 s ig ls rs)
      (unnoted_each _ (λ (a b : ℕ). pairwise (pair_ops s ig) (pair_of block a b) (ops_of s a) (ops_of s b))
      (λ a b u. unnoted_pairwise (noted_ops s ig) (pair_ops s ig) unnoted_ops (pair_of block a b) (ops_of s a) (ops_of s b) u) ls rs)
      ∙ ap (λ (w : Walk). w >>= pass2 s ig ls rs) (unnoted_pairwise (noted_blocks s ig) (pair_blocks s ig) unnoted_blocks (pair_of f l r) ls rs t))

  unnoted_regions : (k : ℕ) → Unnoted (noted_regions s ig k) (compare_regions k s ig)
  unfolding Unnoted unnoted noted_regions compare_regions
  unnoted_regions zero l r t = refl
  unnoted_regions (suc k) l r t =
      unnoted_lists (noted_check s ig (noted_regions s ig k)) (check_ops s (compare_regions k s ig))
      (unnoted_check (noted_regions s ig k) (compare_regions k s ig) (unnoted_regions k)) l r region (blocks_of s l) (blocks_of s r) t

  unnoted_full : Unnoted (noted_check s ig (noted_regions s ig levels)) (check_ops s (compare_regions levels s ig))
  unnoted_full = unnoted_check (noted_regions s ig levels) (compare_regions levels s ig) (unnoted_regions levels)

  unnoted_by : (f : Sort) (l r : ℕ) (t : Noted) → unnoted (noted_by s ig f l r t) ≡ compare_by s ig f l r t.state
  unfolding noted_by compare_by Unnoted
  unnoted_by op l r t =
      unnoted_bind (noted_ops s ig l r t) _ (check_ops s (compare_regions levels s ig) l r) (unnoted_full l r)
      ∙ ap (λ (w : Walk). w >>= check_ops s (compare_regions levels s ig) l r) (unnoted_ops l r t)
  unnoted_by block l r t = unnoted_lists _ _ unnoted_full l r block (l ∷ []) (r ∷ []) t
  unnoted_by region l r t = unnoted_regions levels l r t

pub noted_is : NotedIs
unfolding NotedIs noted
noted_is s ig f l r st ps = unnoted_by s ig f l r (noted st ps)

-- ---- as many as are counted

Counts : Noted → Type 0
Counts t = length t.pairs ≡ t.state.paired

Keeps : (Noted → WalkOf Noted) → Type 0
Keeps F = (t : Noted) → Counts t → Counts (standing (F t))

keeps_bind : (w : WalkOf Noted) (F : Noted → WalkOf Noted) → Keeps F → Counts (standing w) → Counts (standing (w >>= F))
unfolding Keeps standing
keeps_bind (on t) F h c = h t c
keeps_bind (ended why t) F h c = c

keeps_pairwise : (F : ℕ → ℕ → Noted → WalkOf Noted) → ((l r : ℕ) → Keeps (F l r)) → (p : Pair) (ls rs : List ℕ) → Keeps (pairwise F p ls rs)
unfolding Keeps pairwise standing
keeps_pairwise F h p [] [] t c = c
keeps_pairwise F h p [] (r ∷ rs) t c = c
keeps_pairwise F h p (l ∷ []) [] t c = c
keeps_pairwise F h p (l ∷ m ∷ ls) [] t c = c
keeps_pairwise F h p (l ∷ ls) (r ∷ rs) t c = keeps_bind (F l r t) (pairwise F p ls rs) (keeps_pairwise F h p ls rs) (h l r t c)

keeps_each : (F : ℕ → ℕ → Noted → WalkOf Noted) → ((l r : ℕ) → Keeps (F l r)) → (ls rs : List ℕ) → Keeps (each_pair F ls rs)
unfolding Keeps each_pair standing
keeps_each F h [] rs t c = c
keeps_each F h (l ∷ ls) [] t c = c
keeps_each F h (l ∷ ls) (r ∷ rs) t c = keeps_bind (F l r t) (each_pair F ls rs) (keeps_each F h ls rs) (h l r t c)

-- a pair of shells, entered where they are the same
keeps_pair : (l r : Owner) (b : Bool) (p : Pair) (enter : State → State) → ((st : State) → (enter st).paired ≡ st.paired + 1)
    → Keeps (entering l r (λ (st : State). expect b p st (enter st)))
unfolding Keeps Counts entering noting noted expect standing
keeps_pair l r true p enter e t c = omega (arith, e t.state, length-append t.pairs (record { left = l; right = r } ∷ []))
keeps_pair l r false p enter e t c = c

module _ (s : Store) (ig : Ignore) where
  keeps_ops : (l r : ℕ) → Keeps (noted_ops s ig l r)
  unfolding noted_ops pair_ops enter_ops
  keeps_ops l r = keeps_pair (of_op l) (of_op r) (same_shells s ig (of_op l) (of_op r)) (pair_of op l r) (enter_ops s l r) (λ st. refl)

  keeps_blocks : (l r : ℕ) → Keeps (noted_blocks s ig l r)
  unfolding noted_blocks pair_blocks enter_blocks
  keeps_blocks l r = keeps_pair (of_block l) (of_block r) (same_shells s ig (of_block l) (of_block r)) (pair_of block l r) (enter_blocks s l r) (λ st. refl)

  keeps_check : (F : ℕ → ℕ → Noted → WalkOf Noted) → ((l r : ℕ) → Keeps (F l r)) → (l r : ℕ) → Keeps (noted_check s ig F l r)
  unfolding Keeps noted_check testing check_names expect noting noted standing
  keeps_check F h l r t c =
      keeps_bind (testing (check_names s l r) t) (each_pair F (regions_of s l) (regions_of s r)) (keeps_each F h (regions_of s l) (regions_of s r))
      (tested (operands_agree s t.state.mapping l r && successors_agree s t.state.mapping l r))
    where
      tested : (b : Bool) → Counts (standing (noting t.pairs t.pairs (expect b (pair_of op l r) t.state t.state)))
      tested true = c
      tested false = c

  keeps_lists : (F : ℕ → ℕ → Noted → WalkOf Noted) → ((l r : ℕ) → Keeps (F l r)) → (l r : ℕ) (f : Sort) (ls rs : List ℕ) → Keeps (noted_lists s ig F l r f ls rs)
  unfolding Keeps noted_lists
  keeps_lists F h l r f ls rs t c =
      keeps_bind _ _ (keeps_each _ (λ a b. keeps_each F h (ops_of s a) (ops_of s b)) ls rs)
      (keeps_bind _ _ (keeps_each _ (λ a b. keeps_pairwise (noted_ops s ig) keeps_ops (pair_of block a b) (ops_of s a) (ops_of s b)) ls rs)
      (keeps_pairwise (noted_blocks s ig) keeps_blocks (pair_of f l r) ls rs t c))

  keeps_regions : (k l r : ℕ) → Keeps (noted_regions s ig k l r)
  unfolding Keeps noted_regions standing
  keeps_regions zero l r t c = c
  keeps_regions (suc k) l r t c = keeps_lists (noted_check s ig (noted_regions s ig k)) (keeps_check _ (keeps_regions k)) l r region (blocks_of s l) (blocks_of s r) t c

  keeps_by : (f : Sort) (l r : ℕ) → Keeps (noted_by s ig f l r)
  unfolding Keeps noted_by
  keeps_by op l r t c = keeps_bind (noted_ops s ig l r t) _ (keeps_check _ (keeps_regions levels) l r) (keeps_ops l r t c)
  keeps_by block l r t c = keeps_lists _ (keeps_check _ (keeps_regions levels)) l r block (l ∷ []) (r ∷ []) t c
  keeps_by region l r t c = keeps_regions levels l r t c

standing_unnoted : (w : WalkOf Noted) → (standing w).state ≡ standing (unnoted w)
unfolding standing unnoted
standing_unnoted (on t) = refl
standing_unnoted (ended why t) = refl

pub noted_count : NotedCount
unfolding NotedCount NotedIs entered compare Keeps Counts noted start
noted_count s ig f l r m =
    let t : Noted = noted (start m) [] in
    keeps_by s ig f l r t refl
    ∙ ap (λ (st : State). st.paired) (standing_unnoted (noted_by s ig f l r t) ∙ ap standing (noted_is s ig f l r (start m) []))

-- ---- where a walk goes on

went_on : {S : Type 0} (w : WalkOf S) (F : S → WalkOf S) (t' : S) → w >>= F ≡ on t' → (t : S) × ((w ≡ on t) × (F t ≡ on t'))
went_on (on t) F t' h = (t, (refl, h))
went_on (ended why t) F t' h = impossible cc

-- ---- two fragments whose lists have the same lengths

module _ (s : Store) where
  Ops_alike : (ℕ → ℕ → Type 0) → ℕ → ℕ → Type 0
  Ops_alike R l r = Pairs R (regions_of s l) (regions_of s r)

  Lists_alike : (ℕ → ℕ → Type 0) → List ℕ → List ℕ → Type 0
  Lists_alike R = Pairs (λ (a b : ℕ). Pairs R (ops_of s a) (ops_of s b))

  Regions_alike : ℕ → ℕ → ℕ → Type 0
  Regions_alike zero l r = Unit {0}
  Regions_alike (suc k) l r = Lists_alike (Ops_alike (Regions_alike k)) (blocks_of s l) (blocks_of s r)

  ops_alike : (g : ℕ → ℕ → State → Walk) (R : ℕ → ℕ → Type 0) → ((l r : ℕ) (st st' : State) → g l r st ≡ on st' → R l r)
      → (l r : ℕ) (st st' : State) → tested_ops s g l r st ≡ on st' → Ops_alike R l r
  unfolding tested_ops Ops_alike
  ops_alike g R step l r st st' h =
      let w = went_on (tested_names s l r st) (pairwise g (pair_of op l r) (regions_of s l) (regions_of s r)) st' h in
      gained g (pair_of op l r) R step (regions_of s l) (regions_of s r) w.0 st' w.1.1

  module _ (ig : Ignore) where
    lists_alike : (g : ℕ → ℕ → State → Walk) (R : ℕ → ℕ → Type 0) → ((l r : ℕ) (st st' : State) → g l r st ≡ on st' → R l r)
        → (p : Pair) (ls rs : List ℕ) (st st' : State) → tested_lists s ig g p ls rs st ≡ on st' → Lists_alike R ls rs
    unfolding tested_lists tested3 Lists_alike
    lists_alike g R step p ls rs st st' h =
        let w = went_on (pass1 s ig p ls rs st >>= tested2 s ig p ls rs) (tested3 s ig g p ls rs) st' h in
        gained (λ (a b : ℕ). pairwise g p (ops_of s a) (ops_of s b)) p (λ (a b : ℕ). Pairs R (ops_of s a) (ops_of s b))
        (λ a b. gained g p R step (ops_of s a) (ops_of s b)) ls rs w.0 st' w.1.1

    regions_alike : (k l r : ℕ) (st st' : State) → tested_regions s ig k l r st ≡ on st' → Regions_alike k l r
    unfolding tested_regions Regions_alike
    regions_alike zero l r st st' h = tt
    regions_alike (suc k) l r st st' h =
        lists_alike (tested_ops s (tested_regions s ig k)) (Ops_alike (Regions_alike k)) (ops_alike (tested_regions s ig k) (Regions_alike k) (regions_alike k))
        (pair_of region l r) (blocks_of s l) (blocks_of s r) st st' h

    Full_alike : ℕ → ℕ → Type 0
    Full_alike = Ops_alike (Regions_alike levels)

    full_alike : (l r : ℕ) (st st' : State) → tested_ops s (tested_regions s ig levels) l r st ≡ on st' → Full_alike l r
    unfolding Full_alike
    full_alike = ops_alike (tested_regions s ig levels) (Regions_alike levels) (regions_alike levels)

-- ---- what is noted where a walk goes on

-- from t on, these have been noted on the left, and these on the right
record Notes (t t' : Noted) (ls rs : List Owner) : Type 0 where
  on_left : lefts t'.pairs ≡ lefts t.pairs ++ ls
  on_right : rights t'.pairs ≡ rights t.pairs ++ rs

notes_none : (t : Noted) → Notes t t [] []
notes_none t = record { on_left = sym (append-nil (lefts t.pairs)); on_right = sym (append-nil (rights t.pairs)) }

notes_then : {t u v : Noted} {ks ls xs ys : List Owner} → Notes t u ks ls → Notes u v xs ys → Notes t v (ks ++ xs) (ls ++ ys)
notes_then {t} {u} {v} {ks} {ls} {xs} {ys} m n =
    record {
      on_left = n.on_left ∙ ap (λ (os : List Owner). os ++ xs) m.on_left ∙ append_assoc (lefts t.pairs) ks xs;
      on_right = n.on_right ∙ ap (λ (os : List Owner). os ++ ys) m.on_right ∙ append_assoc (rights t.pairs) ls ys;
    }

-- where it goes on, a step from l and r notes these owners of each, given that the two are alike
Adds : (ℕ → List Owner) → (ℕ → ℕ → Type 0) → (ℕ → ℕ → Noted → WalkOf Noted) → Type 0
Adds o R F = (l r : ℕ) → R l r → (t t' : Noted) → F l r t ≡ on t' → Notes t t' (o l) (o r)

adds_each : (o : ℕ → List Owner) (R : ℕ → ℕ → Type 0) (F : ℕ → ℕ → Noted → WalkOf Noted) → Adds o R F
    → (ls rs : List ℕ) → Pairs R ls rs → (t t' : Noted) → each_pair F ls rs t ≡ on t' → Notes t t' (flat_map o ls) (flat_map o rs)
unfolding Adds each_pair
adds_each o R F h [] [] q t t' e = same t t' e
  where
    same : (t t' : Noted) → on t ≡ on t' → Notes t t' [] []
    same t t' e = let k : t ≡ t' = cc in subst (λ (u : Noted). Notes t u [] []) k (notes_none t)
adds_each o R F h [] (r ∷ rs) q t t' e = absurd q
adds_each o R F h (l ∷ ls) [] q t t' e = absurd q
adds_each o R F h (l ∷ ls) (r ∷ rs) q t t' e =
    let w = went_on (F l r t) (each_pair F ls rs) t' e in
    notes_then (h l r q.0 t w.0 w.1.0) (adds_each o R F h ls rs q.1 w.0 t' w.1.1)

adds_pairwise : (o : ℕ → List Owner) (F : ℕ → ℕ → Noted → WalkOf Noted) → Adds o (λ (l r : ℕ). Unit {0}) F
    → (p : Pair) (ls rs : List ℕ) (t t' : Noted) → pairwise F p ls rs t ≡ on t' → Notes t t' (flat_map o ls) (flat_map o rs)
unfolding Adds pairwise
adds_pairwise o F h p [] [] t t' e = same t t' e
  where
    same : (t t' : Noted) → on t ≡ on t' → Notes t t' [] []
    same t t' e = let k : t ≡ t' = cc in subst (λ (u : Noted). Notes t u [] []) k (notes_none t)
adds_pairwise o F h p [] (r ∷ rs) t t' e = impossible cc
adds_pairwise o F h p (l ∷ []) [] t t' e = impossible cc
adds_pairwise o F h p (l ∷ m ∷ ls) [] t t' e = impossible cc
adds_pairwise o F h p (l ∷ ls) (r ∷ rs) t t' e =
    let w = went_on (F l r t) (pairwise F p ls rs) t' e in
    notes_then (h l r tt t w.0 w.1.0) (adds_pairwise o F h p ls rs w.0 t' w.1.1)

-- a pair of shells
adds_pair : (l r : Owner) (b : Bool) (p : Pair) (st' : State) (t t' : Noted)
    → noting (t.pairs ++ (record { left = l; right = r } ∷ [])) t.pairs (expect b p t.state st') ≡ on t' → Notes t t' (l ∷ []) (r ∷ [])
unfolding noting noted expect lefts rights
adds_pair l r true p st' t t' e =
    let k : noted st' (t.pairs ++ (record { left = l; right = r } ∷ [])) ≡ t' = cc in
    subst (λ (u : Noted). Notes t u (l ∷ []) (r ∷ [])) k
    (record { on_left = map-append (λ (p : Entered). p.left) t.pairs _; on_right = map-append (λ (p : Entered). p.right) t.pairs _ })
adds_pair l r false p st' t t' e = impossible cc

-- names
adds_tested : (b : Bool) (p : Pair) (t t' : Noted) → noting t.pairs t.pairs (expect b p t.state t.state) ≡ on t' → Notes t t' [] []
unfolding noting noted expect
adds_tested true p t t' e = let k : t ≡ t' = cc in subst (λ (u : Noted). Notes t u [] []) k (notes_none t)
adds_tested false p t t' e = impossible cc

module _ (s : Store) (ig : Ignore) where
  op_alone : ℕ → List Owner
  op_alone n = of_op n ∷ []

  block_alone : ℕ → List Owner
  block_alone b = of_block b ∷ []

  adds_ops : Adds op_alone (λ (l r : ℕ). Unit {0}) (noted_ops s ig)
  unfolding Adds noted_ops entering pair_ops op_alone
  adds_ops l r u t t' e = adds_pair (of_op l) (of_op r) (same_shells s ig (of_op l) (of_op r)) (pair_of op l r) (enter_ops s l r t.state) t t' e

  adds_blocks : Adds block_alone (λ (l r : ℕ). Unit {0}) (noted_blocks s ig)
  unfolding Adds noted_blocks entering pair_blocks block_alone
  adds_blocks l r u t t' e = adds_pair (of_block l) (of_block r) (same_shells s ig (of_block l) (of_block r)) (pair_of block l r) (enter_blocks s l r t.state) t t' e

  adds_check : (o : ℕ → List Owner) (R : ℕ → ℕ → Type 0) (F : ℕ → ℕ → Noted → WalkOf Noted) → Adds o R F
      → Adds (λ (n : ℕ). flat_map o (regions_of s n)) (Ops_alike s R) (noted_check s ig F)
  unfolding Adds Ops_alike noted_check testing check_names
  adds_check o R F h l r q t t' e =
      let w = went_on (testing (check_names s l r) t) (each_pair F (regions_of s l) (regions_of s r)) t' e in
      notes_then
      (adds_tested (operands_agree s t.state.mapping l r && successors_agree s t.state.mapping l r) (pair_of op l r) t w.0 w.1.0)
      (adds_each o R F h (regions_of s l) (regions_of s r) q w.0 t' w.1.1)

  -- of a list of blocks: these, their operations, and what each of these holds
  listed : (ℕ → List Owner) → List ℕ → List Owner
  listed o bs =
      flat_map block_alone bs ++ flat_map (λ (b : ℕ). flat_map op_alone (ops_of s b)) bs ++ flat_map (λ (b : ℕ). flat_map o (ops_of s b)) bs

  adds_lists : (o : ℕ → List Owner) (R : ℕ → ℕ → Type 0) (F : ℕ → ℕ → Noted → WalkOf Noted) → Adds o R F
      → (l r : ℕ) (f : Sort) (ls rs : List ℕ) → Lists_alike s R ls rs → (t t' : Noted) → noted_lists s ig F l r f ls rs t ≡ on t' → Notes t t' (listed o ls) (listed o rs)
  unfolding Adds Lists_alike noted_lists listed
  adds_lists o R F h l r f ls rs q t t' e =
      let w = went_on _ (each_pair (λ (a b : ℕ). each_pair F (ops_of s a) (ops_of s b)) ls rs) t' e in
      let v = went_on _ (each_pair (λ (a b : ℕ). pairwise (noted_ops s ig) (pair_of block a b) (ops_of s a) (ops_of s b)) ls rs) w.0 w.1.0 in
      notes_then
      (notes_then (adds_pairwise block_alone (noted_blocks s ig) adds_blocks (pair_of f l r) ls rs t v.0 v.1.0)
      (adds_each _ (λ (a b : ℕ). Pairs R (ops_of s a) (ops_of s b)) _
      (λ a b u. adds_pairwise op_alone (noted_ops s ig) adds_ops (pair_of block a b) (ops_of s a) (ops_of s b)) ls rs q v.0 w.0 v.1.1))
      (adds_each _ (λ (a b : ℕ). Pairs R (ops_of s a) (ops_of s b)) _ (λ a b. adds_each o R F h (ops_of s a) (ops_of s b)) ls rs q w.0 t' w.1.1)

  -- ---- that is what the walk defines

  region_owners : ℕ → ℕ → List Owner
  region_owners k r = flat_map step_defines (region_steps k s r)

  op_owners : ℕ → ℕ → List Owner
  op_owners k n = flat_map (region_owners k) (regions_of s n)

  of_full : (k n : ℕ) → flat_map step_defines (full_op s (region_steps k s) n) ≡ op_owners k n
  unfolding full_op step_defines op_owners region_owners
  of_full k n = concat_map_concat_map step_defines (region_steps k s) (regions_of s n)

  of_list : (k : ℕ) (bs : List ℕ) → flat_map step_defines (list_steps s (full_op s (region_steps k s)) bs) ≡ listed (op_owners k) bs
  unfolding step_defines listed op_alone block_alone
  of_list k bs =
      parts s step_defines (λ j. refl) (full_op s (region_steps k s)) bs
      ∙ ap (λ (xs : List Owner). flat_map block_alone bs ++ flat_map (λ (b : ℕ). flat_map op_alone (ops_of s b)) bs ++ xs)
      (concat_map_same _ _ bs (λ b m. concat_map_same _ _ (ops_of s b) (λ n i. of_full k n)))

  adds_regions : (k : ℕ) → Adds (region_owners k) (Regions_alike s k) (noted_regions s ig k)
  unfolding Adds Regions_alike noted_regions region_owners region_steps op_owners
  adds_regions zero l r q t t' e = let k : t ≡ t' = cc in subst (λ (u : Noted). Notes t u [] []) k (notes_none t)
  adds_regions (suc k) l r q t t' e =
      let full = adds_check (region_owners k) (Regions_alike s k) (noted_regions s ig k) (adds_regions k) in
      subst₂ (Notes t t') (sym (of_list k (blocks_of s l))) (sym (of_list k (blocks_of s r)))
      (adds_lists (op_owners k) (Ops_alike s (Regions_alike s k)) (noted_check s ig (noted_regions s ig k)) full l r region (blocks_of s l) (blocks_of s r) q t t' e)

  adds_full : Adds (op_owners levels) (Full_alike s ig) (noted_check s ig (noted_regions s ig levels))
  unfolding Adds Full_alike op_owners
  adds_full = adds_check (region_owners levels) (Regions_alike s levels) (noted_regions s ig levels) (adds_regions levels)

  adds_by : (f : Sort) (l r : ℕ) (t t' : Noted) → noted_by s ig f l r t ≡ on t' → tested_by s ig f l r t.state ≡ on t'.state
      → Notes t t' (defines_owners s f l) (defines_owners s f r)
  unfolding noted_by tested_by defines_owners steps step_defines Adds region_owners Full_alike op_alone
  adds_by op l r t t' e h =
      let w = went_on (noted_ops s ig l r t) (noted_check s ig (noted_regions s ig levels) l r) t' e in
      let v = went_on (pair_ops s ig l r t.state) (tested_ops s (tested_regions s ig levels) l r) t'.state h in
      notes_then (adds_ops l r tt t w.0 w.1.0)
      (subst₂ (Notes w.0 t') (sym (of_full levels l)) (sym (of_full levels r)) (adds_full l r (full_alike s ig l r v.0 t'.state v.1.1) w.0 t' w.1.1))
  adds_by block l r t t' e h =
      subst₂ (Notes t t') (sym (of_list levels (l ∷ []))) (sym (of_list levels (r ∷ [])))
      (adds_lists (op_owners levels) (Full_alike s ig) (noted_check s ig (noted_regions s ig levels)) adds_full l r block (l ∷ []) (r ∷ [])
      (lists_alike s ig (tested_ops s (tested_regions s ig levels)) (Full_alike s ig) (full_alike s ig) (pair_of block l r) (l ∷ []) (r ∷ []) t.state t'.state h) t t' e)
  adds_by region l r t t' e h = adds_regions levels l r (regions_alike s ig levels l r t.state t'.state h) t t' e

pub entered_in_order : EnteredInOrder
unfolding EnteredInOrder NotedIs entered compare succeeds noted standing lefts rights unnoted
entered_in_order s ig f l r m h =
    let t : Noted = noted (start m) [] in
    go (noted_by s ig f l r t) refl (ap succeeds (noted_is s ig f l r (start m) []) ∙ h)
  where
    go : (w : WalkOf Noted) → noted_by s ig f l r (noted (start m) []) ≡ w → succeeds (unnoted w) ≡ true
        → (lefts (standing (noted_by s ig f l r (noted (start m) []))).pairs ≡ defines_owners s f l)
        × (rights (standing (noted_by s ig f l r (noted (start m) []))).pairs ≡ defines_owners s f r)
    go (on t') e k =
        let plain : compare_by s ig f l r (start m) ≡ on t'.state = sym (noted_is s ig f l r (start m) []) ∙ ap unnoted e in
        let n = adds_by s ig f l r (noted (start m) []) t' e (sym (compare_tested s ig f l r (start m)) ∙ plain) in
        rw e (n.on_left, n.on_right)
    go (ended why t') e k = impossible cc
