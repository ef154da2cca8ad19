-- The Rust's comparison is 01's, step by step, until 01's walk meets a list that is exactly one longer on the left, where it ends and the
-- Rust's `zip` has swallowed the item. What the Rust relies on after a pass, lists of one length, 01's walk has tested by then; and levels
-- are enough for both. Assumes nothing.
use Prim.Native.Nat.{ℕ, zero, suc}
use native.Mathlib.Omega.{arith}
use mathlib.Core.Bool.{Bool, true, false, cond, ◌&&◌}
use mathlib.Core.List.{List, [], ◌∷◌, Memᴰ}
use mathlib.Core.Logic.{◌⊎◌, inl, inr}
use mathlib.Core.Path.{◌≡◌, refl, sym, ap, subst, ◌∙◌}
use borrow.Author.Tests.{ltb-true, ltb-false}
use lib.Dec.{ltb}
use lib.ListN.{length, get_or, get_or-eq_default}
use Rattle.rules.specs.Store.{Store, no_op, no_block, op_at, block_at, ops_of, blocks_of, regions_of, keys_rise}
use Rattle.rules.specs.Fragments.{levels}
use Rattle.rules.specs.declared.types.Sort.{Sort}
use Rattle.rules.specs.declared.types.Sort.TheVariants.{Op as op, Block as block, Region as region}
use Rattle.rules.specs.declared.types.Ignore.{Ignore}
use Rattle.rules.specs.Mapping.{Mapping}
use Rattle.rules.specs.Comparison.{State, Pair, Stop, unequal, one_longer, Walk, on, ended, standing, ◌>>=◌, pairwise, each_pair, pair_of, pair_ops, pair_blocks, operands_agree, successors_agree, check_names, check_ops, pass1, pass2, pass3, compare_lists, compare_regions, compare_by, start, compare}
use Rattle.rules.specs.Rust.{next, Zipped, zip, differ, count_from, up_to, EqResult, Eq, FirstNEQOps, FirstNEQRegions, FirstNEQBlocks, no_answer, Returned, answers, or_return, and_then, for_each, op_eq_map, block_eq_map, get_region, with_both, for_regions, op_eq_mapped, ops_of_blocks, full_ops_of_blocks, Err, ok, or_return_ok, or_else, resolved, blocks_eq, region_eq, basic_block_eq, operation_eq, rust_eq}
use Rattle.rules.specs.Agreement.{named_by, named, result_of, answered, met_one_longer, ComparesAsTheRust}
use Rattle.rules.proofs.Basics.Tests.{clash}
use Rattle.rules.proofs.Soundness.Sound.{Sound, facts, sound_of}
use Rattle.rules.proofs.Soundness.KeptAttributes.{none_hold, keys_rise_lem}
use Rattle.rules.proofs.Walking.Levels.{by_levels}
use Rattle.rules.proofs.Form.Tested.{Pairs, gained, testing, same_length, Counts, paired_counts, regions_count}
use Rattle.rules.proofs.Rust.Shells.{Opposite, answered_expect, ops_map, blocks_map, operands_agree_lem, successors_agree_lem}

-- ---- the Rust's returns

-- what names a pair is returned
named_returns : (p : Pair) (m : Mapping) (rest : Mapping → Returned) → or_return (named p) m rest ≡ answers (named p) m
unfolding named named_by or_return
named_returns p m rest = go p.sort
  where
    go : (f : Sort) → or_return (named_by f p.left p.right) m rest ≡ answers (named_by f p.left p.right) m
    go op = refl
    go block = refl
    go region = refl

then_assoc : (c : Returned) (f g : Mapping → Returned) → and_then (and_then c f) g ≡ and_then c (λ (m : Mapping). and_then (f m) g)
unfolding and_then or_return answers
then_assoc c f g = go c.result c.mapper
  where
    go : (r : EqResult) (m : Mapping) → and_then (or_return r m f) g ≡ or_return r m (λ (k : Mapping). and_then (f k) g)
    go Eq m = refl
    go (FirstNEQOps l r) m = refl
    go (FirstNEQRegions l r) m = refl
    go (FirstNEQBlocks l r) m = refl
    go no_answer m = refl

then_same : (c : Returned) (f g : Mapping → Returned) → ((m : Mapping) → f m ≡ g m) → and_then c f ≡ and_then c g
unfolding and_then or_return
then_same c f g h = go c.result c.mapper
  where
    go : (r : EqResult) (m : Mapping) → or_return r m f ≡ or_return r m g
    go Eq m = h m
    go (FirstNEQOps l r) m = refl
    go (FirstNEQRegions l r) m = refl
    go (FirstNEQBlocks l r) m = refl
    go no_answer m = refl

-- the lengths are tested, and then comes the rest
same_ends : Zipped → EqResult → (Mapping → Returned) → Mapping → Returned
same_ends z neq rest mapper = cond (differ (next z.left) (next z.right)) (answers neq mapper) (rest mapper)

-- `blocks_eq` with what its caller makes of `Err`
resolved_blocks : (s : Store) (ig : Ignore) (f : ℕ → ℕ → Mapping → Returned) (err : EqResult) (ls rs : List ℕ) (m : Mapping)
    → resolved err (blocks_eq s ig f ls rs m)
    ≡ and_then (for_each (block_eq_map s ig) (zip ls rs).pairs m)
    (same_ends (zip ls rs) err (λ (k : Mapping). and_then (for_each (ops_of_blocks s ig) (zip ls rs).pairs k) (for_each (full_ops_of_blocks s f) (zip ls rs).pairs)))
unfolding blocks_eq same_ends resolved or_else ok and_then or_return or_return_ok answers
resolved_blocks s ig f err ls rs m = go (for_each (block_eq_map s ig) (zip ls rs).pairs m).result (for_each (block_eq_map s ig) (zip ls rs).pairs m).mapper
  where
    rest : Mapping → Returned
    rest k = and_then (for_each (ops_of_blocks s ig) (zip ls rs).pairs k) (for_each (full_ops_of_blocks s f) (zip ls rs).pairs)

    ends : (d : Bool) (k : Mapping) → resolved err (cond d (record { result = Err; mapper = k }) (ok (rest k))) ≡ cond d (answers err k) (rest k)
    ends true k = refl
    ends false k = refl

    go : (r : EqResult) (k : Mapping)
        → resolved err (or_return_ok r k (λ (n : Mapping). cond (differ (next (zip ls rs).left) (next (zip ls rs).right)) (record { result = Err; mapper = n }) (ok (rest n))))
        ≡ or_return r k (same_ends (zip ls rs) err rest)
    go Eq k = ends (differ (next (zip ls rs).left) (next (zip ls rs).right)) k
    go (FirstNEQOps l r) k = refl
    go (FirstNEQRegions l r) k = refl
    go (FirstNEQBlocks l r) k = refl
    go no_answer k = refl

-- ---- a walk and the Rust's answer

-- the walk has met a list that is one longer on the left, or says what the Rust says
abbrev Agree : Walk → Returned → Type 0
Agree w c = (met_one_longer w ≡ true) ⊎ (answered w ≡ c)

ended_returns : (why : Stop) (st : State) (g : Mapping → Returned) → and_then (answered (ended why st)) g ≡ answered (ended why st)
unfolding answered result_of standing and_then answers or_return
ended_returns (unequal p) st g = named_returns p st.mapping g
ended_returns (one_longer p) st g = named_returns p st.mapping g

agree_bind : (w : Walk) (c : Returned) (f : State → Walk) (g : Mapping → Returned)
    → Agree w c → ((st : State) → w ≡ on st → Agree (f st) (g st.mapping)) → Agree (w >>= f) (and_then c g)
unfolding met_one_longer answered result_of standing and_then answers or_return
agree_bind (on st) c f g (inl e) h = clash e refl
agree_bind (on st) c f g (inr e) h = subst (λ (d : Returned). Agree (f st) (and_then d g)) e (h st refl)
agree_bind (ended why st) c f g (inl e) h = inl e
agree_bind (ended why st) c f g (inr e) h = inr (sym (ended_returns why st g) ∙ ap (λ (d : Returned). and_then d g) e)

-- pair by pair, where each pair is related
agree_each : (f : ℕ → ℕ → State → Walk) (g : ℕ → ℕ → Mapping → Returned) (R : ℕ → ℕ → Type 0) (ls rs : List ℕ)
    → ((l r : ℕ) → Memᴰ l ls → R l r → (st : State) → Agree (f l r st) (g l r st.mapping))
    → Pairs R ls rs → (st : State) → Agree (each_pair f ls rs st) (for_each g (zip ls rs).pairs st.mapping)
unfolding each_pair for_each zip answered result_of standing
agree_each f g R [] [] h q st = inr refl
agree_each f g R [] (r ∷ rs) h q st = absurd q
agree_each f g R (l ∷ ls) [] h q st = absurd q
agree_each f g R (l ∷ ls) (r ∷ rs) h q st =
    agree_bind (f l r st) (g l r st.mapping) (each_pair f ls rs) (for_each g (zip ls rs).pairs) (h l r (Memᴰ.head refl) q.0 st)
    (λ st' e. agree_each f g R ls rs (λ m n k. h m n (Memᴰ.tail k)) q.1 st')

-- pair by pair up to the shorter end, and then the lengths
agree_pairwise : (f : ℕ → ℕ → State → Walk) (g : ℕ → ℕ → Mapping → Returned)
    → ((l r : ℕ) (st : State) → Agree (f l r st) (g l r st.mapping))
    → (p : Pair) (ls rs : List ℕ) (st : State)
    → Agree (pairwise f p ls rs st) (and_then (for_each g (zip ls rs).pairs st.mapping) (same_ends (zip ls rs) (named p) (answers Eq)))
unfolding pairwise for_each zip answered result_of standing met_one_longer same_ends next differ and_then answers or_return
agree_pairwise f g h p [] [] st = inr refl
agree_pairwise f g h p [] (r ∷ rs) st = inr refl
agree_pairwise f g h p (l ∷ []) [] st = inl refl
agree_pairwise f g h p (l ∷ m ∷ ls) [] st = inr refl
agree_pairwise f g h p (l ∷ ls) (r ∷ rs) st =
    subst (Agree (f l r st >>= pairwise f p ls rs))
    (sym (then_assoc (g l r st.mapping) (for_each g (zip ls rs).pairs) (same_ends (zip ls rs) (named p) (answers Eq))))
    (agree_bind (f l r st) (g l r st.mapping) (pairwise f p ls rs) _ (h l r st) (λ st' e. agree_pairwise f g h p ls rs st'))

-- ---- regions of one number, by their places

shifted : (f : ℕ → ℕ → Mapping → Returned) (x y : ℕ) (xs ys : List ℕ) (a n : ℕ)
    → for_regions f (x ∷ xs) (y ∷ ys) (count_from (suc a) n) ≡ for_regions f xs ys (count_from a n)
unfolding for_regions count_from get_region
shifted f x y xs ys a zero = refl
shifted f x y xs ys a (suc n) = λ i m. and_then (with_both f (get_region xs a) (get_region ys a) m) (shifted f x y xs ys (suc a) n i)

by_place : (f : ℕ → ℕ → Mapping → Returned) (xs ys : List ℕ) → length xs ≡ length ys → for_regions f xs ys (up_to (length xs)) ≡ for_each f (zip xs ys).pairs
unfolding for_regions for_each up_to count_from get_region with_both zip
by_place f [] [] l = refl
by_place f [] (y ∷ ys) l = absurd (omega arith)
by_place f (x ∷ xs) [] l = absurd (omega arith)
by_place f (x ∷ xs) (y ∷ ys) l =
    let rest : for_regions f (x ∷ xs) (y ∷ ys) (count_from 1 (length xs)) ≡ for_each f (zip xs ys).pairs = shifted f x y xs ys 0 (length xs) ∙ by_place f xs ys (omega arith) in
    λ i m. and_then (f x y m) (rest i)

-- ---- the three passes

-- the Rust tests what it names one after the other
names_tests : (o t d e : Bool) (m : Mapping) (neq : Returned) (rest : Mapping → Returned) → and_then neq rest ≡ neq → Opposite o d → Opposite t e
    → and_then (cond (o && t) (answers Eq m) neq) rest ≡ cond d neq (cond e neq (rest m))
unfolding Opposite and_then or_return answers
names_tests o t true e m neq rest n h k = rw h n
names_tests o t false true m neq rest n h k = rw (h, k) n
names_tests o t false false m neq rest n h k = rw (h, k) refl

walk_assoc : (w : Walk) (f g : State → Walk) → (w >>= f >>= g) ≡ (w >>= (λ (st : State). f st >>= g))
walk_assoc (on st) f g = refl
walk_assoc (ended why st) f g = refl

-- what follows where both ends are the same
ends_then : (z : Zipped) (p : Pair) (rest : Mapping → Returned) (m : Mapping)
    → and_then (same_ends z (named p) (answers Eq) m) rest ≡ same_ends z (named p) rest m
unfolding same_ends and_then answers or_return
ends_then z p rest m = go (differ (next z.left) (next z.right))
  where
    go : (d : Bool) → and_then (cond d (answers (named p) m) (answers Eq m)) rest ≡ cond d (answers (named p) m) (rest m)
    go true = named_returns p m rest
    go false = refl

-- two lists of one never differ in length
alone : (s : Store) (ig : Ignore) (f : ℕ → ℕ → Mapping → Returned) (e e' : EqResult) (l r : ℕ) (m : Mapping)
    → resolved e (blocks_eq s ig f (l ∷ []) (r ∷ []) m) ≡ resolved e' (blocks_eq s ig f (l ∷ []) (r ∷ []) m)
unfolding zip same_ends next differ
alone s ig f e e' l r m = resolved_blocks s ig f e (l ∷ []) (r ∷ []) m ∙ sym (resolved_blocks s ig f e' (l ∷ []) (r ∷ []) m)

module _ (s : Store) (sd : Sound s) where
  pub op_keys : (n : ℕ) → keys_rise (op_at s n).attributes ≡ true
  unfolding op_at no_op
  op_keys n = go (ltb n (length s.ops)) refl
    where
      go : (t : Bool) → ltb n (length s.ops) ≡ t → keys_rise (get_or s.ops n no_op).attributes ≡ true
      go true e = keys_rise_lem _ (sd.op n (ltb-true _ _ e)).attributes_fit
      go false e = rw (get_or-eq_default s.ops no_op (ltb-false _ _ e)) (keys_rise_lem [] none_hold)

  pub block_keys_lem : (n : ℕ) → keys_rise (block_at s n).attributes ≡ true
  unfolding block_at no_block
  block_keys_lem n = go (ltb n (length s.blocks)) refl
    where
      go : (t : Bool) → ltb n (length s.blocks) ≡ t → keys_rise (get_or s.blocks n no_block).attributes ≡ true
      go true e = keys_rise_lem _ (sd.block n (ltb-true _ _ e)).attributes_fit
      go false e = rw (get_or-eq_default s.blocks no_block (ltb-false _ _ e)) (keys_rise_lem [] none_hold)

module _ (s : Store) (sd : Sound s) (ig : Ignore) where
  -- pass 2 of two blocks, and what it has shown where it goes on
  in_blocks : ℕ → ℕ → State → Walk
  in_blocks l r = pairwise (pair_ops s ig) (pair_of block l r) (ops_of s l) (ops_of s r)

  Inside : ℕ → ℕ → Type 0
  Inside l r = Pairs (Counts s) (ops_of s l) (ops_of s r)

  inside : (l r : ℕ) (st₁ st₂ : State) → in_blocks l r st₁ ≡ on st₂ → Inside l r
  unfolding in_blocks Inside
  inside l r st₁ st₂ h = gained (pair_ops s ig) (pair_of block l r) (Counts s) (paired_counts s ig) (ops_of s l) (ops_of s r) st₁ st₂ h

  agree_in : (l r : ℕ) (st : State) → Agree (in_blocks l r st) (ops_of_blocks s ig l r st.mapping)
  unfolding in_blocks ops_of_blocks same_ends named named_by pair_of
  agree_in l r st =
      agree_pairwise (pair_ops s ig) (op_eq_map s ig) (λ a b t. inr (ops_map s ig a b (op_keys s sd a) (op_keys s sd b) t)) (pair_of block l r) (ops_of s l) (ops_of s r) st

  module _ (regions : ℕ → ℕ → State → Walk) (region_eq' : ℕ → ℕ → Mapping → Returned) where
    -- the two agree on the regions of an operation
    In_regions : ℕ → Type 0
    In_regions n = (q y : ℕ) → Memᴰ q (regions_of s n) → (st : State) → Agree (regions q y st) (region_eq' q y st.mapping)

    -- `op_eq_mapped`, of two operations that are paired
    agree_ops : (l r : ℕ) → In_regions l → Counts s l r
        → (st : State) → Agree (check_ops s regions l r st) (op_eq_mapped s region_eq' l r st.mapping)
    unfolding check_ops check_names op_eq_mapped named named_by pair_of and_then or_return answers In_regions
    agree_ops l r same c st =
        let pairs : for_regions region_eq' (regions_of s l) (regions_of s r) (up_to (length (regions_of s l))) ≡ for_each region_eq' (zip (regions_of s l) (regions_of s r)).pairs =
        by_place region_eq' (regions_of s l) (regions_of s r) (regions_count s ig l r c) in
        let m = st.mapping in
        let neq = answers (FirstNEQOps l r) m in
        subst (Agree (check_names s l r st >>= each_pair regions (regions_of s l) (regions_of s r)))
        (ap (and_then (cond (operands_agree s m l r && successors_agree s m l r) (answers Eq m) neq)) (sym pairs)
        ∙ names_tests _ _ _ _ m neq (for_regions region_eq' (regions_of s l) (regions_of s r) (up_to (length (regions_of s l)))) refl (operands_agree_lem s m l r) (successors_agree_lem s m l r))
        (agree_bind (check_names s l r st) _ _ _ (inr (answered_expect _ (pair_of op l r) st st))
        (λ st' e. agree_each regions region_eq' (λ (a b : ℕ). Unit {0}) (regions_of s l) (regions_of s r) (λ a b m u. same a b m)
        (same_length (regions_of s l) (regions_of s r) (regions_count s ig l r c)) st'))

    -- `blocks_eq`, which names p where the lists' lengths differ
    agree_lists : (p : Pair) (ls rs : List ℕ) → ((b : ℕ) → Memᴰ b ls → (n : ℕ) → Memᴰ n (ops_of s b) → In_regions n) → (st : State)
        → Agree (compare_lists s ig (check_ops s regions) p ls rs st) (resolved (named p) (blocks_eq s ig region_eq' ls rs st.mapping))
    unfolding compare_lists pass1 pass2 pass3 in_blocks Inside full_ops_of_blocks
    agree_lists p ls rs same st =
        subst (λ (w : Walk). Agree w (resolved (named p) (blocks_eq s ig region_eq' ls rs st.mapping))) (sym (walk_assoc (pass1 s ig p ls rs st) (pass2 s ig ls rs) (pass3 s (check_ops s regions) ls rs)))
        (subst (Agree (pass1 s ig p ls rs st >>= (λ (t : State). pass2 s ig ls rs t >>= pass3 s (check_ops s regions) ls rs)))
        (then_assoc _ _ rest ∙ then_same _ _ _ (ends_then (zip ls rs) p rest) ∙ sym (resolved_blocks s ig region_eq' (named p) ls rs st.mapping))
        (agree_bind (pass1 s ig p ls rs st) _ _ rest first second))
      where
        rest : Mapping → Returned
        rest m = and_then (for_each (ops_of_blocks s ig) (zip ls rs).pairs m) (for_each (full_ops_of_blocks s region_eq') (zip ls rs).pairs)

        first : Agree (pass1 s ig p ls rs st) (and_then (for_each (block_eq_map s ig) (zip ls rs).pairs st.mapping) (same_ends (zip ls rs) (named p) (answers Eq)))
        first = agree_pairwise (pair_blocks s ig) (block_eq_map s ig) (λ a b t. inr (blocks_map s ig a b (block_keys_lem s sd a) (block_keys_lem s sd b) t)) p ls rs st

        third : Pairs Inside ls rs → (st₂ : State) → Agree (pass3 s (check_ops s regions) ls rs st₂) (for_each (full_ops_of_blocks s region_eq') (zip ls rs).pairs st₂.mapping)
        third q st₂ =
            agree_each (λ (l r : ℕ). each_pair (check_ops s regions) (ops_of s l) (ops_of s r)) (full_ops_of_blocks s region_eq')
            Inside ls rs
            (λ b c b∈ i. agree_each (check_ops s regions) (op_eq_mapped s region_eq') (Counts s) (ops_of s b) (ops_of s c)
            (λ n m n∈. agree_ops n m (same b b∈ n n∈)) i)
            q st₂

        second : (st₁ : State) → pass1 s ig p ls rs st ≡ on st₁ → Agree (pass2 s ig ls rs st₁ >>= pass3 s (check_ops s regions) ls rs) (rest st₁.mapping)
        second st₁ e =
            let q = gained (pair_blocks s ig) p (λ (l r : ℕ). Unit {0}) (λ l r a b h. tt) ls rs st st₁ e in
            let tested = testing in_blocks in_blocks p (λ (l r : ℕ). Unit {0}) (λ l r u t. refl) ls rs q st₁ in
            agree_bind (pass2 s ig ls rs st₁) _ _ _
            (agree_each in_blocks (ops_of_blocks s ig) (λ (l r : ℕ). Unit {0}) ls rs (λ l r m u t. agree_in l r t) q st₁)
            (λ st₂ h. third (gained in_blocks p Inside inside ls rs st₁ st₂ (sym tested ∙ h)) st₂)

  -- with levels enough, so that neither comes to the end of them
  agree_regions : (x y : ℕ) (st : State) → Agree (compare_regions levels s ig x y st) (region_eq levels s ig x y st.mapping)
  unfolding compare_regions region_eq named named_by pair_of In_regions
  agree_regions =
      by_levels s (sound_of s sd)
      (λ k l x. (y : ℕ) (st : State) → Agree (compare_regions k s ig x y st) (region_eq l s ig x y st.mapping))
      (λ k l x inner y. agree_lists (compare_regions k s ig) (region_eq l s ig) (pair_of region x y) (blocks_of s x) (blocks_of s y)
      (λ b b∈ n n∈ q z q∈. inner b n q b∈ n∈ q∈ z))
      levels levels (omega arith) (omega arith)

  in_regions : (n : ℕ) → In_regions (compare_regions levels s ig) (region_eq levels s ig) n
  unfolding In_regions
  in_regions n q y m = agree_regions q y

  agree_fragments : (f : Sort) (l r : ℕ) (st : State) → Agree (compare_by s ig f l r st) (rust_eq s ig f l r st.mapping)
  unfolding compare_by rust_eq operation_eq basic_block_eq
  agree_fragments op l r st =
      agree_bind (pair_ops s ig l r st) _ _ _ (inr (ops_map s ig l r (op_keys s sd l) (op_keys s sd r) st))
      (λ st' e. agree_ops (compare_regions levels s ig) (region_eq levels s ig) l r (in_regions l) (paired_counts s ig l r st st' e) st')
  agree_fragments block l r st =
      subst (Agree (compare_lists s ig (check_ops s (compare_regions levels s ig)) (pair_of block l r) (l ∷ []) (r ∷ []) st))
      (alone s ig (region_eq levels s ig) (named (pair_of block l r)) no_answer l r st.mapping)
      (agree_lists (compare_regions levels s ig) (region_eq levels s ig) (pair_of block l r) (l ∷ []) (r ∷ [])
      (λ b b∈ n n∈. in_regions n) st)
  agree_fragments region l r st = agree_regions l r st

pub compares_as_the_rust : ComparesAsTheRust
unfolding ComparesAsTheRust compare start
compares_as_the_rust s sd ig f l r m never = go (agree_fragments s (facts s sd) ig f l r (start m))
  where
    go : Agree (compare_by s ig f l r (start m)) (rust_eq s ig f l r m) → rust_eq s ig f l r m ≡ answered (compare_by s ig f l r (start m))
    go (inl e) = clash e never
    go (inr e) = sym e
