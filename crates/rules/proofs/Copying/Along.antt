-- Two walks side by side: where the children of what the first comes to, renamed, are the children of what the second comes to, the events of the
-- two go pair by pair. Assumes nothing.
use Prim.Native.Nat.{ℕ, zero, suc}
use mathlib.Core.List.{List, [], ◌∷◌, ◌++◌, map, map-append, Memᴰ}
use mathlib.Core.Path.{◌≡◌, refl, sym, ap₂, subst, ◌∙◌}
use lib.ListN.{length}
use Rattle.std.specs.List.{flat_map}
use Rattle.rules.specs.Store.{Store, ops_of, blocks_of, regions_of}
use Rattle.rules.specs.declared.types.Owner.{Owner}
use Rattle.rules.specs.declared.types.Owner.TheVariants.{Op as of_op, Block as of_block}
use Rattle.rules.specs.Fragments.{levels, shell, names, counted, defines_blocks, fragment_ops}
use Rattle.rules.specs.declared.types.Sort.TheVariants.{Op as op}
use Rattle.rules.specs.Form.{Event, step, more, done, list_events, one, shell_events, op_events, blocks_events, region_events, events}
use Rattle.rules.specs.Copying.{copied_regions}
use Rattle.rules.proofs.Copying.Renumbered.{in_concat_map}
use Rattle.rules.proofs.Copying.Walked.{regions_in, walked_regions, blocks_by_region, ops_by_block}

-- ---- two lists of events, pair by pair

pub data Along (P : Event → Event → Type 0) : List Event → List Event → Type 0 where
  over : Along P [] []
  pair : {e e' : Event} {es es' : List Event} → P e e' → Along P es es' → Along P (e ∷ es) (e' ∷ es')

pub along_imp : {P Q : Event → Event → Type 0} → ((e e' : Event) → P e e' → Q e e') → {es es' : List Event} → Along P es es' → Along Q es es'
along_imp f over = over
along_imp f (pair {e = e} {e' = e'} p a) = pair (f e e' p) (along_imp f a)

-- what the events list, renamed
pub along_lists : {P : Event → Event → Type 0} {A B : Type 0} (c : A → B) (f : Event → List A) (g : Event → List B) → ((e e' : Event) → P e e' → g e' ≡ map c (f e))
    → {es es' : List Event} → Along P es es' → flat_map g es' ≡ map c (flat_map f es)
along_lists c f g same over = refl
along_lists c f g same (pair {e = e} {e' = e'} {es = es} p a) = ap₂ ◌++◌ (same e e' p) (along_lists c f g same a) ∙ sym (map-append c (f e) (flat_map f es))

module _ (P : Event → Event → Type 0) (begun : (j k : ℕ) → P (step (counted j)) (step (counted k))) (more' : P more more) (done' : P done done) where
  along_append : {a a' b b' : List Event} → Along P a a' → Along P b b' → Along P (a ++ b) (a' ++ b')
  along_append over k = k
  along_append (pair p h) k = pair p (along_append h k)

  along_list : (f f' : ℕ → List Event) (c : ℕ → ℕ) (xs : List ℕ) → ((x : ℕ) → Memᴰ x xs → Along P (f x) (f' (c x))) → Along P (list_events f xs) (list_events f' (map c xs))
  unfolding list_events
  along_list f f' c [] h = pair done' over
  along_list f f' c (x ∷ xs) h = pair more' (along_append (h x (mathlib.Core.List.Memᴰ.head refl)) (along_list f f' c xs (λ y m. h y (mathlib.Core.List.Memᴰ.tail m))))

  along_shells : (w w' : ℕ → Owner) (c : ℕ → ℕ) (xs : List ℕ) → ((x : ℕ) → Memᴰ x xs → P (step (shell (w x))) (step (shell (w' (c x)))))
      → Along P (shell_events w xs) (shell_events w' (map c xs))
  unfolding shell_events
  along_shells w w' c xs h = pair (begun (length xs) (length (map c xs))) (along_list (one (λ (n : ℕ). shell (w n))) (one (λ (n : ℕ). shell (w' n))) c xs (λ x m. pair (h x m) over))

  module _ (s t : Store) (n : ℕ) (oc bc rc : ℕ → ℕ)
      (ops : (b : ℕ) → Memᴰ b (defines_blocks s op n) → ops_of t (bc b) ≡ map oc (ops_of s b))
      (blocks : (r : ℕ) → Memᴰ r (copied_regions s n) → Memᴰ r (walked_regions s n) → blocks_of t (rc r) ≡ map bc (blocks_of s r))
      (regions : (m : ℕ) → Memᴰ m (fragment_ops s op n) → regions_of t (oc m) ≡ map rc (regions_of s m))
      (op_shells : (m : ℕ) → Memᴰ m (fragment_ops s op n) → P (step (shell (of_op m))) (step (shell (of_op (oc m)))))
      (block_shells : (b : ℕ) → Memᴰ b (defines_blocks s op n) → P (step (shell (of_block b))) (step (shell (of_block (bc b)))))
      (op_names : (m : ℕ) → Memᴰ m (fragment_ops s op n) → P (step (names m)) (step (names (oc m)))) where
    -- what is below is inside

    block_below : {r b : ℕ} → Memᴰ r (walked_regions s n) → Memᴰ b (blocks_of s r) → Memᴰ b (defines_blocks s op n)
    block_below {r} {b} k m = subst (Memᴰ b) (sym (blocks_by_region s n)) (in_concat_map (blocks_of s) (walked_regions s n) k m)

    op_below : {b m : ℕ} → Memᴰ b (defines_blocks s op n) → Memᴰ m (ops_of s b) → Memᴰ m (fragment_ops s op n)
    op_below {b} {m} k i = subst (Memᴰ m) (sym (ops_by_block s n)) (mathlib.Core.List.Memᴰ.tail (in_concat_map (ops_of s) (defines_blocks s op n) k i))

    region_below : {m r : ℕ} → Memᴰ m (fragment_ops s op n) → Memᴰ r (regions_of s m) → Memᴰ r (copied_regions s n)
    unfolding copied_regions
    region_below k i = in_concat_map (regions_of s) (fragment_ops s op n) k i

    along_op : (g g' : ℕ → List Event) (m : ℕ) → Memᴰ m (fragment_ops s op n) → ((r : ℕ) → Memᴰ r (regions_of s m) → Along P (g r) (g' (rc r)))
        → Along P (op_events s g m) (op_events t g' (oc m))
    unfolding op_events
    along_op g g' m k h =
        pair (op_names m k) (subst (λ (rs : List ℕ). Along P (list_events g (regions_of s m)) (list_events g' rs)) (sym (regions m k)) (along_list g g' rc (regions_of s m) h))

    along_blocks : (f f' : ℕ → List Event) (bs : List ℕ) → ((b : ℕ) → Memᴰ b bs → Memᴰ b (defines_blocks s op n))
        → ((b m : ℕ) → Memᴰ b bs → Memᴰ m (ops_of s b) → Along P (f m) (f' (oc m))) → Along P (blocks_events s f bs) (blocks_events t f' (map bc bs))
    unfolding blocks_events
    along_blocks f f' bs inside h =
        along_append
        (along_append (along_shells of_block of_block bc bs (λ b m. block_shells b (inside b m)))
        (along_list (λ (b : ℕ). shell_events of_op (ops_of s b)) (λ (b : ℕ). shell_events of_op (ops_of t b)) bc bs
        (λ b m. rw (ops b (inside b m)) (along_shells of_op of_op oc (ops_of s b) (λ o k. op_shells o (op_below (inside b m) k))))))
        (along_list (λ (b : ℕ). list_events f (ops_of s b)) (λ (b : ℕ). list_events f' (ops_of t b)) bc bs
        (λ b m. rw (ops b (inside b m)) (along_list f f' oc (ops_of s b) (λ o k. h b o m k))))

    along_region : (k r : ℕ) → Memᴰ r (copied_regions s n) → ((q : ℕ) → Memᴰ q (regions_in s k r) → Memᴰ q (walked_regions s n))
        → Along P (region_events s k r) (region_events t k (rc r))
    unfolding region_events regions_in
    along_region zero r c sub = over
    along_region (suc k) r c sub =
        let w : Memᴰ r (walked_regions s n) = sub r (mathlib.Core.List.Memᴰ.head refl) in
        rw (blocks r c w)
        (along_blocks (op_events s (region_events s k)) (op_events t (region_events t k)) (blocks_of s r) (λ b mb. block_below w mb)
        (λ b m mb mm. let o = op_below (block_below w mb) mm in
        along_op (region_events s k) (region_events t k) m o (λ q mq. along_region k q (region_below o mq)
        (λ x mx. sub x (mathlib.Core.List.Memᴰ.tail (in_concat_map (λ (y : ℕ). flat_map (λ (z : ℕ). flat_map (regions_in s k) (regions_of s z)) (ops_of s y)) (blocks_of s r) mb
        (in_concat_map (λ (z : ℕ). flat_map (regions_in s k) (regions_of s z)) (ops_of s b) mm (in_concat_map (regions_in s k) (regions_of s m) mq mx))))))))

    pub along_events : Along P (events s op n) (events t op (oc n))
    unfolding events walked_regions
    along_events =
        let o : Memᴰ n (fragment_ops s op n) = subst (Memᴰ n) (sym (ops_by_block s n)) (mathlib.Core.List.Memᴰ.head refl) in
        pair (op_shells n o)
        (along_op (region_events s levels) (region_events t levels) n o (λ q mq. along_region levels q (region_below o mq) (λ x mx. in_concat_map (regions_in s levels) (regions_of s n) mq mx)))
