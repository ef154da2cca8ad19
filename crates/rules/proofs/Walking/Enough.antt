-- Any sufficient number of levels gives the same comparison and the same events, as it gives the same steps: two regions are compared by
-- comparing those next inside the left one, with one level less. Assumes nothing.
use Prim.Native.Nat.{ℕ, ◌+◌, ◌≤◌}
use native.Mathlib.Omega.{arith}
use mathlib.Core.Bool.{true}
use mathlib.Core.List.{List, [], ◌∷◌, ◌++◌, Memᴰ}
use mathlib.Core.Path.{◌≡◌, refl}
use Rattle.rules.specs.Store.{Store, ops_of, blocks_of, regions_of, sound}
use Rattle.rules.specs.declared.types.Owner.TheVariants.{Op as of_op, Block as of_block}
use Rattle.rules.specs.Fragments.{levels, names}
use Rattle.rules.specs.declared.types.Sort.TheVariants.{Region as region}
use Rattle.rules.specs.declared.types.Ignore.{Ignore}
use Rattle.rules.specs.Comparison.{State, Pair, Walk, ◌>>=◌, each_pair, pair_of, check_names, check_ops, pass1, pass2, pass3, compare_lists, compare_regions}
use Rattle.rules.specs.Form.{Event, step, more, list_events, shell_events, op_events, blocks_events, region_events}
use Rattle.rules.specs.BuildingLaws.{LevelsEnough}
use Rattle.rules.proofs.Walking.Levels.{by_levels}
use Rattle.rules.proofs.Walking.EnoughSteps.{steps_enough}

-- two ways to walk from the numbers of a list on the left
abbrev Same : (f g : ℕ → ℕ → State → Walk) → List ℕ → Type 0
Same f g ls = (l : ℕ) → Memᴰ l ls → (r : ℕ) (st : State) → f l r st ≡ g l r st

each_same : (f g : ℕ → ℕ → State → Walk) (ls rs : List ℕ) → Same f g ls → (st : State) → each_pair f ls rs st ≡ each_pair g ls rs st
unfolding each_pair
each_same f g [] rs h st = refl
each_same f g (l ∷ ls) [] h st = refl
each_same f g (l ∷ ls) (r ∷ rs) h st = λ i.
    h l (Memᴰ.head refl) r st i >>= (λ (t : State). each_same f g ls rs (λ m k. h m (Memᴰ.tail k)) t i)

events_same : (f g : ℕ → List Event) (ns : List ℕ) → ((n : ℕ) → Memᴰ n ns → f n ≡ g n) → list_events f ns ≡ list_events g ns
unfolding list_events
events_same f g [] h = refl
events_same f g (n ∷ ns) h = λ i. more ∷ (h n (Memᴰ.head refl) i ++ events_same f g ns (λ m k. h m (Memᴰ.tail k)) i)

module _ (s : Store) (f g : ℕ → ℕ → State → Walk) where
  -- two operations, from whose regions it makes no difference
  ops_same : (n m : ℕ) → Same f g (regions_of s n) → (st : State) → check_ops s f n m st ≡ check_ops s g n m st
  unfolding check_ops
  ops_same n m h st = λ i. check_names s n m st >>= (λ (t : State). each_same f g (regions_of s n) (regions_of s m) h t i)

  -- two lists of blocks, from the regions of whose operations it makes none
  lists_same : (ig : Ignore) (p : Pair) (ls rs : List ℕ)
      → ((b : ℕ) → Memᴰ b ls → (n : ℕ) → Memᴰ n (ops_of s b) → Same f g (regions_of s n))
      → (st : State) → compare_lists s ig (check_ops s f) p ls rs st ≡ compare_lists s ig (check_ops s g) p ls rs st
  unfolding compare_lists pass3
  lists_same ig p ls rs h st = λ i. pass1 s ig p ls rs st >>= pass2 s ig ls rs >>= (λ (t : State). third t i)
    where
      third : (t : State) → pass3 s (check_ops s f) ls rs t ≡ pass3 s (check_ops s g) ls rs t
      third =
          each_same _ _ ls rs
          (λ b b∈ c. each_same (check_ops s f) (check_ops s g) (ops_of s b) (ops_of s c) (λ n n∈ m. ops_same n m (h b b∈ n n∈)))

module _ (s : Store) (sd : sound s ≡ true) where
  pub regions_enough : (ig : Ignore) (k l : ℕ) → levels ≤ k → levels ≤ l
      → (x y : ℕ) (st : State) → compare_regions k s ig x y st ≡ compare_regions l s ig x y st
  unfolding compare_regions
  regions_enough ig =
      by_levels s sd (λ k l x. (y : ℕ) (st : State) → compare_regions k s ig x y st ≡ compare_regions l s ig x y st)
      (λ k l x inner y.
      lists_same s (compare_regions k s ig) (compare_regions l s ig) ig (pair_of region x y) (blocks_of s x) (blocks_of s y)
      (λ b b∈ n n∈ q q∈. inner b n q b∈ n∈ q∈))

  pub region_events_enough : (k l : ℕ) → levels ≤ k → levels ≤ l → (r : ℕ) → region_events s k r ≡ region_events s l r
  unfolding region_events blocks_events op_events
  region_events_enough =
      by_levels s sd (λ k l r. region_events s k r ≡ region_events s l r)
      (λ k l r inner i.
      shell_events of_block (blocks_of s r)
      ++ list_events (λ (b : ℕ). shell_events of_op (ops_of s b)) (blocks_of s r)
      ++ events_same _ _ (blocks_of s r)
      (λ b b∈. events_same (op_events s (region_events s k)) (op_events s (region_events s l)) (ops_of s b)
      (λ n n∈ j. step (names n) ∷ events_same (region_events s k) (region_events s l) (regions_of s n) (λ q q∈. inner b n q b∈ n∈ q∈) j)) i)

pub levels_enough : LevelsEnough
unfolding LevelsEnough
levels_enough s sd k = (
  λ i r. steps_enough s sd (levels + k) levels (omega arith) (omega arith) r i,
  λ i r. region_events_enough s sd (levels + k) levels (omega arith) (omega arith) r i,
  λ ig i x y st. regions_enough s sd ig (levels + k) levels (omega arith) (omega arith) x y st i,
)
