-- The pairs that a comparison enters, in order: the comparison once more, which besides notes each two operations or blocks as it enters
-- them. Without its notes it is the comparison (`NotedIs`), and it notes as many pairs as `paired` counts (`NotedCount`).
use Rattle.std.specs.Prelude.{ℕ, zero, suc, true, ◌≡◌, List, [], ◌∷◌, ◌++◌, map, length}
use Rattle.rules.specs.Store.{Store, ops_of, blocks_of, regions_of}
use Rattle.rules.specs.declared.types.Owner.{Owner}
use Rattle.rules.specs.declared.types.Owner.TheVariants.{Op as of_op, Block as of_block}
use Rattle.rules.specs.Fragments.{levels, defines_owners}
use Rattle.rules.specs.declared.types.Sort.{Sort}
use Rattle.rules.specs.declared.types.Sort.TheVariants.{Op as op, Block as block, Region as region}
use Rattle.rules.specs.declared.types.Ignore.{Ignore}
use Rattle.rules.specs.Mapping.{Mapping}
use Rattle.rules.specs.Comparison.{State, WalkOf, Walk, on, ended, standing, ◌>>=◌, pairwise, each_pair, pair_of, pair_ops, pair_blocks, check_names, compare_by, start, compare}
use Rattle.rules.specs.Laws.{succeeds}

-- two operations, or two blocks
pub record Entered : Type 0 where
  pub left : Owner
  pub right : Owner

-- what is handed from step to step, and the pairs entered so far, the last one last
pub record Noted : Type 0 where
  pub state : State
  pub pairs : List Entered

unfoldable pub noted : State → List Entered → Noted
noted st ps = record { state = st; pairs = ps }

-- what a step leaves, with the pairs entered behind it: the first list where it goes on, the second where the walk has ended
unfoldable pub noting : List Entered → List Entered → Walk → WalkOf Noted
noting ps qs (on st) = on (noted st ps)
noting ps qs (ended why st) = ended why (noted st qs)

-- a step that enters l and r, unless it fails
unfoldable pub entering : Owner → Owner → (State → Walk) → Noted → WalkOf Noted
entering l r step t = noting (t.pairs ++ (record { left = l; right = r } ∷ [])) t.pairs (step t.state)

-- a step that enters nothing
unfoldable pub testing : (State → Walk) → Noted → WalkOf Noted
testing step t = noting t.pairs t.pairs (step t.state)

module _ (s : Store) (ig : Ignore) where
  unfoldable pub noted_ops : ℕ → ℕ → Noted → WalkOf Noted
  noted_ops l r = entering (of_op l) (of_op r) (pair_ops s ig l r)

  unfoldable pub noted_blocks : ℕ → ℕ → Noted → WalkOf Noted
  noted_blocks l r = entering (of_block l) (of_block r) (pair_blocks s ig l r)

  unfoldable pub noted_check : (ℕ → ℕ → Noted → WalkOf Noted) → ℕ → ℕ → Noted → WalkOf Noted
  noted_check regions l r t = testing (check_names s l r) t >>= each_pair regions (regions_of s l) (regions_of s r)

  -- the three passes
  unfoldable pub noted_lists : (ℕ → ℕ → Noted → WalkOf Noted) → ℕ → ℕ → Sort → List ℕ → List ℕ → Noted → WalkOf Noted
  noted_lists check l r f ls rs t =
      pairwise noted_blocks (pair_of f l r) ls rs t
      >>= each_pair (λ (a b : ℕ). pairwise noted_ops (pair_of block a b) (ops_of s a) (ops_of s b)) ls rs
      >>= each_pair (λ (a b : ℕ). each_pair check (ops_of s a) (ops_of s b)) ls rs

  unfoldable pub noted_regions : ℕ → ℕ → ℕ → Noted → WalkOf Noted
  noted_regions zero l r t = on t
  noted_regions (suc k) l r t = noted_lists (noted_check (noted_regions k)) l r region (blocks_of s l) (blocks_of s r) t

  unfoldable pub noted_by : Sort → ℕ → ℕ → Noted → WalkOf Noted
  noted_by op l r t = noted_ops l r t >>= noted_check (noted_regions levels) l r
  noted_by block l r t = noted_lists (noted_check (noted_regions levels)) l r block (l ∷ []) (r ∷ []) t
  noted_by region l r t = noted_regions levels l r t

  -- the pairs that a comparison enters, in order
  unfoldable pub entered : Sort → ℕ → ℕ → Mapping → List Entered
  entered f l r m = (standing (noted_by f l r (noted (start m) []))).pairs

unfoldable pub lefts : List Entered → List Owner
lefts ps = map (λ (p : Entered). p.left) ps

unfoldable pub rights : List Entered → List Owner
rights ps = map (λ (p : Entered). p.right) ps

-- ---- what is proved of it

-- a walk without its notes
unfoldable pub unnoted : WalkOf Noted → Walk
unnoted (on t) = on t.state
unnoted (ended why t) = ended why t.state

-- without its notes it is the comparison, whatever it answers: `noted_is`
unfoldable pub NotedIs : Type 0
NotedIs =
    (s : Store) (ig : Ignore) (f : Sort) (l r : ℕ) (st : State) (ps : List Entered)
    → unnoted (noted_by s ig f l r (noted st ps)) ≡ compare_by s ig f l r st

-- it notes as many pairs as `paired` counts, whatever it answers: `noted_count`
unfoldable pub NotedCount : Type 0
NotedCount =
    (s : Store) (ig : Ignore) (f : Sort) (l r : ℕ) (m : Mapping)
    → length (entered s ig f l r m) ≡ (standing (compare s ig f l r m)).paired

-- a comparison without a failure enters what the two fragments define, side by side, in the order of the walk: `entered_in_order`
unfoldable pub EnteredInOrder : Type 0
EnteredInOrder =
    (s : Store) (ig : Ignore) (f : Sort) (l r : ℕ) (m : Mapping) → succeeds (compare s ig f l r m) ≡ true
    → (lefts (entered s ig f l r m) ≡ defines_owners s f l) × (rights (entered s ig f l r m) ≡ defines_owners s f r)
