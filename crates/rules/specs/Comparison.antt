-- 01, "Pairing and checking". A walk goes on, or has ended at its first failure; either way with the entries made so far.
-- The Rust's own walk is in `Rust`; a list that is exactly one longer on the left, which its `zip` swallows, ends the walk here by a stop of
-- its own.
use Rattle.std.specs.Prelude.{ℕ, zero, suc, ◌+◌, Bool, cond, ◌&&◌, List, [], ◌∷◌, eqb, set}
use Rattle.rules.specs.Lists.{all_pairs}
use Rattle.rules.specs.Store.{Store, op_at, type_of, ops_of, blocks_of, regions_of, values_of}
use Rattle.rules.specs.declared.types.Owner.TheVariants.{Op as of_op, Block as of_block}
use Rattle.rules.specs.Fragments.{levels}
use Rattle.rules.specs.declared.types.Sort.{Sort}
use Rattle.rules.specs.declared.types.Sort.TheVariants.{Op as op, Block as block, Region as region}
use Rattle.rules.specs.Shells.{same_shells}
use Rattle.rules.specs.declared.types.Ignore.{Ignore}
use Rattle.rules.specs.Mapping.{Mapping, image, enter_all}

-- what is handed from step to step: the mapping, and "`paired`: operations plus blocks entered by this call"
pub record State : Type 0 where
  pub mapping : Mapping
  pub paired : ℕ

-- the pair that a failure names
pub record Pair : Type 0 where
  pub sort : Sort
  pub left : ℕ
  pub right : ℕ

-- why a walk has ended: a failure that names a pair; or unequal lengths, the left list exactly one longer, which name a pair too
pub data Stop : Type 0 where
  unequal : Pair → Stop
  one_longer : Pair → Stop

-- "The first failure ends the walk; entries made so far stay." What a walk hands on is a state, and in `Entering` more than that
pub data WalkOf (S : Type 0) : Type 0 where
  on : S → WalkOf S
  ended : Stop → S → WalkOf S

abbrev pub Walk : Type 0
Walk = WalkOf State

-- where a walk stands: the entries made so far, and how many
unfoldable pub standing : {S : Type 0} → WalkOf S → S
standing (on st) = st
standing (ended why st) = st

infixl 20 ◌>>=◌
abbrev pub ◌>>=◌ : {S : Type 0} → WalkOf S → (S → WalkOf S) → WalkOf S
on st >>= f = f st
ended why st >>= f = ended why st

-- pair by pair "up to the shorter end, then unequal lengths name" the pair p
unfoldable pub pairwise : {S : Type 0} → (ℕ → ℕ → S → WalkOf S) → Pair → List ℕ → List ℕ → S → WalkOf S
pairwise f p [] [] st = on st
pairwise f p [] (r ∷ rs) st = ended (unequal p) st
pairwise f p (l ∷ []) [] st = ended (one_longer p) st
pairwise f p (l ∷ m ∷ ls) [] st = ended (unequal p) st
pairwise f p (l ∷ ls) (r ∷ rs) st = f l r st >>= pairwise f p ls rs

-- pair by pair up to the shorter end, lengths not tested
unfoldable pub each_pair : {S : Type 0} → (ℕ → ℕ → S → WalkOf S) → List ℕ → List ℕ → S → WalkOf S
each_pair f [] rs st = on st
each_pair f (l ∷ ls) [] st = on st
each_pair f (l ∷ ls) (r ∷ rs) st = f l r st >>= each_pair f ls rs

unfoldable pub pair_of : Sort → ℕ → ℕ → Pair
pair_of f l r = record { sort = f; left = l; right = r }

-- where the test fails, the pair is named
unfoldable pub expect : Bool → Pair → State → State → Walk
expect ok p st st' = cond ok (on st') (ended (unequal p) st)

-- ---- "Pair two operations ... Then operation and results are entered." (`op_eq_map`)

unfoldable pub enter_ops : Store → ℕ → ℕ → State → State
enter_ops s l r st =
    record {
      mapping =
          record {
            values = enter_all (values_of s (of_op l)) (values_of s (of_op r)) st.mapping.values;
            blocks = st.mapping.blocks;
            ops = set st.mapping.ops l r;
          };
      paired = st.paired + 1;  -- the operation, not its results
    }

unfoldable pub pair_ops : Store → Ignore → ℕ → ℕ → State → Walk
pair_ops s ig l r st = expect (same_shells s ig (of_op l) (of_op r)) (pair_of op l r) st (enter_ops s l r st)

-- ---- "Pair two blocks ... Then block and arguments are entered." (`block_eq_map`)

unfoldable pub enter_blocks : Store → ℕ → ℕ → State → State
enter_blocks s l r st =
    record {
      mapping =
          record {
            values = enter_all (values_of s (of_block l)) (values_of s (of_block r)) st.mapping.values;
            blocks = set st.mapping.blocks l r;
            ops = st.mapping.ops;
          };
      paired = st.paired + 1;  -- the block, not its arguments
    }

unfoldable pub pair_blocks : Store → Ignore → ℕ → ℕ → State → Walk
pair_blocks s ig l r st = expect (same_shells s ig (of_block l) (of_block r)) (pair_of block l r) st (enter_blocks s l r st)

-- ---- "Check two operations" (`op_eq_mapped`)

-- "each operand's image equals the right operand, and left and right operand have equal types"
unfoldable pub operands_agree : Store → Mapping → ℕ → ℕ → Bool
operands_agree s m l r =
    all_pairs (λ (a b : ℕ). eqb (image m.values a) b && eqb (type_of s a) (type_of s b)) (op_at s l).operands (op_at s r).operands

-- "each successor's image equals the right one"
unfoldable pub successors_agree : Store → Mapping → ℕ → ℕ → Bool
successors_agree s m l r =
    all_pairs (λ (a b : ℕ). eqb (image m.blocks a) b) (op_at s l).successors (op_at s r).successors

unfoldable pub check_names : Store → ℕ → ℕ → State → Walk
check_names s l r st = expect (operands_agree s st.mapping l r && successors_agree s st.mapping l r) (pair_of op l r) st st

-- "A failure there names the operations. Then each pair of regions in order; one that fails gives its own answer."
unfoldable pub check_ops : Store → (ℕ → ℕ → State → Walk) → ℕ → ℕ → State → Walk
check_ops s regions l r st = check_names s l r st >>= each_pair regions (regions_of s l) (regions_of s r)

-- ---- "Compare two lists of blocks" (`blocks_eq`)

-- "pass 1 pairs blocks up to the shorter end, then unequal lengths name the regions"
unfoldable pub pass1 : Store → Ignore → Pair → List ℕ → List ℕ → State → Walk
pass1 s ig p ls rs = pairwise (pair_blocks s ig) p ls rs

-- "Pass 2, block by block, pairs operations up to the shorter end, then unequal lengths name the blocks."
unfoldable pub pass2 : Store → Ignore → List ℕ → List ℕ → State → Walk
pass2 s ig ls rs = each_pair (λ (l r : ℕ). pairwise (pair_ops s ig) (pair_of block l r) (ops_of s l) (ops_of s r)) ls rs

-- "Pass 3 checks every operation pair."
unfoldable pub pass3 : Store → (ℕ → ℕ → State → Walk) → List ℕ → List ℕ → State → Walk
pass3 s check ls rs = each_pair (λ (l r : ℕ). each_pair check (ops_of s l) (ops_of s r)) ls rs

unfoldable pub compare_lists : Store → Ignore → (ℕ → ℕ → State → Walk) → Pair → List ℕ → List ℕ → State → Walk
compare_lists s ig check p ls rs st = pass1 s ig p ls rs st >>= pass2 s ig ls rs >>= pass3 s check ls rs

-- two regions (`region_eq`); the first number is that of regions, one in another, that may still be entered; for 0, see `levels`
unfoldable pub compare_regions : ℕ → Store → Ignore → ℕ → ℕ → State → Walk
compare_regions zero s ig l r st = on st
compare_regions (suc k) s ig l r st =
    compare_lists s ig (check_ops s (compare_regions k s ig)) (pair_of region l r) (blocks_of s l) (blocks_of s r) st

-- "Comparing operations pairs, then checks. A block is a list of one." (`operation_eq`, `basic_block_eq`, `region_eq`)
unfoldable pub compare_by : Store → Ignore → Sort → ℕ → ℕ → State → Walk
compare_by s ig op l r st = pair_ops s ig l r st >>= check_ops s (compare_regions levels s ig) l r
compare_by s ig block l r st =
    compare_lists s ig (check_ops s (compare_regions levels s ig)) (pair_of block l r) (l ∷ []) (r ∷ []) st
compare_by s ig region l r st = compare_regions levels s ig l r st

-- a call's walk begins with the lent mapping, and with nothing entered
unfoldable pub start : Mapping → State
start m = record { mapping = m; paired = 0 }

unfoldable pub compare : Store → Ignore → Sort → ℕ → ℕ → Mapping → Walk
compare s ig f l r m = compare_by s ig f l r (start m)
