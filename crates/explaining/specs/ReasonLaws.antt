-- What is told is true: said in the store's words, apart from the tests.
use Rattle.std.specs.Prelude.{ℕ, true, false, List, [], ◌∷◌, ◌++◌, length, get_or, ◌<◌, ◌≡◌, ◌≢◌, ◌↔◌, None, Some}
use mathlib.Core.List.{Memᴰ}
use Rattle.rules.specs.Store.{Store, op_at, type_of, ops_of, blocks_of, regions_of, values_of, sound}
use Rattle.rules.specs.declared.types.Attribute.{Attribute}
use Rattle.rules.specs.declared.types.Owner.{Owner}
use Rattle.rules.specs.declared.types.Owner.TheVariants.{Op as of_op, Block as of_block}
use Rattle.rules.specs.declared.types.Sort.{Sort}
use Rattle.rules.specs.declared.types.Sort.TheVariants.{Op as op, Block as block, Region as region}
use Rattle.rules.specs.Building.{attributes_of}
use Rattle.rules.specs.Shells.{unignored, same_shells}
use Rattle.rules.specs.declared.types.Ignore.{Ignore}
use Rattle.rules.specs.Mapping.{Mapping, image, empty_mapping}
use Rattle.rules.specs.Comparison.{State, Stop, on, ended, pair_ops, pass2, compare}
use Rattle.rules.specs.Laws.{Equal}
use Rattle.explaining.specs.Needed.{location_of}
use Rattle.explaining.specs.Reasons.{How, left_only, right_only, other_kind, other_content, other_flag, Reason, kinds, regions, successors, operands, results, arguments, locations, attributes, types, operand, operand_type, successor, blocks, ops, Test, Difference, named, pair_tests, op_tests, explain}

-- two numbers are these, and differ
abbrev pub Differ : ℕ → ℕ → ℕ → ℕ → Type 0
Differ x y a b = (a ≡ x) × (b ≡ y) × (x ≢ y)

-- the i-th entries of two lists are these numbers, by what is read of each, and differ
abbrev pub DifferAt : (ℕ → ℕ) → (ℕ → ℕ) → ℕ → ℕ → ℕ → List ℕ → List ℕ → Type 0
DifferAt f g i x y vs ws = (i < length vs) × (i < length ws) × Differ x y (f (get_or vs i 0)) (g (get_or ws i 0))

-- no entry has this key
abbrev pub NoneAt : ℕ → List Attribute → Type 0
NoneAt k as' = (a : Attribute) → Memᴰ a as' → a.key ≢ k

-- how two lists differ at a key
unfoldable pub Differs : ℕ → How → List Attribute → List Attribute → Type 0
Differs k left_only xs ys = ((a : Attribute) × Memᴰ a xs × (a.key ≡ k)) × NoneAt k ys
Differs k right_only xs ys = NoneAt k xs × ((b : Attribute) × Memᴰ b ys × (b.key ≡ k))
Differs k other_kind xs ys =
    (a : Attribute) × (b : Attribute) × Memᴰ a xs × Memᴰ b ys × (a.key ≡ k) × (b.key ≡ k) × (a.kind ≢ b.kind)
Differs k other_content xs ys =
    (a : Attribute) × (b : Attribute) × Memᴰ a xs × Memᴰ b ys × (a.key ≡ k) × (b.key ≡ k) × (a.kind ≡ b.kind) × (a.content ≢ b.content)
Differs k other_flag xs ys =
    (a : Attribute) × (b : Attribute) × Memᴰ a xs × Memᴰ b ys × (a.key ≡ k) × (b.key ≡ k) × (a.kind ≡ b.kind) × (a.content ≡ b.content)
    × (a.inherent ≢ b.inherent)

-- and at no smaller one
pub record DifferFirst (k : ℕ) (how : How) (xs ys : List Attribute) : Type 0 where
  pub here : Differs k how xs ys
  pub below : (a : Attribute) → a.key < k → Memᴰ a xs ↔ Memᴰ a ys

module _ (s : Store) (ig : Ignore) where
  -- of what operations and blocks have by themselves; of the attributes those that are not ignored
  unfoldable pub OwnTrue : Owner → Owner → Reason → Type 0
  OwnTrue l r (locations x y) = (ig.locations ≡ false) × Differ x y (location_of s l) (location_of s r)
  OwnTrue l r (attributes k how) = DifferFirst k how (unignored ig (attributes_of s l)) (unignored ig (attributes_of s r))
  OwnTrue l r (types i x y) = DifferAt (type_of s) (type_of s) i x y (values_of s l) (values_of s r)
  OwnTrue l r why = ⊥

  module _ (m : Mapping) where
    -- the reason is true of a pair
    unfoldable pub IsTrueOf : Sort → ℕ → ℕ → Reason → Type 0
    IsTrueOf op l r (kinds x y) = Differ x y (op_at s l).kind (op_at s r).kind
    IsTrueOf op l r (regions x y) = Differ x y (length (regions_of s l)) (length (regions_of s r))
    IsTrueOf op l r (successors x y) = Differ x y (length (op_at s l).successors) (length (op_at s r).successors)
    IsTrueOf op l r (operands x y) = Differ x y (length (op_at s l).operands) (length (op_at s r).operands)
    IsTrueOf op l r (results x y) = Differ x y (length (values_of s (of_op l))) (length (values_of s (of_op r)))
    IsTrueOf op l r (operand i x y) = DifferAt (image m.values) (λ (v : ℕ). v) i x y (op_at s l).operands (op_at s r).operands
    IsTrueOf op l r (operand_type i x y) = DifferAt (type_of s) (type_of s) i x y (op_at s l).operands (op_at s r).operands
    IsTrueOf op l r (successor i x y) = DifferAt (image m.blocks) (λ (c : ℕ). c) i x y (op_at s l).successors (op_at s r).successors
    IsTrueOf op l r (arguments x y) = ⊥
    IsTrueOf op l r (blocks x y) = ⊥
    IsTrueOf op l r (ops x y) = ⊥
    IsTrueOf op l r why = OwnTrue (of_op l) (of_op r) why
    IsTrueOf block l r (arguments x y) = Differ x y (length (values_of s (of_block l))) (length (values_of s (of_block r)))
    IsTrueOf block l r (ops x y) = Differ x y (length (ops_of s l)) (length (ops_of s r))
    IsTrueOf block l r why = OwnTrue (of_block l) (of_block r) why
    IsTrueOf region l r (blocks x y) = Differ x y (length (blocks_of s l)) (length (blocks_of s r))
    IsTrueOf region l r why = ⊥

-- every test before this one passes
unfoldable pub AllPass : List Test → Type 0
AllPass [] = Unit {0}
AllPass (t ∷ ts) = (t ≡ None) × AllPass ts

pub record FirstFailing (ts : List Test) (r : Reason) : Type 0 where
  pub before : List Test
  pub behind : List Test
  pub place : ts ≡ before ++ (Some r ∷ behind)
  pub pass : AllPass before

-- of a difference that is told: the walk's pair, the first of its tests that fails by the mapping as the walk leaves it, and that is so
pub record IsExplained (s : Store) (ig : Ignore) (f : Sort) (a b : ℕ) (d : Difference) : Type 0 where
  pub why : Stop
  pub left : State
  pub walk : compare s ig f a b empty_mapping ≡ ended why left
  pub pair : named why ≡ d.pair
  pub earlier : FirstFailing (pair_tests s ig left.mapping d.pair.sort d.pair.left d.pair.right) d.reason
  pub is_true : IsTrueOf s ig left.mapping d.pair.sort d.pair.left d.pair.right d.reason

pub record ExplainLaws (s : Store) (ig : Ignore) (f : Sort) (a b : ℕ) : Type 0 where
  -- none exactly where they are equal
  pub none_equal : (explain s ig f a b ≡ None) ↔ Equal s ig f a b
  pub told : (d : Difference) → explain s ig f a b ≡ Some d → IsExplained s ig f a b d

unfoldable pub Explained : Type 0
Explained = (s : Store) → sound s ≡ true → (ig : Ignore) (f : Sort) (a b : ℕ) → ExplainLaws s ig f a b

-- an operand's type is never told: what is entered for a value has its type, and what stands for itself has its own
unfoldable pub NoOperandType : Type 0
NoOperandType =
    (s : Store) → sound s ≡ true → (ig : Ignore) (f : Sort) (a b : ℕ) (d : Difference) → explain s ig f a b ≡ Some d
    → (i x y : ℕ) → d.reason ≢ operand_type i x y

-- ---- names are checked last: that a pair is read again is enough

-- of each pair of two lists, up to the shorter end
unfoldable pub EachPair : (ℕ → ℕ → Type 0) → List ℕ → List ℕ → Type 0
EachPair R [] rs = Unit {0}
EachPair R (l ∷ ls) [] = Unit {0}
EachPair R (l ∷ ls) (r ∷ rs) = R l r × EachPair R ls rs

-- Where a comparison comes to check names, the pair's own tests have passed: of two operations alone, and of each pair of operations that
-- pass 3 checks. So an operation pair of which an own test fails is one that the walk has ended at by that test, and of any other it is the
-- names that have failed.
pub record NamesLast (s : Store) (ig : Ignore) : Type 0 where
  pub alone : (l r : ℕ) (st left : State) → pair_ops s ig l r st ≡ on left → same_shells s ig (of_op l) (of_op r) ≡ true
  pub listed :
      (ls rs : List ℕ) (st left : State) → pass2 s ig ls rs st ≡ on left
      → EachPair (λ (l r : ℕ). EachPair (λ (m n : ℕ). same_shells s ig (of_op m) (of_op n) ≡ true) (ops_of s l) (ops_of s r)) ls rs

-- and an operation's own tests pass exactly where the comparison's test of them does
unfoldable pub OwnTests : Type 0
OwnTests = (s : Store) (ig : Ignore) (l r : ℕ) → AllPass (op_tests s ig l r) ↔ (same_shells s ig (of_op l) (of_op r) ≡ true)

unfoldable pub AllNamesLast : Type 0
AllNamesLast = (s : Store) (ig : Ignore) → NamesLast s ig
