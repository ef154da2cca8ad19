-- What the Rust tests of two operations or blocks before it maps them, and of what two operations name, is what 01 tests: the Rust returns
-- at the first difference, 01 asks that all tests pass. Assumes nothing.
use Prim.Native.Nat.{ℕ}
use native.Mathlib.Omega.{arith}
use mathlib.Core.Bool.{Bool, true, false, cond, not, ◌&&◌, ◌||◌}
use mathlib.Core.List.{List, [], ◌∷◌, map}
use Rattle.std.specs.Prelude.{None, Some}
use mathlib.Core.Path.{◌≡◌, refl, sym, ap, ◌∙◌}
use lib.Dec.{eqb}
use lib.ListN.{length, get_or, set}
use Rattle.rules.specs.Lists.{every, all_pairs, same_list}
use Rattle.std.specs.List.{list_any}
use Rattle.rules.specs.Store.{Store, op_at, block_at, type_of, regions_of, results_of, arguments_of, values_of, keys_rise}
use Rattle.rules.specs.declared.types.Attribute.{Attribute}
use Rattle.rules.specs.declared.types.Owner.TheVariants.{Op as of_op, Block as of_block}
use Rattle.rules.specs.declared.types.Sort.TheVariants.{Op as op, Block as block}
use Rattle.rules.specs.Shells.{unignored, unignored_location, shell_of, counts_of, same_attribute, same_location, same_shells}
use Rattle.rules.specs.declared.types.Ignore.{Ignore}
use Rattle.rules.specs.Mapping.{Mapping, image, enter_all}
use Rattle.rules.specs.Comparison.{State, Pair, standing, pair_of, expect, enter_ops, pair_ops, enter_blocks, pair_blocks, operands_agree, successors_agree}
use Rattle.rules.specs.Rust.{zip, Eq, FirstNEQOps, FirstNEQBlocks, answers, attributes_eq, map_values, types_differ, op_eq_map, block_eq_map, operands_differ, successors_differ}
use Rattle.rules.specs.Agreement.{named_by, named, result_of, answered}
use Rattle.rules.proofs.Basics.Tests.{numbers_same}
use Rattle.rules.proofs.Rust.Attributes.{attributes_agree}

-- ---- tests

-- 01's test passes exactly where the Rust finds no difference
unfoldable pub Opposite : Bool → Bool → Type 0
Opposite t d = t ≡ not d

not_not : (b : Bool) → b ≡ not (not b)
not_not true = refl
not_not false = refl

not_or : (a b : Bool) → (a && not b) ≡ not (not a || b)
not_or true b = refl
not_or false b = refl

-- four tests, of which the last need only be told where the first passes
four : {A : Type 0} (t₁ t₂ t₃ t₄ d₁ d₂ d₃ d₄ : Bool) → Opposite t₁ d₁ → Opposite t₂ d₂ → Opposite t₃ d₃ → (t₁ ≡ true → Opposite t₄ d₄) → (n y : A)
    → cond (every (t₁ ∷ t₂ ∷ t₃ ∷ t₄ ∷ [])) y n ≡ cond d₁ n (cond d₂ n (cond d₃ n (cond d₄ n y)))
unfolding every Opposite
four t₁ t₂ t₃ t₄ true d₂ d₃ d₄ h₁ h₂ h₃ h₄ n y = rw h₁ refl
four t₁ t₂ t₃ t₄ false true d₃ d₄ h₁ h₂ h₃ h₄ n y = rw (h₁, h₂) refl
four t₁ t₂ t₃ t₄ false false true d₄ h₁ h₂ h₃ h₄ n y = rw (h₁, h₂, h₃) refl
four t₁ t₂ t₃ t₄ false false false true h₁ h₂ h₃ h₄ n y = rw (h₄ h₁, h₁, h₂, h₃) refl
four t₁ t₂ t₃ t₄ false false false false h₁ h₂ h₃ h₄ n y = rw (h₄ h₁, h₁, h₂, h₃) refl

-- one count, and five
one_count : (a b : ℕ) → Opposite (same_list eqb (a ∷ []) (b ∷ [])) (not (eqb a b))
unfolding same_list Opposite
one_count a b = go (eqb a b)
  where
    go : (t : Bool) → (t && true) ≡ not (not t)
    go true = refl
    go false = refl

five : (a b c d e : Bool) → Opposite (a && (b && (c && (d && (e && true))))) (not a || not b || not c || not d || not e)
unfolding Opposite
five true true true true true = refl
five true true true true false = refl
five true true true false e = refl
five true true false d e = refl
five true false c d e = refl
five false b c d e = refl

locations : (ig : Ignore) (a b : ℕ) → Opposite (same_location (unignored_location ig a) (unignored_location ig b)) (not ig.locations && not (eqb a b))
unfolding same_location unignored_location Opposite
locations ig a b = go ig.locations
  where
    go : (t : Bool) → same_location (cond t None (Some a)) (cond t None (Some b)) ≡ not (not t && not (eqb a b))
    go true = refl
    go false = not_not (eqb a b)

-- ---- pairs

-- 01's test of pairs passes where the Rust finds none that differs
pairs_agree : (t : ℕ → ℕ → Bool) (d : ℕ × ℕ → Bool) → ((a b : ℕ) → not (t a b) ≡ d (a, b)) → (xs ys : List ℕ)
    → all_pairs t xs ys ≡ not (list_any d (zip xs ys).pairs)
unfolding all_pairs zip
pairs_agree t d h [] ys = refl
pairs_agree t d h (x ∷ xs) [] = refl
pairs_agree t d h (x ∷ xs) (y ∷ ys) =
    ap (λ (b : Bool). t x y && b) (pairs_agree t d h xs ys)
    ∙ not_or (t x y) (list_any d (zip xs ys).pairs)
    ∙ ap (λ (b : Bool). not (b || list_any d (zip xs ys).pairs)) (h x y)

same_pairs : (t : ℕ → ℕ) (xs ys : List ℕ) → length xs ≡ length ys → same_list eqb (map t xs) (map t ys) ≡ all_pairs (λ (a b : ℕ). eqb (t a) (t b)) xs ys
unfolding same_list all_pairs
same_pairs t [] [] l = refl
same_pairs t [] (y ∷ ys) l = absurd (omega arith)
same_pairs t (x ∷ xs) [] l = absurd (omega arith)
same_pairs t (x ∷ xs) (y ∷ ys) l = ap (λ (b : Bool). eqb (t x) (t y) && b) (same_pairs t xs ys (omega arith))

types_agree : (s : Store) (xs ys : List ℕ) → length xs ≡ length ys
    → Opposite (same_list eqb (map (type_of s) xs) (map (type_of s) ys)) (types_differ s (zip xs ys).pairs)
unfolding types_differ Opposite
types_agree s xs ys l = same_pairs (type_of s) xs ys l ∙ pairs_agree _ _ (λ a b. refl) xs ys

attributes_opposite : (ig : Ignore) (xs ys : List Attribute) → keys_rise xs ≡ true → keys_rise ys ≡ true
    → Opposite (same_list same_attribute (unignored ig xs) (unignored ig ys)) (not (attributes_eq ig xs ys))
unfolding Opposite
attributes_opposite ig xs ys hx hy = sym (attributes_agree ig xs ys hx hy) ∙ not_not _

entered : (xs ys values : List ℕ) → enter_all xs ys values ≡ map_values (zip xs ys).pairs values
unfolding enter_all map_values zip
entered [] ys values = refl
entered (x ∷ xs) [] values = refl
entered (x ∷ xs) (y ∷ ys) values = entered xs ys _

-- ---- a test that names a pair where it fails

pub answered_expect : (ok : Bool) (p : Pair) (st st' : State) → answered (expect ok p st st') ≡ cond ok (answers Eq st'.mapping) (answers (named p) st.mapping)
unfolding expect answered result_of standing
answered_expect true p st st' = refl
answered_expect false p st st' = refl

module _ (s : Store) (ig : Ignore) where
  -- ---- `op_eq_map` and `block_eq_map`

  pub ops_map : (l r : ℕ) → keys_rise (op_at s l).attributes ≡ true → keys_rise (op_at s r).attributes ≡ true → (st : State)
      → answered (pair_ops s ig l r st) ≡ op_eq_map s ig l r st.mapping
  unfolding pair_ops op_eq_map same_shells shell_of counts_of enter_ops named named_by pair_of results_of same_list
  ops_map l r hl hr st =
      answered_expect _ (pair_of op l r) st (enter_ops s l r st)
      ∙ ap (λ (vs : List ℕ). cond (same_shells s ig (of_op l) (of_op r))
      (answers Eq (record { values = vs; blocks = st.mapping.blocks; ops = set st.mapping.ops l r })) (answers (FirstNEQOps l r) st.mapping))
      (entered (values_of s (of_op l)) (values_of s (of_op r)) st.mapping.values)
      ∙ four _ _ _ _ _ _ _ _
      (five (eqb (op_at s l).kind (op_at s r).kind) (eqb (length (regions_of s l)) (length (regions_of s r)))
      (eqb (length (op_at s l).successors) (length (op_at s r).successors)) (eqb (length (op_at s l).operands) (length (op_at s r).operands))
      (eqb (length (values_of s (of_op l))) (length (values_of s (of_op r)))))
      (locations ig (op_at s l).location (op_at s r).location)
      (attributes_opposite ig (op_at s l).attributes (op_at s r).attributes hl hr)
      (λ h. types_agree s (values_of s (of_op l)) (values_of s (of_op r)) (ap (λ (ns : List ℕ). get_or ns 4 0) ((numbers_same (counts_of s (of_op l)) (counts_of s (of_op r))).0 h)))
      _ _

  pub blocks_map : (l r : ℕ) → keys_rise (block_at s l).attributes ≡ true → keys_rise (block_at s r).attributes ≡ true → (st : State)
      → answered (pair_blocks s ig l r st) ≡ block_eq_map s ig l r st.mapping
  unfolding pair_blocks block_eq_map same_shells shell_of counts_of enter_blocks named named_by pair_of arguments_of
  blocks_map l r hl hr st =
      answered_expect _ (pair_of block l r) st (enter_blocks s l r st)
      ∙ ap (λ (vs : List ℕ). cond (same_shells s ig (of_block l) (of_block r))
      (answers Eq (record { values = vs; blocks = set st.mapping.blocks l r; ops = st.mapping.ops })) (answers (FirstNEQBlocks l r) st.mapping))
      (entered (values_of s (of_block l)) (values_of s (of_block r)) st.mapping.values)
      ∙ four _ _ _ _ _ _ _ _
      (one_count (length (values_of s (of_block l))) (length (values_of s (of_block r))))
      (locations ig (block_at s l).location (block_at s r).location)
      (attributes_opposite ig (block_at s l).attributes (block_at s r).attributes hl hr)
      (λ h. types_agree s (values_of s (of_block l)) (values_of s (of_block r)) (ap (λ (ns : List ℕ). get_or ns 0 0) ((numbers_same (counts_of s (of_block l)) (counts_of s (of_block r))).0 h)))
      _ _

-- ---- what two operations name

module _ (s : Store) (m : Mapping) (l r : ℕ) where
  pub operands_agree_lem : Opposite (operands_agree s m l r) (operands_differ s m (zip (op_at s l).operands (op_at s r).operands).pairs)
  unfolding operands_agree operands_differ Opposite
  operands_agree_lem = pairs_agree _ _ (λ a b. go (eqb (image m.values a) b) (eqb (type_of s a) (type_of s b))) (op_at s l).operands (op_at s r).operands
    where
      go : (a b : Bool) → not (a && b) ≡ (not a || not b)
      go true b = refl
      go false b = refl

  pub successors_agree_lem : Opposite (successors_agree s m l r) (successors_differ m (zip (op_at s l).successors (op_at s r).successors).pairs)
  unfolding successors_agree successors_differ Opposite
  successors_agree_lem = pairs_agree _ _ (λ a b. refl) (op_at s l).successors (op_at s r).successors
