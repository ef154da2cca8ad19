-- Whether a fragment reaches into another is whether some step of its walk does, and that is told part by part: of a block by its operations, of an
-- operation by its regions, of a region by its blocks. Assumes nothing.
use Prim.Native.Nat.{ℕ, suc, ◌-◌}
use native.Mathlib.Omega.{arith}
use mathlib.Core.Bool.{Bool, true, false, ◌||◌, or_assoc}
use mathlib.Core.List.{List, [], ◌∷◌, ◌++◌}
use mathlib.Core.Path.{◌≡◌, refl, sym, ap, ◌∙◌}
use Rattle.std.specs.List.{list_any}
use Rattle.std.specs.List.{list_any}
use Rattle.rules.specs.Store.{Store, op_at, ops_of, blocks_of, regions_of}
use Rattle.rules.specs.Fragments.{levels, steps, counted, full_op, region_steps, fragment_ops, defines_values, defines_blocks}
use Rattle.rules.specs.declared.types.Sort.{Sort}
use Rattle.rules.specs.declared.types.Sort.TheVariants.{Op as op, Block as block, Region as region}
use Rattle.rules.specs.Copying.{has_place}
use Rattle.rules.proofs.Basics.Tests.{or_left, or_right, or_neither}
use Rattle.rules.proofs.Basics.Filtered.{any_append}
use Rattle.rules.proofs.Walking.ByParts.{any_block, any_region, any_full}
use Rattle.grouping.specs.Reaching.{owner_inside, names_inside, reaches, region_reaches, block_reaches, op_reaches, fragment_reaches}

-- ---- names, one by one

module _ (s : Store) (f : Sort) (n m : ℕ) where
  abbrev operands_inside : List ℕ → Bool
  operands_inside vs = list_any (has_place (defines_values s f n)) vs

  abbrev successors_inside : List ℕ → Bool
  successors_inside bs = list_any (has_place (defines_blocks s f n)) bs

  pub operand_inside : {vs : List ℕ} → vs ≡ (op_at s m).operands → operands_inside vs ≡ true → operands_inside vs ≡ names_inside s f n m
  unfolding names_inside
  operand_inside {vs} e h =
      let own : list_any (has_place (defines_values s f n)) (op_at s m).operands ≡ true = sym (ap operands_inside e) ∙ h in
      h ∙ sym (ap (λ (b : Bool). b || list_any (has_place (defines_blocks s f n)) (op_at s m).successors) own)

  pub no_operand_inside : {vs bs : List ℕ} → vs ≡ (op_at s m).operands → bs ≡ (op_at s m).successors → operands_inside vs ≡ false
      → successors_inside bs ≡ names_inside s f n m
  unfolding names_inside
  no_operand_inside {vs} {bs} e g h =
      let none : list_any (has_place (defines_values s f n)) (op_at s m).operands ≡ false = sym (ap operands_inside e) ∙ h in
      ap successors_inside g
      ∙ sym (ap (λ (b : Bool). b || list_any (has_place (defines_blocks s f n)) (op_at s m).successors) none)

-- ---- by what is found in children one after the other

pub none_yet : (p : ℕ → Bool) → list_any p [] ≡ false
none_yet p = refl

pub none_more : (p : ℕ → Bool) (came : List ℕ) (x : ℕ) → list_any p came ≡ false → p x ≡ false → list_any p (came ++ x ∷ []) ≡ false
none_more p came x h e = any_append p came (x ∷ []) ∙ or_neither (list_any p came) (list_any p (x ∷ [])) h (or_neither (p x) false e refl)

-- in the first of two parts, or else in the second
pub first_part : {whole a : Bool} (b : Bool) → whole ≡ (a || b) → a ≡ true → true ≡ whole
first_part b e h = sym (e ∙ ap (λ (x : Bool). x || b) h)

pub second_part : {whole a b r : Bool} → whole ≡ (a || b) → a ≡ false → b ≡ r → r ≡ whole
second_part {b = b} e h g = sym (e ∙ ap (λ (x : Bool). x || b) h ∙ g)

-- ---- part by part

module _ (s : Store) (f : Sort) (n left : ℕ) where
  none_counted : (k : ℕ) → reaches s f n (counted k) ≡ false
  unfolding reaches
  none_counted k = refl

  pub block_parts : (b : ℕ) → block_reaches s f n left b ≡ (has_place (defines_blocks s f n) b || list_any (op_reaches s f n left) (ops_of s b))
  unfolding block_reaches op_reaches reaches owner_inside
  block_parts b = any_block (reaches s f n) none_counted s (full_op s (region_steps left s)) b

  pub region_parts : (r : ℕ) → (left ≡ 0 → ⊥) → region_reaches s f n left r ≡ list_any (block_reaches s f n (left - 1)) (blocks_of s r)
  unfolding region_reaches block_reaches
  region_parts r ne =
      let e : left ≡ suc (left - 1) = omega arith in
      ap (λ (k : ℕ). list_any (reaches s f n) (region_steps k s r)) e ∙ any_region (reaches s f n) none_counted s (left - 1) r

  pub region_none : (r : ℕ) → left ≡ 0 → region_reaches s f n left r ≡ false
  unfolding region_reaches region_steps
  region_none r e = ap (λ (k : ℕ). list_any (reaches s f n) (region_steps k s r)) e

  pub op_parts : (m : ℕ)
      → op_reaches s f n left m ≡ ((has_place (fragment_ops s f n) m || names_inside s f n m) || list_any (region_reaches s f n left) (regions_of s m))
  unfolding op_reaches region_reaches reaches owner_inside
  op_parts m =
      ap (λ (b : Bool). has_place (fragment_ops s f n) m || b) (any_full (reaches s f n) none_counted s (region_steps left s) m)
      ∙ sym (or_assoc (has_place (fragment_ops s f n) m) (names_inside s f n m) _)

  -- it is inside itself, or names something that is
  pub op_itself : (m : ℕ) → has_place (fragment_ops s f n) m ≡ true → true ≡ op_reaches s f n left m
  op_itself m h = first_part _ (op_parts m) (or_left _ _ h)

  pub op_names : (m : ℕ) → names_inside s f n m ≡ true → true ≡ op_reaches s f n left m
  op_names m h = first_part _ (op_parts m) (or_right _ _ h)

  -- or something in its regions reaches
  pub op_regions : (m : ℕ) → has_place (fragment_ops s f n) m ≡ false → names_inside s f n m ≡ false → {r : Bool} → list_any (region_reaches s f n left) (regions_of s m) ≡ r
      → r ≡ op_reaches s f n left m
  op_regions m h g e = second_part (op_parts m) (or_neither _ _ h g) e

-- ---- a fragment, by its sort

module _ (s : Store) (n x : ℕ) where
  pub op_whole : op_reaches s op n levels x ≡ fragment_reaches s op n x
  unfolding op_reaches fragment_reaches steps
  op_whole = refl

  pub block_whole : block_reaches s block n levels x ≡ fragment_reaches s block n x
  unfolding block_reaches fragment_reaches steps
  block_whole = refl

  pub region_whole : region_reaches s region n levels x ≡ fragment_reaches s region n x
  unfolding region_reaches fragment_reaches steps
  region_whole = refl
