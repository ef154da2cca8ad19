-- Two fragments of which neither reaches into the other share no operation or block, and neither names what the other defines: a step of the one
-- reaches into the other where it defines or names an entry of one of the other's lists. Assumes nothing.
use Prim.Native.Nat.{ℕ}
use mathlib.Core.Bool.{Bool, true, false, cond, not, ◌&&◌, ◌||◌, or-false, and-true, and_assoc}
use mathlib.Core.List.{List, [], ◌∷◌}
use mathlib.Core.Logic.{⊎_elim}
use Rattle.std.specs.Prelude.{Option, None, Some, is_some}
use mathlib.Core.Path.{◌≡◌, refl, sym, ap, ap₂, subst, ◌∙◌}
use borrow.Author.Tests.{not-true}
use lib.Dec.{eqb}
use Rattle.rules.specs.Lists.{every, later, position}
use Rattle.std.specs.List.{list_all, list_any, flat_map}
use Rattle.rules.specs.Store.{Store, same_owner, op_at}
use Rattle.rules.specs.declared.types.Owner.{Owner}
use Rattle.rules.specs.declared.types.Owner.TheVariants.{Op as of_op, Block as of_block}
use Rattle.rules.specs.Fragments.{Step, shell, names, counted, steps, step_defines, step_operands, step_successors, op_owner, block_owner, defines_owners, defines_values, defines_blocks, fragment_ops, names_values, names_blocks}
use Rattle.rules.specs.declared.types.Sort.{Sort}
use Rattle.rules.specs.Copying.{has_place}
use Rattle.rules.specs.Independence.{disjoint, names_nothing_of, independent}
use Rattle.rules.proofs.Basics.Tests.{all_at, all_of, and_left, decided, clash, not_or}
use Rattle.rules.proofs.Basics.Filtered.{any_at, any_where}
use Rattle.rules.proofs.Soundness.Children.{same_owner_lem}
use Rattle.rules.proofs.Soundness.NewValues.{same_self}
use Rattle.rules.proofs.Walking.ByParts.{any_both, any_same, any_concat}
use Rattle.grouping.specs.Reaching.{owner_inside, names_inside, reaches, fragment_reaches}

-- ---- a place in a list is an entry that is the same

place_any : (xs : List ℕ) (m : ℕ) → has_place xs m ≡ list_any (eqb m) xs
unfolding has_place position later
place_any [] m = refl
place_any (x ∷ xs) m = first (eqb m x) (position m xs) ∙ ap (λ (b : Bool). eqb m x || b) (place_any xs m)
  where
    first : (b : Bool) (o : Option ℕ) → is_some (cond b (Some 0) (later o)) ≡ (b || is_some o)
    first true o = refl
    first false None = refl
    first false (Some i) = refl

op_any : (ws : List Owner) (m : ℕ) → list_any (same_owner (of_op m)) ws ≡ list_any (eqb m) (flat_map op_owner ws)
unfolding same_owner op_owner
op_any [] m = refl
op_any (of_op n ∷ ws) m = ap (λ (b : Bool). eqb m n || b) (op_any ws m)
op_any (of_block b ∷ ws) m = op_any ws m

block_any : (ws : List Owner) (b : ℕ) → list_any (same_owner (of_block b)) ws ≡ list_any (eqb b) (flat_map block_owner ws)
unfolding same_owner block_owner
block_any [] b = refl
block_any (of_op n ∷ ws) b = block_any ws b
block_any (of_block c ∷ ws) b = ap (λ (t : Bool). eqb b c || t) (block_any ws b)

-- ---- lists without a common entry

not_any : {A : Type 0} (p : A → Bool) (xs : List A) → list_all (λ (x : A). not (p x)) xs ≡ not (list_any p xs)
not_any p [] = refl
not_any p (x ∷ xs) = ap (λ (b : Bool). not (p x) && b) (not_any p xs) ∙ not_or (p x) (list_any p xs)

-- they have none the other way round
apart_back : (vs ws : List Owner) → disjoint same_owner vs ws ≡ true → disjoint same_owner ws vs ≡ true
unfolding disjoint
apart_back vs ws h =
    all_of (λ (w : Owner). not (list_any (same_owner w) vs)) ws (λ w m. ⊎_elim
    (λ e. let v = any_where (same_owner w) vs e in
    let same : w ≡ v.0 = same_owner_lem w v.0 v.2 in
    clash (any_at (same_owner v.0) m (subst (λ (x : Owner). same_owner x w ≡ true) same (same_self w))) (not-true _ (all_at (λ (x : Owner). not (list_any (same_owner x) ws)) vs h v.1)))
    (λ e. ap not e)
    (decided (list_any (same_owner w) vs)))

module _ (s : Store) (f : Sort) where
  -- ---- what one step reaches

  module _ (n : ℕ) where
    owner_same : (w : Owner) → owner_inside s f n w ≡ list_any (same_owner w) (defines_owners s f n)
    unfolding owner_inside fragment_ops defines_blocks
    owner_same (of_op m) = place_any (flat_map op_owner (defines_owners s f n)) m ∙ sym (op_any (defines_owners s f n) m)
    owner_same (of_block b) = place_any (flat_map block_owner (defines_owners s f n)) b ∙ sym (block_any (defines_owners s f n) b)

    -- an owner, an operand or a successor that is also the other's
    own : Step → Bool
    own x = list_any (λ (w : Owner). list_any (same_owner w) (defines_owners s f n)) (step_defines x)

    operand : Step → Bool
    operand x = list_any (λ (v : ℕ). list_any (eqb v) (defines_values s f n)) (step_operands s x)

    successor : Step → Bool
    successor x = list_any (λ (b : ℕ). list_any (eqb b) (defines_blocks s f n)) (step_successors s x)

    step_reaches : (x : Step) → reaches s f n x ≡ (own x || (operand x || successor x))
    unfolding reaches names_inside own operand successor step_defines step_operands step_successors
    step_reaches (shell w) = owner_same w ∙ sym (or-false _) ∙ sym (or-false _)
    step_reaches (names m) =
        ap₂ ◌||◌
        (any_same _ _ (op_at s m).operands (place_any (defines_values s f n)))
        (any_same _ _ (op_at s m).successors (place_any (defines_blocks s f n)))
    step_reaches (counted k) = refl

  -- ---- what a fragment reaches

  module _ (n x : ℕ) where
    shares : Bool
    shares = list_any (λ (w : Owner). list_any (same_owner w) (defines_owners s f n)) (defines_owners s f x)

    names_value : Bool
    names_value = list_any (λ (v : ℕ). list_any (eqb v) (defines_values s f n)) (names_values s f x)

    names_block : Bool
    names_block = list_any (λ (b : ℕ). list_any (eqb b) (defines_blocks s f n)) (names_blocks s f x)

    reaches_by : fragment_reaches s f n x ≡ (shares || (names_value || names_block))
    unfolding fragment_reaches shares names_value names_block defines_owners names_values names_blocks own operand successor
    reaches_by =
        any_same _ _ (steps s f x) (step_reaches n)
        ∙ any_both (own n) (λ (y : Step). operand n y || successor n y) (steps s f x)
        ∙ ap₂ ◌||◌
        (sym (any_concat _ step_defines (steps s f x)))
        (any_both (operand n) (successor n) (steps s f x)
        ∙ ap₂ ◌||◌ (sym (any_concat _ (step_operands s) (steps s f x))) (sym (any_concat _ (step_successors s) (steps s f x))))

    pub not_reaches : not (fragment_reaches s f n x) ≡ (disjoint same_owner (defines_owners s f x) (defines_owners s f n) && names_nothing_of s f x n)
    unfolding shares names_value names_block disjoint names_nothing_of
    not_reaches =
        ap not reaches_by
        ∙ sym (not_or shares (names_value || names_block))
        ∙ ap₂ ◌&&◌
        (sym (not_any _ (defines_owners s f x)))
        (sym (not_or names_value names_block) ∙ ap₂ ◌&&◌ (sym (not_any _ (names_values s f x))) (sym (not_any _ (names_blocks s f x))))

  -- ---- independence

  module _ (a b : ℕ) where
    abbrev shared : Bool
    shared = disjoint same_owner (defines_owners s f a) (defines_owners s f b)

    abbrev named : Bool
    named = names_nothing_of s f a b

    abbrev named_back : Bool
    named_back = names_nothing_of s f b a

    pub same_independent : eqb a b ≡ true → eqb a b ≡ independent s f a b
    unfolding independent
    same_independent e = e ∙ sym (ap (λ (t : Bool). t || every (shared ∷ named ∷ named_back ∷ [])) e)

    module _ (ne : eqb a b ≡ false) where
      by_parts : independent s f a b ≡ ((shared && named) && named_back)
      unfolding independent every
      by_parts =
          ap (λ (t : Bool). t || every (shared ∷ named ∷ named_back ∷ [])) ne
          ∙ ap (λ (t : Bool). shared && (named && t)) (and-true named_back)
          ∙ sym (and_assoc shared named named_back)

      -- the first reaches into the second
      pub reached : fragment_reaches s f b a ≡ true → not (fragment_reaches s f b a) ≡ independent s f a b
      reached e =
          let none : (shared && named) ≡ false = sym (not_reaches b a) ∙ ap not e in
          ap not e ∙ sym (by_parts ∙ ap (λ (t : Bool). t && named_back) none)

      -- it doesn't: what is left is whether the second names something of the first
      pub not_reached : fragment_reaches s f b a ≡ false → not (fragment_reaches s f a b) ≡ independent s f a b
      not_reached e =
          let both : (shared && named) ≡ true = sym (not_reaches b a) ∙ ap not e in
          not_reaches a b
          ∙ ap (λ (t : Bool). t && named_back) (apart_back (defines_owners s f a) (defines_owners s f b) (and_left shared named both))
          ∙ sym (by_parts ∙ ap (λ (t : Bool). t && named_back) both)
