-- The tests of shells and of names, as equations: two shells pass exactly when they are equal, and two lists of names exactly when what
-- the names stand for is equal, entry by entry. Assumes nothing.
use Prim.Native.Nat.{ℕ}
use native.Mathlib.Omega.{arith}
use mathlib.Core.Bool.{Bool, true}
use mathlib.Core.List.{List, [], ◌∷◌, map, Memᴰ, head-eq_of_cons-eq, tail-eq_of_cons-eq}
use mathlib.Core.Logic.{◌↔◌}
use Rattle.std.specs.Prelude.{Option, None, Some}
use Rattle.std.proofs.lemmas.Option.{same_Some}
use mathlib.Core.Path.{◌≡◌, refl, sym, ap, ap₂, ◌∙◌}
use borrow.Author.Tests.{eqb-true, eq-eqb}
use lib.ListN.{length, length-map}
use Rattle.rules.specs.Lists.{all_pairs, same_list}
use Rattle.rules.specs.Store.{Store, type_of, values_of}
use Rattle.rules.specs.declared.types.Attribute.{Attribute}
use Rattle.rules.specs.declared.types.Owner.{Owner}
use Rattle.rules.specs.declared.types.Owner.TheVariants.{Op as of_op, Block as of_block}
use Rattle.rules.specs.Fragments.{block_owner, op_owner}
use Rattle.rules.specs.Shells.{Shell, shell_of, counts_of, same_attribute, same_location, same_shells}
use Rattle.rules.specs.declared.types.Ignore.{Ignore}
use Rattle.rules.proofs.Basics.Tests.{bools_same, and_left, and_right, and_both, passed, every_of, clash, list_same, numbers_same}

-- ---- equal shells

location_same : (a b : Option ℕ) → (same_location a b ≡ true) ↔ (a ≡ b)
unfolding same_location
location_same None None = (λ h. refl, λ e. refl)
location_same None (Some b) = (λ h. clash h refl, λ e. cc)
location_same (Some a) None = (λ h. clash h refl, λ e. cc)
location_same (Some a) (Some b) = (λ h. ap {B = Option ℕ} Some (eqb-true a b h), λ e. eq-eqb a b (same_Some a b e))

pub attribute_same : (a b : Attribute) → (same_attribute a b ≡ true) ↔ (a ≡ b)
unfolding same_attribute
attribute_same a b = (
  λ h. let p = passed _ h in
      let key : a.key ≡ b.key = eqb-true _ _ p.0 in
      let kind : a.kind ≡ b.kind = eqb-true _ _ p.1.0 in
      let content : a.content ≡ b.content = eqb-true _ _ p.1.1.0 in
      let inherent : a.inherent ≡ b.inherent = (bools_same _ _).0 p.1.1.1.0 in
      λ i. record { key = key i; kind = kind i; content = content i; inherent = inherent i },
  λ e. every_of _ (
    eq-eqb _ _ (λ i. (e i).key),
    (eq-eqb _ _ (λ i. (e i).kind), (eq-eqb _ _ (λ i. (e i).content), ((bools_same _ _).1 (λ i. (e i).inherent), tt))),
  ),
)

pub attributes_same : (xs ys : List Attribute) → (same_list same_attribute xs ys ≡ true) ↔ (xs ≡ ys)
attributes_same = list_same same_attribute attribute_same

pub shells→≡ : (s : Store) (ig : Ignore) (l r : Owner) → same_shells s ig l r ≡ true → (counts_of s l ≡ counts_of s r) × (shell_of s ig l ≡ shell_of s ig r)
unfolding same_shells
shells→≡ s ig l r h =
    let p = passed _ h in (
      (numbers_same (counts_of s l) (counts_of s r)).0 p.0,
      λ i. record {
        location = (location_same (shell_of s ig l).location (shell_of s ig r).location).0 p.1.0 i;
        attributes = (attributes_same (shell_of s ig l).attributes (shell_of s ig r).attributes).0 p.1.1.0 i;
        types = (numbers_same (shell_of s ig l).types (shell_of s ig r).types).0 p.1.1.1.0 i;
      },
    )

pub ≡→shells : (s : Store) (ig : Ignore) (l r : Owner) → counts_of s l ≡ counts_of s r → shell_of s ig l ≡ shell_of s ig r → same_shells s ig l r ≡ true
unfolding same_shells
≡→shells s ig l r c h =
    every_of _ (
      (numbers_same (counts_of s l) (counts_of s r)).1 c,
      ((location_same _ _).1 (λ i. (h i).location), ((attributes_same _ _).1 (λ i. (h i).attributes), ((numbers_same _ _).1 (λ i. (h i).types), tt))),
    )

-- a shell has a type for each value
types_count : (s : Store) (ig : Ignore) (w : Owner) → length (shell_of s ig w).types ≡ length (values_of s w)
unfolding shell_of
types_count s ig (of_op n) = length-map (values_of s (of_op n)) (type_of s)
types_count s ig (of_block b) = length-map (values_of s (of_block b)) (type_of s)

-- equal shells have as many values, and are both of an operation or both of a block
pub values_count : (s : Store) (ig : Ignore) (l r : Owner) → shell_of s ig l ≡ shell_of s ig r → length (values_of s l) ≡ length (values_of s r)
values_count s ig l r h = sym (types_count s ig l) ∙ ap (λ (x : Shell). length x.types) h ∙ types_count s ig r

by_sort : (s : Store) (f : Owner → ℕ) → ((a b : ℕ) → f (of_op a) ≡ f (of_op b)) → ((a b : ℕ) → f (of_block a) ≡ f (of_block b))
    → (l r : Owner) → counts_of s l ≡ counts_of s r → f l ≡ f r
unfolding counts_of
by_sort s f ops blocks (of_op a) (of_op b) h = ops a b
by_sort s f ops blocks (of_op a) (of_block b) h = let e : ◌≡◌ {A = ℕ} 5 1 = ap length h in absurd (omega arith)
by_sort s f ops blocks (of_block a) (of_op b) h = let e : ◌≡◌ {A = ℕ} 1 5 = ap length h in absurd (omega arith)
by_sort s f ops blocks (of_block a) (of_block b) h = blocks a b

pub blocks_count : (s : Store) (l r : Owner) → counts_of s l ≡ counts_of s r → length (block_owner l) ≡ length (block_owner r)
unfolding block_owner
blocks_count s = by_sort s (λ (w : Owner). length (block_owner w)) (λ a b. refl) (λ a b. refl)

pub ops_count : (s : Store) (l r : Owner) → counts_of s l ≡ counts_of s r → length (op_owner l) ≡ length (op_owner r)
unfolding op_owner
ops_count s = by_sort s (λ (w : Owner). length (op_owner w)) (λ a b. refl) (λ a b. refl)

-- ---- lists of names, pair by pair

module _ {B : Type 0} (p : ℕ → ℕ → Bool) (f g : ℕ → B) where
  pub pairs_forth : (Ok : ℕ → Type 0) → ((a b : ℕ) → Ok a → p a b ≡ true → f a ≡ g b)
      → (xs ys : List ℕ) → length xs ≡ length ys → ((a : ℕ) → Memᴰ a xs → Ok a) → all_pairs p xs ys ≡ true → map f xs ≡ map g ys
  unfolding all_pairs
  pairs_forth Ok same [] [] len ok h = refl
  pairs_forth Ok same [] (y ∷ ys) len ok h = absurd (omega arith)
  pairs_forth Ok same (x ∷ xs) [] len ok h = absurd (omega arith)
  pairs_forth Ok same (x ∷ xs) (y ∷ ys) len ok h =
      ap₂ ◌∷◌ (same x y (ok x (Memᴰ.head refl)) (and_left (p x y) (all_pairs p xs ys) h))
      (pairs_forth Ok same xs ys (omega arith) (λ a m. ok a (Memᴰ.tail m)) (and_right (p x y) (all_pairs p xs ys) h))

  pub pairs_back : ((a b : ℕ) → f a ≡ g b → p a b ≡ true) → (xs ys : List ℕ) → map f xs ≡ map g ys → all_pairs p xs ys ≡ true
  unfolding all_pairs
  pairs_back same [] ys h = refl
  pairs_back same (x ∷ xs) [] h = refl
  pairs_back same (x ∷ xs) (y ∷ ys) h = and_both (p x y) (all_pairs p xs ys) (same x y (head-eq_of_cons-eq h)) (pairs_back same xs ys (tail-eq_of_cons-eq h))
