-- Attributes set one after the other by rising key are an owner's list, and another owner's are as they were. Assumes nothing.
use Rattle.std.proofs.Common.{◌≡◌, ℕ, zero, suc, ◌<◌, ◌≤◌, true, false, List, [], ◌∷◌, ◌++◌, length, get_or, take, refl, sym, ap, arith}
use borrow.Author.Tests.{ltb-true, ne_eqb}
use Rattle.std.proofs.lemmas.Bool.{le-ltb}
use lib.Dec.{ltb, eqb}
use Rattle.rules.specs.Lists.{update_at}
use Rattle.rules.specs.Store.{Store, Op, Block, no_op, no_block, op_at, block_at, keys_rise, keys_rise_after}
use Rattle.rules.specs.declared.types.Attribute.{Attribute}
use Rattle.rules.specs.declared.types.Owner.{Owner}
use Rattle.rules.specs.declared.types.Owner.TheVariants.{Op as of_op, Block as of_block}
use Rattle.rules.specs.Building.{attributes_of, set_attribute, applied, put_attribute, op_with_attribute, block_with_attribute}
use Rattle.rules.proofs.Basics.Tests.{and_left, and_right}
use Rattle.copying.specs.Written.{op_attributed, block_attributed, attributed}

-- ---- one entry changed

update_twice : {A : Type 0} (f g h : A → A) (i : ℕ) (xs : List A) → ((x : A) → f (g x) ≡ h x) → update_at f i (update_at g i xs) ≡ update_at h i xs
unfolding update_at
update_twice f g h i [] e = refl
update_twice f g h zero (x ∷ xs) e = ap (λ (y : _). y ∷ xs) (e x)
update_twice f g h (suc i) (x ∷ xs) e = ap (λ (l : List _). x ∷ l) (update_twice f g h i xs e)

update_none : {A : Type 0} (f : A → A) (i : ℕ) (xs : List A) (d : A) → f (get_or xs i d) ≡ get_or xs i d → update_at f i xs ≡ xs
unfolding update_at
update_none f i [] d e = refl
update_none f zero (x ∷ xs) d e = ap (λ (y : _). y ∷ xs) e
update_none f (suc i) (x ∷ xs) d e = ap (λ (l : List _). x ∷ l) (update_none f i xs d e)

update_there : {A : Type 0} (f : A → A) (i : ℕ) (xs : List A) (d : A) → i < length xs → get_or (update_at f i xs) i d ≡ f (get_or xs i d)
unfolding update_at
update_there f i [] d l = absurd (omega arith)
update_there f zero (x ∷ xs) d l = refl
update_there f (suc i) (x ∷ xs) d l = update_there f i xs d (omega arith)

update_else : {A : Type 0} (f : A → A) (i j : ℕ) (xs : List A) (d : A) → (j ≡ i → ⊥) → get_or (update_at f i xs) j d ≡ get_or xs j d
unfolding update_at
update_else f i j [] d ne = refl
update_else f zero zero (x ∷ xs) d ne = absurd (ne refl)
update_else f zero (suc j) (x ∷ xs) d ne = refl
update_else f (suc i) zero (x ∷ xs) d ne = refl
update_else f (suc i) (suc j) (x ∷ xs) d ne = update_else f i j xs d (λ e. ne (ap suc e))

-- ---- keys

-- each key is below this one
pub data AllBelow (k : ℕ) : List Attribute → Type 0 where
  none : AllBelow k []
  more : {a : Attribute} {as' : List Attribute} → a.key < k → AllBelow k as' → AllBelow k (a ∷ as')

put_last : (a : Attribute) (as' : List Attribute) → AllBelow a.key as' → put_attribute a as' ≡ as' ++ (a ∷ [])
unfolding put_attribute
put_last a [] none = refl
put_last a (b ∷ bs) (more l h) =
    let up : b.key ≤ a.key = omega arith in
    let e : ltb a.key b.key ≡ false = le-ltb a.key b.key up in
    let f : eqb a.key b.key ≡ false = ne_eqb a.key b.key (λ q. omega arith) in
    rw (e, f) (ap (λ (x : List Attribute). b ∷ x) (put_last a bs h))

after_rise : (k : ℕ) (as' : List Attribute) (i : ℕ) (d : Attribute) → keys_rise_after k as' ≡ true → i < length as' → k < (get_or as' i d).key
unfolding keys_rise_after
after_rise k [] i d h l = absurd (omega arith)
after_rise k (a ∷ as') zero d h l = ltb-true k a.key (and_left _ (keys_rise_after a.key as') h)
after_rise k (a ∷ as') (suc i) d h l =
    let b : k < a.key = ltb-true k a.key (and_left _ (keys_rise_after a.key as') h) in
    let r = after_rise a.key as' i d (and_right (ltb k a.key) _ h) (omega arith) in
    omega arith

below_after : (k : ℕ) (as' : List Attribute) (i : ℕ) (d : Attribute) → keys_rise_after k as' ≡ true → i < length as'
    → AllBelow (get_or as' i d).key (take i as')
unfolding keys_rise_after
below_after k [] i d h l = absurd (omega arith)
below_after k (a ∷ as') zero d h l = none
below_after k (a ∷ as') (suc i) d h l =
    more (after_rise a.key as' i d (and_right (ltb k a.key) _ h) (omega arith)) (below_after a.key as' i d (and_right (ltb k a.key) _ h) (omega arith))

-- the keys before one of a list whose keys rise
pub keys_below : (as' : List Attribute) (i : ℕ) (d : Attribute) → keys_rise as' ≡ true → i < length as'
    → AllBelow (get_or as' i d).key (take i as')
unfolding keys_rise
keys_below [] i d h l = absurd (omega arith)
keys_below (a ∷ as') zero d h l = none
keys_below (a ∷ as') (suc i) d h l = more (after_rise a.key as' i d h (omega arith)) (below_after a.key as' i d h (omega arith))

pub below_at : (k : ℕ) (as' : List Attribute) (i : ℕ) (d : Attribute) → AllBelow k as' → i < length as' → (get_or as' i d).key < k
below_at k [] i d h l = absurd (omega arith)
below_at k (a ∷ as') zero d (more b h) l = b
below_at k (a ∷ as') (suc i) d (more b h) l = below_at k as' i d h (omega arith)

-- ---- the owner's attributes

-- there is one with this number
unfoldable pub OwnerHere : Store → Owner → Type 0
OwnerHere s (of_op n) = n < length s.ops
OwnerHere s (of_block b) = b < length s.blocks

pub attributed_none : (s : Store) (w : Owner) → attributes_of s w ≡ [] → attributed s w [] ≡ s
unfolding attributed attributes_of op_at block_at op_attributed block_attributed
attributed_none s (of_op n) e i =
    record {
      ops = update_none (op_attributed []) n s.ops no_op (λ j. record (get_or s.ops n no_op) { attributes = sym e j }) i;
      blocks = s.blocks;
      regions = s.regions;
      values = s.values;
    }
attributed_none s (of_block b) e i =
    record {
      ops = s.ops;
      blocks = update_none (block_attributed []) b s.blocks no_block (λ j. record (get_or s.blocks b no_block) { attributes = sym e j }) i;
      regions = s.regions;
      values = s.values;
    }

-- one attribute more, above the others
pub attributed_more : (s : Store) (w : Owner) (as' : List Attribute) (a : Attribute) → AllBelow a.key as'
    → applied (attributed s w as') (set_attribute w a) ≡ attributed s w (as' ++ (a ∷ []))
unfolding attributed applied op_attributed block_attributed op_with_attribute block_with_attribute
attributed_more s (of_op n) as' a h i =
    record {
      ops = update_twice (op_with_attribute a) (op_attributed as') (op_attributed (as' ++ (a ∷ []))) n s.ops
          (λ (o : Op). λ j. record {
            kind =
                o.kind;
            parent =
                o.parent;
            location = o.location;
            operands = o.operands;
            successors = o.successors;
            attributes = put_last a as' h j;
          }) i;
      blocks = s.blocks;
      regions = s.regions;
      values = s.values;
    }
attributed_more s (of_block b) as' a h i =
    record {
      ops = s.ops;
      blocks = update_twice (block_with_attribute a) (block_attributed as') (block_attributed (as' ++ (a ∷ []))) b s.blocks
          (λ (o : Block). λ j. record { region = o.region; location = o.location; attributes = put_last a as' h j }) i;
      regions = s.regions;
      values = s.values;
    }

pub attributes_there : (s : Store) (w : Owner) (as' : List Attribute) → OwnerHere s w → attributes_of (attributed s w as') w ≡ as'
unfolding attributed attributes_of op_at block_at OwnerHere op_attributed block_attributed
attributes_there s (of_op n) as' l = ap (λ (o : Op). o.attributes) (update_there (op_attributed as') n s.ops no_op l)
attributes_there s (of_block b) as' l = ap (λ (o : Block). o.attributes) (update_there (block_attributed as') b s.blocks no_block l)

pub attributes_else : (s : Store) (w u : Owner) (as' : List Attribute) → (u ≡ w → ⊥) → attributes_of (attributed s w as') u ≡ attributes_of s u
unfolding attributed attributes_of op_at block_at
attributes_else s (of_op n) (of_op m) as' ne = ap (λ (o : Op). o.attributes) (update_else (op_attributed as') n m s.ops no_op (λ e. ne (ap of_op e)))
attributes_else s (of_op n) (of_block m) as' ne = refl
attributes_else s (of_block b) (of_op m) as' ne = refl
attributes_else s (of_block b) (of_block m) as' ne =
    ap (λ (o : Block). o.attributes) (update_else (block_attributed as') b m s.blocks no_block (λ e. ne (ap of_block e)))
