-- Whether a thing lies in a fragment is told by what is next around it: all that a fragment defines, but for what it begins with, has something
-- around it that the fragment defines too; and whatever has such a thing around it is defined too. So a thing has a place among those inside where
-- what is next around it has one. Assumes nothing.
use Prim.Native.Nat.{ℕ, ◌<◌}
use mathlib.Core.Bool.{true, false}
use mathlib.Core.List.Memᴰ
use mathlib.Core.List.{List, Memᴰ}
use mathlib.Core.Logic.{◌⊎◌, inl, inr, ⊎_elim}
use Rattle.std.specs.Prelude.{Option, None, Some, option_map, is_some}
use Rattle.std.proofs.lemmas.Option.{same_Some, none-some}
use mathlib.Core.Path.{◌≡◌, refl, sym, ap, subst, ◌∙◌}
use lib.ListN.{length, get_or}
use Rattle.rules.specs.Lists.{position}
use Rattle.rules.specs.Store.{Store, Value, no_value, value_at, parent_of, op_around, owner_exists, same_owner, values_of, sound}
use Rattle.rules.specs.declared.types.Owner.{Owner}
use Rattle.rules.specs.declared.types.Owner.TheVariants.{Op as of_op, Block as of_block}
use Rattle.rules.specs.Fragments.{exists, defines_owners, defines_blocks, defines_values, fragment_ops}
use Rattle.rules.specs.declared.types.Sort.{Sort}
use Rattle.rules.specs.Copying.{has_place}
use Rattle.rules.proofs.Basics.Appended.{mem_get_d}
use Rattle.rules.proofs.Soundness.Sound.{Sound, facts}
use Rattle.rules.proofs.Soundness.NewValues.{same_self}
use Rattle.rules.proofs.Form.Images.{position_some, position_none, position_out}
use Rattle.rules.proofs.Form.Ancestors.{up, next, beyond, From, up_in_store}
use Rattle.rules.proofs.Form.Roots.{Root}
use Rattle.rules.proofs.Form.Once.{owners_from}
use Rattle.rules.proofs.Form.Owned.{op_owned, owned_op, block_owned, owned_block, value_owner_lem}
use Rattle.rules.proofs.Copying.Renumbered.{in_concat_map}
use Rattle.rules.proofs.Copying.Inside.{number_in}
use Rattle.rules.proofs.Copying.Within.{op_inside, block_inside, all_inside, roots_defined}

-- ---- a place in a list

pub place_there : (xs : List ℕ) {m : ℕ} → Memᴰ m xs → has_place xs m ≡ true
unfolding has_place
place_there xs {m} k = go (position m xs) refl
  where
    go : (o : Option ℕ) → position m xs ≡ o → is_some o ≡ true
    go None e = absurd (position_none m xs e k)
    go (Some i) e = refl

pub place_nowhere : (xs : List ℕ) (m : ℕ) → (Memᴰ m xs → ⊥) → has_place xs m ≡ false
unfolding has_place
place_nowhere xs m out = ap is_some (position_out m xs out)

there_of : (xs : List ℕ) (m i : ℕ) → position m xs ≡ Some i → Memᴰ m xs
there_of xs m i e = let p = position_some m xs i e in subst (λ (x : ℕ). Memᴰ x xs) p.1 (mem_get_d xs i 0 p.0)

place_alike : (xs ys : List ℕ) (a b : ℕ) → (Memᴰ a xs → Memᴰ b ys) → (Memᴰ b ys → Memᴰ a xs) → has_place xs a ≡ has_place ys b
unfolding has_place
place_alike xs ys a b f g = go (position a xs) refl
  where
    go : (o : Option ℕ) → position a xs ≡ o → is_some o ≡ has_place ys b
    go None e = sym (place_nowhere ys b (λ k. position_none a xs e (g k)))
    go (Some i) e = sym (place_there ys (f (there_of xs a i e)))

-- ---- a value is among those of its owner

value_child : (s : Store) (v : ℕ) → v < length s.values → Memᴰ v (values_of s (value_at s v).owner)
unfolding values_of value_at
value_child s v l = number_in (λ (o : Value). same_owner o.owner (get_or s.values v no_value).owner) no_value s.values v l (same_self _)

value_within : (s : Store) (f : Sort) (n : ℕ) {v : ℕ} → v < length s.values → Memᴰ (value_at s v).owner (defines_owners s f n) → Memᴰ v (defines_values s f n)
unfolding defines_values
value_within s f n {v} l k = in_concat_map (values_of s) (defines_owners s f n) k (value_child s v l)

module _ (s : Store) (h : sound s ≡ true) (f : Sort) (n : ℕ) where
  sd : Sound s
  sd = facts s h

  module _ (ex : exists s f n ≡ true) where
    -- ---- up: what is around a thing inside

    around_in : (w : Owner) → Memᴰ w (defines_owners s f n) → Root s f n w ⊎ ((p : Owner) × (up s w ≡ Some p) × Memᴰ p (defines_owners s f n))
    around_in w k = let i = owners_from s sd f n ex w k in go i.0 i.1.0 i.1.1 i.1.2
      where
        go : owner_exists s w ≡ true → (t : Owner) → Root s f n t → From s t w → Root s f n w ⊎ ((p : Owner) × (up s w ≡ Some p) × Memᴰ p (defines_owners s f n))
        go l t o (inl e) = inl (subst (Root s f n) (sym e) o)
        go l t o (inr (next e)) = inr (t, e, roots_defined s h f n t o)
        go l t o (inr (beyond {p = p} e a)) = inr (p, e, all_inside s h f n (up_in_store s sd w p l e) (roots_defined s h f n t o) a)

    -- the block around an operation inside
    pub block_around : (m : ℕ) → Memᴰ m (fragment_ops s f n) → (Root s f n (of_op m) → ⊥) → (b : ℕ) × (parent_of s m ≡ Some b) × Memᴰ b (defines_blocks s f n)
    unfolding up
    block_around m k ne = ⊎_elim (λ o. absurd (ne o)) (λ w. go (parent_of s m) refl w.0 w.1 w.2) (around_in (of_op m) (op_owned s f n k))
      where
        go : (q : Option ℕ) → parent_of s m ≡ q → (p : Owner) → option_map of_block q ≡ Some p → Memᴰ p (defines_owners s f n)
            → (b : ℕ) × (parent_of s m ≡ Some b) × Memᴰ b (defines_blocks s f n)
        go None e p a i = absurd (none-some p a)
        go (Some b) e p a i = (b, e, owned_block s f n (Memᴰ.cast (same_Some (of_block b) p a) i))

    -- the operation around a block inside
    pub op_around_lem : (b : ℕ) → Memᴰ b (defines_blocks s f n) → (Root s f n (of_block b) → ⊥) → Memᴰ (op_around s b) (fragment_ops s f n)
    unfolding up
    op_around_lem b k ne =
        ⊎_elim (λ o. absurd (ne o)) (λ w. owned_op s f n (Memᴰ.cast (same_Some (of_op (op_around s b)) w.0 w.1) w.2)) (around_in (of_block b) (block_owned s f n k))

    -- ---- so a thing has a place inside where what is next around it has one

    pub place_op : (m b : ℕ) → m < length s.ops → parent_of s m ≡ Some b → (Root s f n (of_op m) → ⊥)
        → has_place (fragment_ops s f n) m ≡ has_place (defines_blocks s f n) b
    place_op m b l e ne =
        place_alike (fragment_ops s f n) (defines_blocks s f n) m b
        (λ k. let a = block_around m k ne in Memᴰ.cast (same_Some b a.0 (sym e ∙ a.1)) a.2)
        (λ k. owned_op s f n (op_inside s h f n m b l e (block_owned s f n k)))

    pub place_alone : (m : ℕ) → parent_of s m ≡ None → (Root s f n (of_op m) → ⊥) → has_place (fragment_ops s f n) m ≡ false
    place_alone m e ne = place_nowhere (fragment_ops s f n) m (λ k. let a = block_around m k ne in none-some a.0 (sym e ∙ a.1))

    pub place_block : (b : ℕ) → b < length s.blocks → (Root s f n (of_block b) → ⊥) → has_place (defines_blocks s f n) b ≡ has_place (fragment_ops s f n) (op_around s b)
    place_block b l ne =
        place_alike (defines_blocks s f n) (fragment_ops s f n) b (op_around s b)
        (λ k. op_around_lem b k ne)
        (λ k. owned_block s f n (block_inside s h f n b l (op_owned s f n k)))

  pub place_root_op : (m : ℕ) → Root s f n (of_op m) → has_place (fragment_ops s f n) m ≡ true
  place_root_op m o = place_there (fragment_ops s f n) (owned_op s f n (roots_defined s h f n (of_op m) o))

  pub place_root_block : (b : ℕ) → Root s f n (of_block b) → has_place (defines_blocks s f n) b ≡ true
  place_root_block b o = place_there (defines_blocks s f n) (owned_block s f n (roots_defined s h f n (of_block b) o))

  pub place_result : (v m : ℕ) → v < length s.values → (value_at s v).owner ≡ of_op m → has_place (defines_values s f n) v ≡ has_place (fragment_ops s f n) m
  place_result v m l e =
      place_alike (defines_values s f n) (fragment_ops s f n) v m
      (λ k. owned_op s f n (Memᴰ.cast (sym e) (value_owner_lem s f n k).1))
      (λ k. value_within s f n l (Memᴰ.cast e (op_owned s f n k)))

  pub place_argument : (v b : ℕ) → v < length s.values → (value_at s v).owner ≡ of_block b → has_place (defines_values s f n) v ≡ has_place (defines_blocks s f n) b
  place_argument v b l e =
      place_alike (defines_values s f n) (defines_blocks s f n) v b
      (λ k. owned_block s f n (Memᴰ.cast (sym e) (value_owner_lem s f n k).1))
      (λ k. value_within s f n l (Memᴰ.cast e (block_owned s f n k)))
