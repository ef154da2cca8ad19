-- What a set attribute comes to, whether its key was there or not: the owner's slots read as the rules put it, the others' slots and counts stay. Assumes nothing.
use Prim.Native.Nat.{ℕ, ◌+◌, ◌*◌, ◌<◌, ◌≤◌}
use native.Mathlib.Decide.{ℕ_discrete, dec_lt}
use native.Mathlib.Omega.{arith}
use mathlib.Core.Logic.{◌⊎◌, inl, inr}
use mathlib.Core.Path.{◌≡◌, sym, ap}
use Rattle.rules.specs.Store.{max_own_keys, max_attributes}
use Rattle.rules.specs.declared.types.Attribute.{Attribute}
use Rattle.rules.specs.declared.types.Owner.{Owner}
use Rattle.rules.specs.declared.types.Owner.TheVariants.{Op as of_op, Block as of_block}
use Rattle.rules.specs.Building.{put_attribute}
use Rattle.layout.specs.Columns.{Cols, operand_words, first_block_slot}
use Rattle.layout.specs.Reading.{attribute_count, slots_of, attribute_at, attributes_from}
use Rattle.layout.specs.Owners.{key_count}
use Rattle.layout.proofs.Laid.{Laid}
use Rattle.layout.proofs.OwnerKeys.{OwnerIn}
use Rattle.mutation.proofs.Patched.{OnlyTouched}
use Rattle.mutation.proofs.KeySlot.{own}

pub record Written (C D : Cols) (w : Owner) (a : Attribute) : Type 0 where
  pub kept : OnlyTouched C D
  pub operands : D operand_words ≡ C operand_words
  pub mine : attributes_from D (slots_of w) (key_count D w) ≡ put_attribute a (own C w)
  pub theirs : (j : ℕ) → (j < slots_of w) ⊎ (slots_of w + 8 ≤ j) → attribute_at D j ≡ attribute_at C j
  pub others : (u : Owner) → (u ≡ w → ⊥) → key_count D u ≡ key_count C u
  pub total : attribute_count D + key_count C w ≡ attribute_count C + key_count D w
  pub keys : key_count D w ≤ max_own_keys
  pub most : attribute_count D ≤ max_attributes

-- ---- owners' slots

pub op_block : (n m : ℕ) → of_op n ≡ of_block m → ⊥
op_block n m e = let z : ◌≡◌ {A = ℕ} 0 1 = cc in omega arith

pub owner_same : (u w : Owner) → Dec (u ≡ w)
owner_same (of_op n) (of_op m) = go (ℕ_discrete n m)
  where
    go : Dec (n ≡ m) → Dec (of_op n ≡ of_op m)
    go (yes e) = yes (ap of_op e)
    go (no ne) = no (λ e. ne (cc))
owner_same (of_op n) (of_block m) = no (op_block n m)
owner_same (of_block n) (of_op m) = no (λ e. op_block m n (sym e))
owner_same (of_block n) (of_block m) = go (ℕ_discrete n m)
  where
    go : Dec (n ≡ m) → Dec (of_block n ≡ of_block m)
    go (yes e) = yes (ap of_block e)
    go (no ne) = no (λ e. ne cc)

-- two owners' slots are apart
pub slots_apart : (C : Cols) (u w : Owner) → Laid C → OwnerIn C u → OwnerIn C w → (u ≡ w → ⊥) → (slots_of u + 8 ≤ slots_of w) ⊎ (slots_of w + 8 ≤ slots_of u)
unfolding slots_of
slots_apart C (of_op n) (of_op m) h l k ne = go (dec_lt n m)
  where
    go : Dec (n < m) → (8 * n + 8 ≤ 8 * m) ⊎ (8 * m + 8 ≤ 8 * n)
    go (yes b) = inl (omega arith)
    go (no b) = let ne' : n ≡ m → ⊥ = λ e. ne (ap of_op e) in inr (omega arith)
slots_apart C (of_op n) (of_block m) h l k ne = inl (omega (arith, h.counts.ops))
slots_apart C (of_block n) (of_op m) h l k ne = inr (omega (arith, h.counts.ops))
slots_apart C (of_block n) (of_block m) h l k ne = go (dec_lt n m)
  where
    go : Dec (n < m) → (first_block_slot + 8 * n + 8 ≤ first_block_slot + 8 * m) ⊎ (first_block_slot + 8 * m + 8 ≤ first_block_slot + 8 * n)
    go (yes b) = inl (omega arith)
    go (no b) = let ne' : n ≡ m → ⊥ = λ e. ne (ap of_block e) in inr (omega arith)
