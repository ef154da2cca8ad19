-- An owner that exists in a sound buffer: its slots and its count can be read, and they say what the rules' tests ask, since its keys rise. Assumes nothing.
use Prim.Native.Nat.{ℕ}
use mathlib.Core.Bool.{true}
use mathlib.Core.List.{List}
use mathlib.Core.Path.{◌≡◌, sym, ap, subst, ◌∙◌}
use borrow.Author.Tests.{ltb-true}
use lib.ListN.{length}
use Rattle.rules.specs.Store.{Op, Block, op_exists, block_exists, owner_exists, keys_rise, attributes_hold}
use Rattle.rules.specs.declared.types.Attribute.{Attribute}
use Rattle.rules.specs.declared.types.Owner.{Owner}
use Rattle.rules.specs.declared.types.Owner.TheVariants.{Op as of_op, Block as of_block}
use Rattle.rules.specs.Building.{attributes_of, has_key}
use Rattle.rules.proofs.Basics.Tests.{passed}
use Rattle.rules.proofs.Soundness.Sound.{facts}
use Rattle.layout.specs.Columns.{columns}
use Rattle.layout.specs.Reading.{attributes_from, op_of, block_of, store_in}
use Rattle.layout.specs.Soundness.{IsSound, Arranged}
use Rattle.layout.proofs.Laid.{laid_facts}
use Rattle.layout.specs.Owners.{count_column, owner_number, key_count}
use Rattle.layout.proofs.Tabulate.{length_tabulate, op_read, block_read}
use Rattle.layout.proofs.OwnerKeys.{Reachable, owner_in_lem, owner_reached}
use Rattle.mutation.specs.SetWrites.{key_there}
use Rattle.mutation.proofs.KeySlot.{own, key_there_lem}

pub reached : (b : List ℕ) → Arranged b → (w : Owner) → owner_exists (store_in b) w ≡ true → Reachable (columns b) w
reached b h w e = owner_reached (columns b) w (laid_facts (columns b) h.laid) (owner_in_lem (columns b) w e)

module _ (b : List ℕ) (h : IsSound b) where
  pub reachable : (w : Owner) → owner_exists (store_in b) w ≡ true → Reachable (columns b) w
  reachable w e = reached b (record { sized = h.sized; laid = h.laid }) w e

  -- ---- its attributes

  pub attributes_read : (w : Owner) → owner_exists (store_in b) w ≡ true → attributes_of (store_in b) w ≡ own (columns b) w
  unfolding attributes_of key_count count_column owner_number op_of block_of
  attributes_read (of_op n) e = ap (λ (o : Op). o.attributes) (op_read (columns b) n (reachable (of_op n) e).within)
  attributes_read (of_block m) e = ap (λ (o : Block). o.attributes) (block_read (columns b) m (reachable (of_block m) e).within)

  attributes_hold_lem : (w : Owner) → owner_exists (store_in b) w ≡ true → attributes_hold (attributes_of (store_in b) w) ≡ true
  unfolding attributes_of owner_exists op_exists block_exists
  attributes_hold_lem (of_op n) e = ((facts _ h.ruled).op n (ltb-true _ _ e)).attributes_fit
  attributes_hold_lem (of_block m) e = ((facts _ h.ruled).block m (ltb-true _ _ e)).attributes_fit

  module _ (w : Owner) (e : owner_exists (store_in b) w ≡ true) where
    pub rising : keys_rise (own (columns b) w) ≡ true
    unfolding attributes_hold
    rising = subst (λ (xs : List Attribute). keys_rise xs ≡ true) (attributes_read w e) (passed _ (attributes_hold_lem w e)).0

    pub key_test : (key : ℕ) → has_key key (attributes_of (store_in b) w) ≡ key_there (columns b) w key
    key_test key = ap (has_key key) (attributes_read w e) ∙ sym (key_there_lem (columns b) w key rising)

    pub keys_counted : length (attributes_of (store_in b) w) ≡ key_count (columns b) w
    unfolding attributes_from
    keys_counted = ap length (attributes_read w e) ∙ length_tabulate (key_count (columns b) w) _
