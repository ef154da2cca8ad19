-- Whether an operation, a block or a value of a sound buffer lies in a fragment, word by word: its parent's or its owner's word tells what is next
-- around it, which exists and lies in the fragment exactly where the thing does. Assumes nothing.
use Prim.Native.Nat.{ℕ, zero, suc, ◌-◌, ◌/◌, ◌%◌, ◌<◌, ◌≤◌}
use native.Mathlib.Omega.{arith}
use mathlib.Core.Bool.{Bool, true, false, cond}
use mathlib.Core.List.{List}
use Rattle.std.specs.Prelude.{Option, Some}
use mathlib.Core.Path.{◌≡◌, refl, sym, ap, subst, ◌∙◌}
use borrow.Author.Tests.{ltb-true, eq-eqb, ne_eqb}
use lib.Dec.{eqb}
use lib.ListN.{length}
use Rattle.rules.specs.Store.{Block, Value, parent_of, value_at}
use Rattle.rules.specs.declared.types.Owner.{Owner}
use Rattle.rules.specs.declared.types.Owner.TheVariants.{Op as of_op, Block as of_block}
use Rattle.rules.specs.Fragments.{exists, fragment_ops, defines_blocks, defines_values}
use Rattle.rules.specs.declared.types.Sort.{Sort}
use Rattle.rules.specs.declared.types.Sort.TheVariants.{Block as block, Region as region}
use Rattle.rules.specs.Copying.{has_place}
use Rattle.rules.proofs.Basics.Tests.{and_left}
use Rattle.rules.proofs.Walking.Inside.{place_result, place_argument}
use Rattle.layout.specs.Columns.{Cols, columns, at, op_parent, region_op, block_region, value_owner}
use Rattle.layout.specs.Reading.{op_count, block_count, region_count, value_count, around, parent_from, owner_from, block_of, value_of, store_in}
use Rattle.layout.specs.Soundness.{IsSound, placed, in_owner, value_laid}
use Rattle.layout.proofs.Laid.{Laid, laid_facts}
use Rattle.layout.proofs.Nesting.{Placed, placed_facts}
use Rattle.layout.proofs.Tabulate.{ops_length, blocks_length, values_length, parent_read_lem, around_read, block_read, region_read_lem, value_read}
use Rattle.fragments.specs.Inside.{outer_op, is_itself, is_outermost}
use Rattle.fragments.proofs.Climbed as climbed

module _ (b : List ℕ) (sd : IsSound b) where
  abbrev C : Cols
  C = columns b

  h : Laid C
  h = laid_facts C sd.laid

  -- a block's own operation, and a region's, as they are read
  pub around_op : (c : ℕ) → c < block_count (columns b) → around (columns b) c < op_count (columns b)
  around_op c k = (h.region _ (h.block c k).region_in).op_in

  pub outer_block : (c : ℕ) → c < block_count (columns b) → around (columns b) c ≡ outer_op (store_in b) block c
  unfolding outer_op
  outer_block c k = sym (around_read C c k (h.block c k).region_in)

  pub outer_region : (r : ℕ) → r < region_count (columns b) → at (columns b) region_op r ≡ outer_op (store_in b) region r
  unfolding outer_op
  outer_region r k = sym (region_read_lem C r k)

  pub of_region : (n c : ℕ) → c < block_count (columns b) → eqb (at (columns b) block_region c) n ≡ is_outermost (store_in b) region n c
  unfolding is_outermost block_of
  of_region n c k = sym (ap (λ (x : Block). eqb x.region n) (block_read C c k))

  long : (c : ℕ) → c < block_count C → c < length (store_in b).blocks
  long c k = subst (λ (z : ℕ). c < z) (sym (blocks_length C)) k

module _ (b : List ℕ) (sd : IsSound b) (f : Sort) (n : ℕ) (ex : exists (store_in b) f n ≡ true) where
  -- an operation inside the fragment, or the fragment itself
  abbrev pub holds_op : ℕ → Bool
  holds_op m = has_place (fragment_ops (store_in b) f n) m

  abbrev pub holds_block : ℕ → Bool
  holds_block m = has_place (defines_blocks (store_in b) f n) m

  abbrev pub holds_value : ℕ → Bool
  holds_value v = has_place (defines_values (store_in b) f n) v

  -- where one stops on the way up
  pub stopped : (m : ℕ) → m ≤ outer_op (store_in b) f n → is_itself f n m ≡ holds_op m
  stopped m d = climbed.stopped (store_in b) sd.ruled f n ex m d

  -- without a parent
  pub op_alone : (m : ℕ) → m < op_count (columns b) → outer_op (store_in b) f n < m → at (columns b) op_parent m ≡ 0 → holds_op m ≡ false
  unfolding parent_from
  op_alone m k d z = climbed.op_alone (store_in b) sd.ruled f n ex m d (parent_read_lem (columns b) m k ∙ ap parent_from z)

  -- the block that an operation stands in
  pub record InBlock (m c : ℕ) : Type 0 where
    pub block_in : c < block_count (columns b)
    pub smaller : around (columns b) c < m
    pub same : has_place (fragment_ops (store_in b) f n) m ≡ has_place (defines_blocks (store_in b) f n) c

  -- where w is the word of its parent
  pub op_in_lem : (m w : ℕ) → m < op_count (columns b) → outer_op (store_in b) f n < m → w ≡ at (columns b) op_parent m → (w ≡ 0 → ⊥) → InBlock m (w - 1)
  unfolding parent_from
  op_in_lem m w k d q ne = go w (sym q) ne
    where
      go : (w : ℕ) → at (columns b) op_parent m ≡ w → (w ≡ 0 → ⊥) → InBlock m (w - 1)
      go zero e ne = absurd (ne refl)
      go (suc c) e ne =
          let p : Placed (columns b) m c =
          placed_facts (columns b) m c
          (subst (λ (q : Option ℕ). placed (columns b) m q ≡ true) (ap parent_from e) ((h b sd).op m k).place) in
          let i : parent_of (store_in b) m ≡ Some c = parent_read_lem (columns b) m k ∙ ap parent_from e in
          let z : c ≡ suc c - 1 = omega arith in
          let r : InBlock m c = record {
            block_in = p.block_in;
            smaller = p.later;
            same = climbed.op_in_block (store_in b) sd.ruled f n ex m c (subst (λ (z : ℕ). m < z) (sym (ops_length (columns b))) k) d i;
          } in
          subst (InBlock m) z r

  -- a block
  pub block_own : (c : ℕ) → c < block_count (columns b) → is_outermost (store_in b) f n c ≡ true → holds_block c ≡ true
  block_own c k e = climbed.block_outermost (store_in b) sd.ruled f n ex c (long b sd c k) e

  pub block_in_lem : (c : ℕ) → c < block_count (columns b) → is_outermost (store_in b) f n c ≡ false → holds_block c ≡ holds_op (around (columns b) c)
  block_in_lem c k e =
      climbed.block_in_op (store_in b) sd.ruled f n ex c (long b sd c k) e
      ∙ ap (λ (m : ℕ). has_place (fragment_ops (store_in b) f n) m) (around_read (columns b) c k ((h b sd).block c k).region_in)

  -- a value, whose owner's word is w
  owner_read_lem : (v : ℕ) → v < value_count (columns b) → (value_at (store_in b) v).owner ≡ owner_from (at (columns b) value_owner v)
  unfolding value_of
  owner_read_lem v k = ap (λ (x : Value). x.owner) (value_read (columns b) v k)

  value_long : (v : ℕ) → v < value_count (columns b) → v < length (store_in b).values
  value_long v k = subst (λ (z : ℕ). v < z) (sym (values_length (columns b))) k

  module _ (v : ℕ) (k : v < value_count (columns b)) (w : ℕ) (q : w ≡ at (columns b) value_owner v) where
    owner_op : w % 2 ≡ 0 → owner_from w ≡ of_op (w / 2)
    unfolding owner_from
    owner_op e = ap (λ (t : Bool). cond t (of_op (w / 2)) (of_block (w / 2))) (eq-eqb _ 0 e)

    owner_block : (w % 2 ≡ 0 → ⊥) → owner_from w ≡ of_block (w / 2)
    unfolding owner_from
    owner_block ne = ap (λ (t : Bool). cond t (of_op (w / 2)) (of_block (w / 2))) (ne_eqb _ 0 ne)

    laid_in : (x : Owner) → owner_from w ≡ x → in_owner (columns b) v x ≡ true
    unfolding value_laid
    laid_in x e = subst (λ (y : Owner). in_owner (columns b) v y ≡ true) (sym (ap owner_from q) ∙ e) ((h b sd).value v k)

    pub result_op : w % 2 ≡ 0 → w / 2 < op_count (columns b)
    unfolding in_owner
    result_op e = ltb-true _ _ (and_left _ _ (laid_in _ (owner_op e)))

    pub result_in : w % 2 ≡ 0 → holds_value v ≡ holds_op (w / 2)
    result_in e = place_result (store_in b) sd.ruled f n v _ (value_long v k) (owner_read_lem v k ∙ sym (ap owner_from q) ∙ owner_op e)

    pub argument_block : (w % 2 ≡ 0 → ⊥) → w / 2 < block_count (columns b)
    unfolding in_owner
    argument_block ne = ltb-true _ _ (and_left _ _ (laid_in _ (owner_block ne)))

    pub argument_in : (w % 2 ≡ 0 → ⊥) → holds_value v ≡ holds_block (w / 2)
    argument_in ne = place_argument (store_in b) sd.ruled f n v _ (value_long v k) (owner_read_lem v k ∙ sym (ap owner_from q) ∙ owner_block ne)
