-- Children in the store with a copy in it: those of what was there are as before, but for the block that the copy goes to, and those of a copy
-- are the copies of the children, in their order. Assumes nothing.
use Prim.Native.Nat.{ℕ, ◌<◌, ◌≤◌}
use native.Mathlib.Omega.{arith}
use native.Mathlib.Decide.{ℕ_discrete}
use mathlib.Core.Bool.{Bool, true, false, cond}
use mathlib.Core.List.{List, ◌∷◌, map, Memᴰ}
use Rattle.std.specs.Prelude.{Option, None, Some}
use mathlib.Core.Path.{◌≡◌, refl, sym, ap, subst, ◌∙◌}
use borrow.Author.Tests.{ltb-true, eq-eqb, ne_eqb, eqb-true}
use lib.Dec.{eqb}
use lib.ListN.{length, get_or}
use Rattle.std.specs.List.{flat_map, filter}
use Rattle.rules.specs.Store.{Store, Op, Block, Value, no_op, no_block, op_at, block_at, value_at, parent_of, same_owner, is_parent, ops_of, blocks_of, regions_of, values_of, op_exists, block_exists, region_exists, owner_exists, parent_exists}
use Rattle.rules.specs.declared.types.Owner.{Owner}
use Rattle.rules.specs.declared.types.Owner.TheVariants.{Op as of_op, Block as of_block}
use Rattle.rules.specs.Fragments.{exists, defines_owners, defines_blocks, defines_values, fragment_ops}
use Rattle.rules.specs.declared.types.Sort.TheVariants.{Op as op}
use Rattle.rules.specs.Copying.{copied_regions, op_copy, block_copy, region_copy, value_copy, owner_copy, inner, parent_copy, copied_op, copied_block, copied_value, copied}
use Rattle.rules.proofs.Basics.Tests.{all_at, impossible, differ_back}
use Rattle.rules.proofs.Basics.Distinct.{Distinct, mem_concat_map}
use Rattle.rules.proofs.Soundness.Sound.{Sound}
use Rattle.rules.proofs.Soundness.Children.{same_owner_lem, ops_in_lem, blocks_in_lem, regions_in_lem, values_in_lem}
use Rattle.rules.proofs.Form.Once.{owners_here}
use Rattle.rules.proofs.Copying.Renumbered.{numbers_old, numbers_new, of_one_parent, entry_of, in_concat_map}
use Rattle.rules.proofs.Copying.Walked.{walked_regions, blocks_by_region, ops_by_block}
use Rattle.rules.proofs.Copying.Inside.{ops_distinct, blocks_distinct, values_distinct, copied_distinct, op_below, block_below, owned_op, owned_block, block_around, region_around, value_owner_lem}
use Rattle.rules.proofs.Copying.Tables.{op_new, block_new, region_new, op_once, block_once, region_once}

-- a number of the table is none behind it
apart : (a b k : ℕ) → a < k → k ≤ b → eqb a b ≡ false
apart a b k l h = ne_eqb a b (λ e. let f : a ≡ b = e in omega arith)

below_op : (s : Store) → Sound s → (o : ℕ) → Memᴰ o s.regions → o < length s.ops
unfolding op_exists
below_op s sd o i = ltb-true _ _ (all_at (op_exists s) s.regions sd.regions_in i)

below_region : (s : Store) → Sound s → (o : Block) → Memᴰ o s.blocks → o.region < length s.regions
unfolding region_exists block_at
below_region s sd o i =
    let e = entry_of no_block i in
    subst (λ (x : Block). x.region < length s.regions) e.2 (ltb-true _ _ (sd.block e.0 e.1).region_in)

parent_here : (s : Store) → Sound s → (o : Op) → Memᴰ o s.ops → parent_exists s o.parent ≡ true
unfolding parent_of op_at
parent_here s sd o i =
    let e = entry_of no_op i in
    subst (λ (x : Op). parent_exists s x.parent ≡ true) e.2 (sd.op e.0 e.1).parent_in

module _ (s : Store) (sd : Sound s) (n : ℕ) (ex : op_exists s n ≡ true) (place : Option ℕ) (pe : parent_exists s place ≡ true) where
  abbrev with : Store
  with = copied s n place

  abbrev the_ops : List ℕ
  the_ops = fragment_ops s op n

  abbrev the_blocks : List ℕ
  the_blocks = defines_blocks s op n

  abbrev the_values : List ℕ
  the_values = defines_values s op n

  abbrev the_regions : List ℕ
  the_regions = copied_regions s n

  abbrev the_owners : List Owner
  the_owners = defines_owners s op n

  -- ---- regions of operations

  pub region_parent : {r : ℕ} → Memᴰ r the_regions → (r < length s.regions) × Memᴰ (get_or s.regions r 0) the_ops
  unfolding copied_regions
  region_parent {r} k =
      let w = mem_concat_map (regions_of s) the_ops k in
      let i = regions_in_lem s w.0 w.2 in
      (i.0, subst (λ (m : ℕ). Memᴰ m the_ops) (sym i.1) w.1)

  pub regions_old : (m : ℕ) → m < length s.ops → regions_of with m ≡ regions_of s m
  unfolding regions_of copied
  regions_old m l =
      numbers_old s.regions (λ (r : ℕ). op_copy s n (get_or s.regions r 0)) the_regions (λ (o : ℕ). eqb o m)
      (λ r k. ne_eqb _ m (λ e. let f : op_copy s n (get_or s.regions r 0) ≡ m = e in absurd (omega (arith, op_new s n place (region_parent k).1))))

  pub regions_new : {m : ℕ} → Memᴰ m the_ops → regions_of with (op_copy s n m) ≡ map (region_copy s n) (regions_of s m)
  unfolding regions_of copied region_copy copied_regions
  regions_new {m} k =
      numbers_new s.regions (λ (r : ℕ). op_copy s n (get_or s.regions r 0)) the_regions (copied_distinct s sd n ex) (λ (o : ℕ). eqb o (op_copy s n m))
      (λ o i. apart o (op_copy s n m) (length s.ops) (below_op s sd o i) (op_new s n place k))
      ∙ ap (map (region_copy s n))
      (of_one_parent (regions_of s) (λ (r : ℕ). eqb (op_copy s n (get_or s.regions r 0)) (op_copy s n m)) m the_ops (copied_distinct s sd n ex) k
      (λ r i. eq-eqb _ _ (ap (op_copy s n) (regions_in_lem s m i).1))
      (λ r i e. listed r i (eqb-true _ _ e)))
    where
      listed : (r : ℕ) → Memᴰ r (flat_map (regions_of s) the_ops) → op_copy s n (get_or s.regions r 0) ≡ op_copy s n m → Memᴰ r (regions_of s m)
      listed r i e =
          let w = mem_concat_map (regions_of s) the_ops i in
          let f : get_or s.regions r 0 ≡ w.0 = (regions_in_lem s w.0 w.2).1 in
          let g : w.0 ≡ m = op_once s n place w.0 m (op_below s sd n ex w.1) (op_below s sd n ex k) (ap (op_copy s n) (sym f) ∙ e) in
          subst (λ (x : ℕ). Memᴰ r (regions_of s x)) g w.2

  -- ---- blocks of regions

  pub blocks_old : (r : ℕ) → r < length s.regions → blocks_of with r ≡ blocks_of s r
  unfolding blocks_of copied copied_block
  blocks_old r l =
      numbers_old s.blocks (copied_block s n) the_blocks (λ (o : Block). eqb o.region r)
      (λ b k. ne_eqb _ r (λ e. let f : region_copy s n (block_at s b).region ≡ r = e in absurd (omega (arith, region_new s n place (region_around s sd n ex b k)))))

  pub blocks_new : {r : ℕ} → Memᴰ r the_regions → Memᴰ r (walked_regions s n) → blocks_of with (region_copy s n r) ≡ map (block_copy s n) (blocks_of s r)
  unfolding blocks_of copied copied_block block_copy
  blocks_new {r} k w =
      numbers_new s.blocks (copied_block s n) the_blocks (blocks_distinct s sd n ex) (λ (o : Block). eqb o.region (region_copy s n r))
      (λ o i. apart o.region (region_copy s n r) (length s.regions) (below_region s sd o i) (region_new s n place k))
      ∙ ap (map (block_copy s n))
      (ap (filter test) (blocks_by_region s n)
      ∙ of_one_parent (blocks_of s) test r (walked_regions s n) (subst Distinct (blocks_by_region s n) (blocks_distinct s sd n ex)) w
      (λ b i. eq-eqb _ _ (ap (region_copy s n) (blocks_in_lem s r i).1))
      (λ b i e. listed b i (eqb-true _ _ e)))
    where
      test : ℕ → Bool
      test b = eqb (region_copy s n (block_at s b).region) (region_copy s n r)

      listed : (b : ℕ) → Memᴰ b (flat_map (blocks_of s) (walked_regions s n)) → region_copy s n (block_at s b).region ≡ region_copy s n r → Memᴰ b (blocks_of s r)
      listed b i e =
          let j : Memᴰ b the_blocks = subst (Memᴰ b) (sym (blocks_by_region s n)) i in
          let q = mem_concat_map (blocks_of s) (walked_regions s n) i in
          let f : (block_at s b).region ≡ q.0 = (blocks_in_lem s q.0 q.2).1 in
          let g : (block_at s b).region ≡ r = region_once s n place _ r (region_parent (region_around s sd n ex b j)).0 (region_parent k).0 e in
          subst (λ (x : ℕ). Memᴰ b (blocks_of s x)) (sym f ∙ g) q.2

  -- ---- values of owners

  pub owner_here : {w : Owner} → Memᴰ w the_owners → owner_exists s w ≡ true
  unfolding exists
  owner_here {w} k = owners_here s sd op n ex w k

  pub owner_apart : (x w : Owner) → owner_exists s x ≡ true → Memᴰ w the_owners → same_owner x (owner_copy s n w) ≡ false
  unfolding same_owner owner_copy owner_exists op_exists block_exists
  owner_apart (of_op a) (of_op m) h k = apart a (op_copy s n m) (length s.ops) (ltb-true _ _ h) (op_new s n place (owned_op s sd n ex k))
  owner_apart (of_op a) (of_block m) h k = refl
  owner_apart (of_block a) (of_op m) h k = refl
  owner_apart (of_block a) (of_block m) h k = apart a (block_copy s n m) (length s.blocks) (ltb-true _ _ h) (block_new s n place (owned_block s sd n ex k))

  same_back : (x y : Owner) → same_owner x y ≡ false → same_owner y x ≡ false
  unfolding same_owner
  same_back (of_op a) (of_op b) h = differ_back a b h
  same_back (of_op a) (of_block b) h = refl
  same_back (of_block a) (of_op b) h = refl
  same_back (of_block a) (of_block b) h = differ_back a b h

  pub same_self : (x : Owner) → same_owner x x ≡ true
  unfolding same_owner
  same_self (of_op a) = eq-eqb a a refl
  same_self (of_block a) = eq-eqb a a refl

  pub owner_once : (x y : Owner) → owner_exists s x ≡ true → owner_exists s y ≡ true → owner_copy s n x ≡ owner_copy s n y → x ≡ y
  unfolding owner_copy owner_exists op_exists block_exists
  owner_once (of_op a) (of_op b) hx hy e = let f : op_copy s n a ≡ op_copy s n b = cc in ap of_op (op_once s n place a b (ltb-true _ _ hx) (ltb-true _ _ hy) f)
  owner_once (of_op a) (of_block b) hx hy e = impossible cc
  owner_once (of_block a) (of_op b) hx hy e = impossible cc
  owner_once (of_block a) (of_block b) hx hy e = let f : block_copy s n a ≡ block_copy s n b = cc in ap of_block (block_once s n place a b (ltb-true _ _ hx) (ltb-true _ _ hy) f)

  pub values_old : (w : Owner) → owner_exists s w ≡ true → values_of with w ≡ values_of s w
  unfolding values_of copied copied_value
  values_old w h =
      numbers_old s.values (copied_value s n) the_values (λ (o : Value). same_owner o.owner w)
      (λ v k. same_back w (owner_copy s n (value_at s v).owner) (owner_apart w (value_at s v).owner h (value_owner_lem s sd n ex k).1))

  pub values_new : {w : Owner} → Memᴰ w the_owners → values_of with (owner_copy s n w) ≡ map (value_copy s n) (values_of s w)
  unfolding values_of copied copied_value value_copy defines_values
  values_new {w} k =
      numbers_new s.values (copied_value s n) the_values (values_distinct s sd n ex) (λ (o : Value). same_owner o.owner (owner_copy s n w))
      (λ o i. owner_apart o.owner w (all_at (λ (v : Value). owner_exists s v.owner) s.values sd.values_in i) k)
      ∙ ap (map (value_copy s n))
      (of_one_parent (values_of s) test w the_owners (values_distinct s sd n ex) k
      (λ v i. ap (λ (x : Owner). same_owner (owner_copy s n x) (owner_copy s n w)) (values_in_lem s w i).1 ∙ same_self (owner_copy s n w))
      (λ v i e. listed v i (same_owner_lem (owner_copy s n (value_at s v).owner) (owner_copy s n w) e)))
    where
      test : ℕ → Bool
      test v = same_owner (owner_copy s n (value_at s v).owner) (owner_copy s n w)

      listed : (v : ℕ) → Memᴰ v (flat_map (values_of s) the_owners) → owner_copy s n (value_at s v).owner ≡ owner_copy s n w → Memᴰ v (values_of s w)
      listed v i e =
          let q = mem_concat_map (values_of s) the_owners i in
          let f : (value_at s v).owner ≡ q.0 = (values_in_lem s q.0 q.2).1 in
          let g : q.0 ≡ w = owner_once q.0 w (owner_here q.1) (owner_here k) (ap (owner_copy s n) (sym f) ∙ e) in
          subst (λ (x : Owner). Memᴰ v (values_of s x)) g q.2

  -- ---- operations of blocks

  pub parent_root : parent_copy s n place n ≡ place
  unfolding parent_copy
  parent_root = rw (eq-eqb n n refl)

  pub parent_inner : (m : ℕ) → (m ≡ n → ⊥) → parent_copy s n place m ≡ inner (block_copy s n) (parent_of s m)
  unfolding parent_copy
  parent_inner m ne = rw (ne_eqb m n ne)

  -- the parent of what is inside
  pub parent_copied : (m : ℕ) → Memᴰ m the_ops → (m ≡ n → ⊥) → (b : ℕ) × (parent_of s m ≡ Some b) × Memᴰ b the_blocks × (parent_copy s n place m ≡ Some (block_copy s n b))
  unfolding inner
  parent_copied m k ne =
      let a = block_around s sd n ex m k ne in
      (a.0, a.1, a.2, parent_inner m ne ∙ ap (inner (block_copy s n)) a.1)

  no_parent : (p : Option ℕ) (b : ℕ) → parent_exists s p ≡ true → length s.blocks ≤ b → is_parent b p ≡ false
  unfolding is_parent parent_exists block_exists
  no_parent None b h l = refl
  no_parent (Some a) b h l = apart a b (length s.blocks) (ltb-true _ _ h) l

  elsewhere : (p : Option ℕ) (b : ℕ) → (p ≡ Some b → ⊥) → is_parent b p ≡ false
  unfolding is_parent
  elsewhere None b ne = refl
  elsewhere (Some a) b ne = ne_eqb a b (λ e. ne (ap {B = Option ℕ} Some e))

  pub ops_old : (b : ℕ) → b < length s.blocks → (place ≡ Some b → ⊥) → ops_of with b ≡ ops_of s b
  unfolding ops_of copied copied_op is_parent
  ops_old b l ne =
      numbers_old s.ops (copied_op s n place) the_ops (λ (o : Op). is_parent b o.parent) (λ m k. go m k (ℕ_discrete m n))
    where
      go : (m : ℕ) → Memᴰ m the_ops → Dec (m ≡ n) → is_parent b (parent_copy s n place m) ≡ false
      go m k (yes e) = ap (λ (x : ℕ). is_parent b (parent_copy s n place x)) e ∙ ap (is_parent b) parent_root ∙ elsewhere place b ne
      go m k (no ne') =
          let a = parent_copied m k ne' in
          ap (is_parent b) a.3 ∙ ne_eqb (block_copy s n a.0) b (λ e. let f : block_copy s n a.0 ≡ b = e in absurd (omega (arith, block_new s n place a.2)))

  pub ops_new : {b : ℕ} → Memᴰ b the_blocks → ops_of with (block_copy s n b) ≡ map (op_copy s n) (ops_of s b)
  unfolding ops_of copied copied_op op_copy is_parent inner
  ops_new {b} k =
      numbers_new s.ops (copied_op s n place) the_ops (ops_distinct s sd n ex) (λ (o : Op). is_parent (block_copy s n b) o.parent)
      (λ o i. no_parent o.parent (block_copy s n b) (parent_here s sd o i) (block_new s n place k))
      ∙ ap (map (op_copy s n))
      (ap (filter test) (ops_by_block s n)
      ∙ ap (λ (x : Bool). cond x (n ∷ filter test rest) (filter test rest)) root
      ∙ of_one_parent (ops_of s) test b the_blocks once.1 k
      (λ m i. below m i)
      (λ m i e. listed m i e))
    where
      test : ℕ → Bool
      test m = is_parent (block_copy s n b) (parent_copy s n place m)

      rest : List ℕ
      rest = flat_map (ops_of s) the_blocks

      once : Distinct (n ∷ rest)
      once = subst Distinct (ops_by_block s n) (ops_distinct s sd n ex)

      root : test n ≡ false
      root = ap (is_parent (block_copy s n b)) parent_root ∙ no_parent place (block_copy s n b) pe (block_new s n place k)

      other : (m : ℕ) → Memᴰ m rest → m ≡ n → ⊥
      other m i e = once.0 (subst (λ (x : ℕ). Memᴰ x rest) e i)

      below : (m : ℕ) → Memᴰ m (ops_of s b) → test m ≡ true
      below m i =
          ap (is_parent (block_copy s n b)) (parent_inner m (other m (in_concat_map (ops_of s) the_blocks k i)) ∙ ap (inner (block_copy s n)) (ops_in_lem s b i).1)
          ∙ eq-eqb (block_copy s n b) (block_copy s n b) refl

      listed : (m : ℕ) → Memᴰ m rest → test m ≡ true → Memᴰ m (ops_of s b)
      listed m i e =
          let q = mem_concat_map (ops_of s) the_blocks i in
          let f : parent_copy s n place m ≡ Some (block_copy s n q.0) = parent_inner m (other m i) ∙ ap (inner (block_copy s n)) (ops_in_lem s q.0 q.2).1 in
          let g : block_copy s n q.0 ≡ block_copy s n b = eqb-true _ _ (sym (ap (is_parent (block_copy s n b)) f) ∙ e) in
          subst (λ (x : ℕ). Memᴰ m (ops_of s x)) (block_once s n place q.0 b (block_below s sd n ex q.1) (block_below s sd n ex k) g) q.2
