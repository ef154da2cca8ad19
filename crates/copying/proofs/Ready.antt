-- What a step asks for it gets, in a store with the copies of the owners before: its parent's copy is there, since what is around a thing stands before
-- it in the walk, its lists are as few as the original's, and there is room, since there is room for all copies. Assumes nothing.
use Rattle.std.specs.Prelude.{option_map}
use Rattle.std.proofs.Common.{◌≡◌, ℕ, ◌+◌, ◌<◌, ◌≤◌, true, List, [], ◌∷◌, ◌++◌, map, length, get_or, replicate, refl, sym, ap, subst, ◌∙◌, arith, length-append}
use Rattle.std.proofs.lemmas.List.{length-map, length-replicate}
use mathlib.Core.List.{Memᴰ}
use mathlib.Core.Logic.{◌⊎◌, inl, inr, ⊎_elim}
use mathlib.Core.Option as option
use Rattle.std.specs.Prelude.{Option, Some}
use Rattle.std.proofs.lemmas.Option.{same_Some}
use Rattle.std.specs.List.{flat_map}
use Rattle.rules.specs.Lists.{sum, position}
use Rattle.rules.specs.Store.{Store, Op, Block, Value, op_at, block_at, type_of, parent_of, op_around, regions_of, results_of, arguments_of, op_exists, parent_exists, operand_total, successor_total, attribute_total, max_ops, max_blocks, max_regions, max_values, max_operands, max_successors, max_attributes}
use Rattle.rules.specs.declared.types.Owner.{Owner}
use Rattle.rules.specs.declared.types.Owner.TheVariants.{Op as of_op, Block as of_block}
use Rattle.rules.specs.Fragments.{op_owner, block_owner, defines_owners, defines_blocks, exists}
use Rattle.rules.specs.declared.types.Sort.TheVariants.{Op as op}
use Rattle.rules.specs.Building.{applied, values_for}
use Rattle.rules.specs.Mapping.{Mapping, image}
use Rattle.rules.specs.Copying.{copied_regions, op_copy, block_copy, region_copy}
use Rattle.rules.proofs.Basics.Distinct.{Distinct}
use Rattle.rules.proofs.Basics.Appended.{sum_append}
use Rattle.rules.proofs.Soundness.Sound.{Sound, TotalsSound}
use Rattle.rules.proofs.Form.Ancestors.{up}
use Rattle.rules.proofs.Form.Images.{position_kept}
use Rattle.rules.proofs.Form.Once.{owners_once}
use Rattle.rules.proofs.Copying.Renumbered.{Before, here, there, second_in, number_at, place_in, in_concat_map, table_length_lem}
use Rattle.rules.proofs.Copying.Walked.{around_before}
use Rattle.copying.specs.Partial.{copied_by}
use Rattle.copying.specs.Written.{op_attributed, block_attributed, attributed, op_asked, op_made, block_asked, block_made, region_by}
use Rattle.copying.proofs.Built.{update_last, here as stands, blocks_split, regions_split, blocks_length}

-- ---- what stands before one in the walk is among those before it

behind_first_lem : {x w y : Owner} {l : List Owner} → Before x w (y ∷ l) → Memᴰ w l
behind_first_lem (here k) = k
behind_first_lem (there k) = second_in k

before_first : {x w y : Owner} {l : List Owner} → Before x w (y ∷ l) → (x ≡ y) ⊎ Before x w l
before_first (here k) = inl refl
before_first (there k) = inr k

before_in : (x w : Owner) (ws rest : List Owner) → Distinct (ws ++ (w ∷ rest)) → Before x w (ws ++ (w ∷ rest)) → Memᴰ x ws
before_in x w [] rest once h = absurd (once.0 (behind_first_lem h))
before_in x w (y ∷ ws) rest once h = among (before_first h) (λ k. before_in x w ws rest once.1 k)
  where
    among : (x ≡ y) ⊎ Before x w (ws ++ (w ∷ rest)) → (Before x w (ws ++ (w ∷ rest)) → Memᴰ x ws) → Memᴰ x (y ∷ ws)
    among (inl e) further = Memᴰ.head e
    among (inr k) further = Memᴰ.tail (further k)

module _ (s : Store) (sd : Sound s) (n : ℕ) (ex : op_exists s n ≡ true) (ws rest : List Owner) where
  once : Distinct (defines_owners s op n)
  unfolding exists
  once = owners_once s sd op n ex

  module _ (w : Owner) (split : ws ++ (w ∷ rest) ≡ defines_owners s op n) where
    stands_before : (x : Owner) → Before x w (defines_owners s op n) → Memᴰ x ws
    stands_before x h =
        before_in x w ws rest (subst Distinct (sym split) once) (subst (λ (l : List Owner). Before x w l) (sym split) h)

  pub around_there : (b : ℕ) → ws ++ (of_block b ∷ rest) ≡ defines_owners s op n → Memᴰ (op_around s b) (flat_map op_owner ws)
  unfolding up op_owner
  around_there b split =
      ⊎_elim (λ e. absurd (let z : ⊥ = cc in z)) (λ h. go h.0 h.1 h.2) (around_before s n (of_block b) (stands s n ws rest (of_block b) split))
    where
      go : (p : Owner) → Some (of_op (op_around s b)) ≡ Some p → Before p (of_block b) (defines_owners s op n)
          → Memᴰ (op_around s b) (flat_map op_owner ws)
      go p e h =
          let f : of_op (op_around s b) ≡ p = same_Some (of_op (op_around s b)) p e in
          in_concat_map op_owner ws (stands_before (of_block b) split (of_op (op_around s b)) (subst (λ (x : Owner). Before x (of_block b) (defines_owners s op n)) (sym f) h)) (Memᴰ.head refl)

  pub parent_there : (m b : ℕ) → ws ++ (of_op m ∷ rest) ≡ defines_owners s op n → (m ≡ n → ⊥) → parent_of s m ≡ Some b
      → Memᴰ b (flat_map block_owner ws)
  unfolding up block_owner
  parent_there m b split ne e =
      ⊎_elim (λ f. absurd (ne cc)) (λ h. go h.0 h.1 h.2) (around_before s n (of_op m) (stands s n ws rest (of_op m) split))
    where
      go : (p : Owner) → option_map of_block (parent_of s m) ≡ Some p → Before p (of_op m) (defines_owners s op n)
          → Memᴰ b (flat_map block_owner ws)
      go p f h =
          let g : of_block b ≡ p = same_Some (of_block b) p (sym (ap (option_map of_block) e) ∙ f) in
          in_concat_map block_owner ws (stands_before (of_op m) split (of_block b) (subst (λ (x : Owner). Before x (of_op m) (defines_owners s op n)) (sym g) h)) (Memᴰ.head refl)

-- ---- the copies that are there

module _ (s : Store) (sd : Sound s) (n : ℕ) (ex : op_exists s n ≡ true) (place : Option ℕ) (pe : parent_exists s place ≡ true)
    (ws rest : List Owner) (w : Owner) (split : ws ++ (w ∷ rest) ≡ defines_owners s op n) where
  abbrev between : Store
  between = copied_by s n place ws

  pub block_copied : (b : ℕ) → Memᴰ b (flat_map block_owner ws) → block_copy s n b < length between.blocks
  unfolding block_copy
  block_copied b k =
      let p = place_in (flat_map block_owner ws) (length s.blocks) k in
      let later : List ℕ = block_owner w ++ flat_map block_owner rest in
      let e : position b (defines_blocks s op n) ≡ Some p.0 =
      subst (λ (l : List ℕ). position b l ≡ Some p.0) (blocks_split s n ws rest w split) (position_kept b (flat_map block_owner ws) later p.0 p.1) in
      let i : p.0 < length (flat_map block_owner ws) = p.2 in
      omega (arith, number_at (defines_blocks s op n) (length s.blocks) b p.0 e, blocks_length s sd n ex place pe ws rest w split)

  regions_length : length between.regions ≡ length s.regions + length (flat_map (regions_of s) (flat_map op_owner ws))
  unfolding copied_by
  regions_length = table_length_lem s.regions (λ (r : ℕ). op_copy s n (get_or s.regions r 0)) (flat_map (regions_of s) (flat_map op_owner ws))

  pub region_copied : (r : ℕ) → Memᴰ r (flat_map (regions_of s) (flat_map op_owner ws)) → region_copy s n r < length between.regions
  unfolding region_copy
  region_copied r k =
      let p = place_in (flat_map (regions_of s) (flat_map op_owner ws)) (length s.regions) k in
      let later : List ℕ = flat_map (regions_of s) (op_owner w ++ flat_map op_owner rest) in
      let e : position r (copied_regions s n) ≡ Some p.0 =
      subst (λ (l : List ℕ). position r l ≡ Some p.0) (regions_split s n ws rest w split) (position_kept r (flat_map (regions_of s) (flat_map op_owner ws)) later p.0 p.1) in
      let i : p.0 < length (flat_map (regions_of s) (flat_map op_owner ws)) = p.2 in
      omega (arith, number_at (copied_regions s n) (length s.regions) r p.0 e, regions_length)

-- ---- room

snoc_sum : {A : Type 0} (f : A → ℕ) (xs : List A) (x : A) → sum (map f (xs ++ (x ∷ []))) ≡ sum (map f xs) + f x
unfolding sum
snoc_sum f xs x = sum_append f xs (x ∷ []) ∙ omega arith

snoc_long : {A : Type 0} (xs : List A) (x : A) → length (xs ++ (x ∷ [])) ≡ length xs + 1
snoc_long xs x = length-append xs (x ∷ [])

valued_long : (xs : List Value) (w : Owner) (types : List ℕ) → length (xs ++ values_for w types) ≡ length xs + length types
unfolding values_for
valued_long xs w types = length-append xs _ ∙ simp length-map refl

region_long : (xs : List ℕ) (k x : ℕ) → length (xs ++ replicate k x) ≡ length xs + k
region_long xs k x = length-append xs (replicate k x) ∙ simp length-replicate refl

module _ (s : Store) (M : Mapping) (p : Option ℕ) (m : ℕ) where
  row : Op
  row =
      record {
        kind = (op_at s m).kind;
        parent = p;
        location = (op_at s m).location;
        operands = map (image M.values) (op_at s m).operands;
        successors = map (image M.blocks) (op_at s m).successors;
        attributes = (op_at s m).attributes;
      }

  ops_are : (op_made s M p m).ops ≡ s.ops ++ (row ∷ [])
  unfolding op_made attributed applied op_asked op_attributed row
  ops_are = update_last (op_attributed (op_at s m).attributes) s.ops _

  regions_are : length (op_made s M p m).regions ≡ length s.regions + length (regions_of s m)
  unfolding op_made attributed applied op_asked
  regions_are = region_long s.regions (length (regions_of s m)) (length s.ops)

  values_are : length (op_made s M p m).values ≡ length s.values + length (results_of s m)
  unfolding op_made attributed applied op_asked
  values_are = valued_long s.values (of_op (length s.ops)) (map (type_of s) (results_of s m)) ∙ simp length-map refl

  blocks_are : (op_made s M p m).blocks ≡ s.blocks
  unfolding op_made attributed applied
  blocks_are = refl

  pub record OpRooms : Type 0 where
    pub op_room : length s.ops + 1 ≤ max_ops
    pub region_room : length s.regions + length (regions_of s m) ≤ max_regions
    pub value_room : length s.values + length (results_of s m) ≤ max_values
    pub operand_room : operand_total s + length (op_at s m).operands ≤ max_operands
    pub successor_room : successor_total s + length (op_at s m).successors ≤ max_successors
    pub attribute_room : attribute_total s + length (op_at s m).attributes ≤ max_attributes

  pub op_rooms : TotalsSound (op_made s M p m) → OpRooms
  unfolding operand_total successor_total attribute_total row
  op_rooms t =
      let e₁ : length (op_made s M p m).ops ≡ length s.ops + 1 = ap length ops_are ∙ snoc_long s.ops row in
      let e₂ = ap (λ (l : List Op). sum (map (λ (o : Op). length o.operands) l)) ops_are ∙ snoc_sum (λ (o : Op). length o.operands) s.ops row in
      let e₃ = ap (λ (l : List Op). sum (map (λ (o : Op). length o.successors) l)) ops_are
      ∙ snoc_sum (λ (o : Op). length o.successors) s.ops row in
      let e₄ = ap (λ (l : List Op). sum (map (λ (o : Op). length o.attributes) l)) ops_are
      ∙ snoc_sum (λ (o : Op). length o.attributes) s.ops row in
      let e₅ = ap (λ (l : List Block). sum (map (λ (o : Block). length o.attributes) l)) blocks_are in
      let f₂ : length (map (image M.values) (op_at s m).operands) ≡ length (op_at s m).operands = length-map _ _ in
      let f₃ : length (map (image M.blocks) (op_at s m).successors) ≡ length (op_at s m).successors = length-map _ _ in
      let o₂ = t.operands in
      let o₃ = t.successors in
      let o₄ = t.attributes in
      record {
        op_room = omega (arith, e₁, t.ops);
        region_room = omega (arith, regions_are, t.regions);
        value_room = omega (arith, values_are, t.values);
        operand_room = omega (arith, e₂, f₂, o₂);
        successor_room = omega (arith, e₃, f₃, o₃);
        attribute_room = omega (arith, e₄, e₅, o₄);
      }

module _ (s : Store) (M : Mapping) (b : ℕ) where
  block_row : Block
  block_row =
      record {
        region =
            region_by s M (block_at s b).region;
        location = (block_at s b).location;
        attributes = (block_at s b).attributes;
      }

  blocks_now : (block_made s M b).blocks ≡ s.blocks ++ (block_row ∷ [])
  unfolding block_made attributed applied block_asked block_attributed block_row
  blocks_now = update_last (block_attributed (block_at s b).attributes) s.blocks _

  ops_now : (block_made s M b).ops ≡ s.ops
  unfolding block_made attributed applied
  ops_now = refl

  values_now : length (block_made s M b).values ≡ length s.values + length (arguments_of s b)
  unfolding block_made attributed applied block_asked
  values_now = valued_long s.values (of_block (length s.blocks)) (map (type_of s) (arguments_of s b)) ∙ simp length-map refl

  pub record BlockRooms : Type 0 where
    pub block_room : length s.blocks + 1 ≤ max_blocks
    pub value_room : length s.values + length (arguments_of s b) ≤ max_values
    pub attribute_room : attribute_total s + length (block_at s b).attributes ≤ max_attributes

  pub block_rooms : TotalsSound (block_made s M b) → BlockRooms
  unfolding attribute_total block_row
  block_rooms t =
      let e₁ : length (block_made s M b).blocks ≡ length s.blocks + 1 = ap length blocks_now ∙ snoc_long s.blocks block_row in
      let e₄ = ap (λ (l : List Block). sum (map (λ (o : Block). length o.attributes) l)) blocks_now
      ∙ snoc_sum (λ (o : Block). length o.attributes) s.blocks block_row in
      let e₅ = ap (λ (l : List Op). sum (map (λ (o : Op). length o.attributes) l)) ops_now in
      let o₄ = t.attributes in
      record {
        block_room = omega (arith, e₁, t.blocks);
        value_room = omega (arith, values_now, t.values);
        attribute_room = omega (arith, e₄, e₅, o₄);
      }
