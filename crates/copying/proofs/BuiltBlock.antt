-- What is written for one block more of a walk is its copy: the region is found by the first regions of its operation and of that one's copy.
-- Assumes nothing.
use Rattle.std.proofs.Common.{◌≡◌, ℕ, ◌+◌, ◌-◌, ◌<◌, true, List, [], ◌∷◌, ◌++◌, map, length, get_or, sym, ap, subst, ◌∙◌, arith, append-nil}
use Rattle.std.proofs.lemmas.List.{length-map}
use mathlib.Core.List.{Memᴰ}
use Rattle.std.specs.Prelude.{Option}
use borrow.Author.Tests.{ltb-true, lt-ltb}
use Rattle.std.specs.List.{flat_map}
use Rattle.rules.specs.Lists.{update_at}
use Rattle.rules.specs.Store.{Store, Block, Value, block_at, value_at, type_of, op_around, regions_of, values_of, arguments_of, op_exists, block_exists, region_exists, owner_exists, parent_exists}
use Rattle.rules.specs.declared.types.Owner.{Owner}
use Rattle.rules.specs.declared.types.Owner.TheVariants.{Block as of_block}
use Rattle.rules.specs.Fragments.{op_owner, block_owner, defines_owners, defines_blocks}
use Rattle.rules.specs.declared.types.Sort.TheVariants.{Op as op}
use Rattle.rules.specs.Building.{new_block, applied, values_for}
use Rattle.rules.specs.Mapping.{Mapping, image}
use Rattle.rules.specs.Copying.{renumbered, op_copy, block_copy, region_copy, owner_copy, copied_op, copied_block, copied_value}
use Rattle.rules.proofs.Basics.Distinct.{Distinct, concat_map_append}
use Rattle.rules.proofs.Soundness.Sound.{Sound}
use Rattle.rules.proofs.Soundness.Children.{values_in_lem}
use Rattle.rules.proofs.Copying.Renumbered.{map_same, entry_of}
use Rattle.rules.proofs.Copying.Inside.{blocks_distinct, block_below, owned_block, op_around_lem, op_below, region_listed}
use Rattle.copying.specs.Partial.{copied_by}
use Rattle.copying.specs.Written.{block_attributed, attributed, region_by, block_asked, block_made}
use Rattle.copying.proofs.Built.{grown_table, next_number, update_last, map_after, get_map, blocks_split, here, Images, Runs, block_between, value_between, region_between, regions_between, values_between, blocks_length, regions_copied, op_copied}

module _ (s : Store) (sd : Sound s) (n : ℕ) (ex : op_exists s n ≡ true) (place : Option ℕ) (pe : parent_exists s place ≡ true)
    (ws rest : List Owner) (b : ℕ) (split : ws ++ (of_block b ∷ rest) ≡ defines_owners s op n) (M : Mapping) (images : Images s n M) where
  abbrev now : Store
  now = copied_by s n place ws

  block_inside : Memᴰ b (defines_blocks s op n)
  block_inside = owned_block s sd n ex (here s n ws rest (of_block b) split)

  pub block_known : b < length s.blocks
  block_known = block_below s sd n ex block_inside

  next_block : length now.blocks ≡ block_copy s n b
  unfolding block_copy block_owner
  next_block =
      let d : Distinct (flat_map block_owner ws ++ (b ∷ flat_map block_owner rest)) = subst Distinct (sym (blocks_split s n ws rest (of_block b) split)) (blocks_distinct s sd n ex) in
      blocks_length s sd n ex place pe ws rest (of_block b) split
      ∙ sym (next_number (flat_map block_owner ws) (flat_map block_owner rest) b (length s.blocks) d)
      ∙ ap (λ (l : List ℕ). renumbered l (length s.blocks) b) (blocks_split s n ws rest (of_block b) split)

  same_row : block_at now b ≡ block_at s b
  same_row = block_between s sd n ex place pe ws rest (of_block b) split b block_known

  -- ---- its region

  pub region_known : (block_at s b).region < length s.regions
  unfolding region_exists
  region_known = ltb-true _ _ (sd.block b block_known).region_in

  pub around_known : op_around s b < length s.ops
  around_known = op_below s sd n ex (op_around_lem s sd n ex b block_inside)

  module _ (before : Memᴰ (op_around s b) (flat_map op_owner ws)) where
    pub around_now : get_or now.regions (block_at now b).region 0 ≡ op_around s b
    unfolding op_around
    around_now =
        ap (λ (x : Block). get_or now.regions x.region 0) same_row
        ∙ region_between s sd n ex place pe ws rest (of_block b) split (block_at s b).region region_known

    around_image : image M.ops (get_or now.regions (block_at now b).region 0) ≡ op_copy s n (op_around s b)
    around_image = ap (image M.ops) around_now ∙ images.ops (op_around s b) around_known

    -- the copy of the operation around it is there
    pub copy_known : image M.ops (get_or now.regions (block_at now b).region 0) < length now.ops
    copy_known = rw around_image (op_copied s sd n ex place pe ws rest (of_block b) split (op_around s b) before)

    theirs : regions_of now (image M.ops (get_or now.regions (block_at now b).region 0)) ≡ map (region_copy s n) (regions_of s (op_around s b))
    theirs = ap (regions_of now) around_image ∙ regions_copied s sd n ex place pe ws rest (of_block b) split (op_around s b) before

    own : regions_of now (get_or now.regions (block_at now b).region 0) ≡ regions_of s (op_around s b)
    own = ap (regions_of now) around_now ∙ regions_between s sd n ex place pe ws rest (of_block b) split (op_around s b) around_known

    listed : Memᴰ (block_at s b).region (regions_of s (op_around s b))
    unfolding op_around
    listed = region_listed s (block_at s b).region region_known

    pub some_theirs : 0 < length (regions_of now (image M.ops (get_or now.regions (block_at now b).region 0)))
    some_theirs =
        let q = entry_of 0 listed in
        let l : q.0 < length (regions_of s (op_around s b)) = q.1 in
        rw (theirs, length-map) (omega arith)

    module _ (runs : Runs s) (runs_now : Runs now) where
      pub region_same : region_by now M (block_at now b).region ≡ region_copy s n (block_at s b).region
      unfolding region_by
      region_same =
          let r : ℕ = (block_at s b).region in
          let q = entry_of 0 listed in
          let i : ℕ = q.0 in
          let l : i < length (regions_of s (op_around s b)) = q.1 in
          let copy : ℕ = image M.ops (get_or now.regions (block_at now b).region 0) in
          let few : i < length (regions_of now copy) = rw (theirs, length-map) l in
          let e₁ : get_or (regions_of s (op_around s b)) i 0 ≡ get_or (regions_of s (op_around s b)) 0 0 + i = runs.next (op_around s b) around_known i l in
          let e₂ : get_or (regions_of now copy) i 0 ≡ get_or (regions_of now copy) 0 0 + i = runs_now.next copy copy_known i few in
          let e₃ : get_or (regions_of now copy) i 0 ≡ region_copy s n r =
          ap (λ (l : List ℕ). get_or l i 0) theirs ∙ get_map (region_copy s n) (regions_of s (op_around s b)) i l ∙ ap (region_copy s n) q.2 in
          let e₄ : get_or (regions_of now (get_or now.regions (block_at now b).region 0)) 0 0 ≡ get_or (regions_of s (op_around s b)) 0 0 = ap (λ (l : List ℕ). get_or l 0 0) own in
          let e₅ : (block_at now b).region ≡ r = ap (λ (x : Block). x.region) same_row in
          let sum : get_or (regions_of now copy) 0 0 + ((block_at now b).region - get_or (regions_of now (get_or now.regions (block_at now b).region 0)) 0 0)
          ≡ region_copy s n r = omega (arith, e₁, e₂, e₃, e₄, e₅, q.2) in
          sum

      -- ---- the block

      row_made : block_attributed (block_at now b).attributes (record {
        region = region_by now M (block_at now b).region;
        location = (block_at now b).location;
        attributes = [];
      }) ≡ copied_block s n b
      unfolding block_attributed copied_block
      row_made i =
          record { region = region_same i; location = (same_row i).location; attributes = (same_row i).attributes }

      blocks_made : update_at (block_attributed (block_at now b).attributes) (length now.blocks) (applied now (new_block (block_asked now M b))).blocks
          ≡ (copied_by s n place (ws ++ (of_block b ∷ []))).blocks
      unfolding applied block_asked copied_by block_owner
      blocks_made =
          update_last (block_attributed (block_at now b).attributes) now.blocks _
          ∙ ap (λ (o : Block). now.blocks ++ (o ∷ [])) row_made
          ∙ sym (grown_table s.blocks (copied_block s n) block_owner ws (of_block b))

      no_ops : now.ops ≡ (copied_by s n place (ws ++ (of_block b ∷ []))).ops
      unfolding copied_by op_owner
      no_ops = sym (append-nil now.ops) ∙ sym (grown_table s.ops (copied_op s n place) op_owner ws (of_block b))

      no_regions : now.regions ≡ (copied_by s n place (ws ++ (of_block b ∷ []))).regions
      unfolding copied_by op_owner
      no_regions =
          let g : ℕ → ℕ = λ (r : ℕ). op_copy s n (get_or s.regions r 0) in
          let f : List Owner → List ℕ = λ (l : List Owner). flat_map (regions_of s) (flat_map op_owner l) in
          let e : flat_map op_owner ws ≡ flat_map op_owner (ws ++ (of_block b ∷ [])) = sym (concat_map_append op_owner ws (of_block b ∷ []) ∙ append-nil (flat_map op_owner ws)) in
          ap (λ (l : List ℕ). s.regions ++ map g (flat_map (regions_of s) l)) e

      argument_made : ℕ → Value
      argument_made v = record { type = type_of now v; owner = of_block (length now.blocks) }

      block_owner_known : owner_exists s (of_block b) ≡ true
      unfolding owner_exists block_exists
      block_owner_known = lt-ltb b (length s.blocks) block_known

      argument_same : (v : ℕ) → v < length s.values → (value_at s v).owner ≡ of_block b → argument_made v ≡ copied_value s n v
      unfolding copied_value owner_copy type_of argument_made
      argument_same v l e i =
          let t : value_at now v ≡ value_at s v = value_between s sd n ex place pe ws rest (of_block b) split v l in
          let o : of_block (length now.blocks) ≡ owner_copy s n (value_at s v).owner = ap of_block next_block ∙ sym (ap (owner_copy s n) e) in
          record { type = (t i).type; owner = o i }

      values_grown : now.values ++ map (copied_value s n) (values_of s (of_block b)) ≡ (copied_by s n place (ws ++ (of_block b ∷ []))).values
      unfolding copied_by
      values_grown = sym (grown_table s.values (copied_value s n) (values_of s) ws (of_block b))

      values_made : now.values ++ values_for (of_block (length now.blocks)) (map (type_of now) (arguments_of now b)) ≡ (copied_by s n place (ws ++ (of_block b ∷ []))).values
      unfolding values_for arguments_of argument_made
      values_made =
          ap (λ (l : List Value). now.values ++ l)
          (map_after (λ (t : ℕ). record { type = t; owner = of_block (length now.blocks) }) (type_of now) (values_of now (of_block b))
          ∙ ap (map argument_made) (values_between s sd n ex place pe ws rest (of_block b) split (of_block b) block_owner_known)
          ∙ map_same argument_made (copied_value s n) (values_of s (of_block b)) (λ v k. argument_same v (values_in_lem s (of_block b) k).0 (values_in_lem s (of_block b) k).1))
          ∙ values_grown

      -- what is written for it is its copy
      pub block_made_lem : block_made now M b ≡ copied_by s n place (ws ++ (of_block b ∷ []))
      unfolding block_made attributed applied block_asked
      block_made_lem i = record { ops = no_ops i; blocks = blocks_made i; regions = no_regions i; values = values_made i }
