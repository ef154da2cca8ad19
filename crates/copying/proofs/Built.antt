-- The copies of the first owners of a walk, and of one owner more: what stands in the store between is as it was, the next number of a table is the
-- copy's, and what is written for the owner is its copy. Assumes nothing.
use Rattle.std.proofs.Common.{◌≡◌, ℕ, zero, suc, ◌+◌, ◌<◌, true, false, cond, List, [], ◌∷◌, ◌++◌, map, length, get_or, replicate, refl, sym, ap, ap₂, subst, ◌∙◌, arith, append-nil, append_assoc}
use Rattle.std.proofs.lemmas.List.{map-append}
use mathlib.Core.List.Memᴰ
use mathlib.Core.List.{Memᴰ}
use Rattle.std.specs.Prelude.{Option, None, Some}
use borrow.Author.Tests.{ne_eqb, ltb-true, lt-ltb}
use lib.Dec.{eqb}
use Rattle.std.specs.List.{flat_map}
use Rattle.rules.specs.Lists.{update_at, position}
use Rattle.rules.specs.Store.{Store, Op, Value, no_op, no_block, no_value, op_at, block_at, value_at, type_of, parent_of, same_owner, regions_of, values_of, results_of, op_exists, block_exists, value_exists, owner_exists, parent_exists}
use Rattle.rules.specs.declared.types.Owner.{Owner}
use Rattle.rules.specs.declared.types.Owner.TheVariants.{Op as of_op, Block as of_block}
use Rattle.rules.specs.Fragments.{op_owner, block_owner, defines_owners, defines_blocks, defines_values, fragment_ops}
use Rattle.rules.specs.declared.types.Sort.TheVariants.{Op as op}
use Rattle.rules.specs.Building.{new_operation, applied, values_for}
use Rattle.rules.specs.Mapping.{Mapping, image}
use Rattle.rules.specs.Copying.{renumbered, copied_regions, op_copy, block_copy, region_copy, value_copy, owner_copy, inner, parent_copy, copied_op, copied_block, copied_value, copied}
use Rattle.rules.proofs.Basics.Tests.{all_at, differ_back}
use Rattle.rules.proofs.Basics.Distinct.{Distinct, mem_concat_map, concat_map_append, concat_map_concat_map}
use Rattle.rules.proofs.Basics.Appended.{numbers_before}
use Rattle.rules.proofs.Form.Images.{position_next, position_out, position_kept}
use Rattle.rules.proofs.Soundness.Sound.{Sound}
use Rattle.rules.proofs.Soundness.Children.{regions_in_lem, values_in_lem}
use Rattle.rules.proofs.Copying.Renumbered.{map_same, distinct_apart, numbers_old, old_entry, table_length_lem, number_at, place_in}
use Rattle.rules.proofs.Copying.Inside.{ops_distinct, op_below, owned_op, value_owner_lem}
use Rattle.rules.proofs.Copying.Tables.{op_new, op_once}
use Rattle.rules.proofs.Copying.Children.{region_parent, regions_new, owner_apart}
use Rattle.copying.specs.Partial.{copied_by}
use Rattle.copying.specs.Written.{op_attributed, attributed, op_asked, op_made, parent_by}

-- ---- lists

-- a table to which what belongs to one more is added
pub grown_table : {W A : Type 0} (xs : List A) (g : ℕ → A) (f : W → List ℕ) (ws : List W) (w : W)
    → xs ++ map g (flat_map f (ws ++ (w ∷ []))) ≡ (xs ++ map g (flat_map f ws)) ++ map g (f w)
grown_table {W} {A} xs g f ws w =
    ap (λ (l : List ℕ). xs ++ map g l) (concat_map_append f ws (w ∷ []) ∙ ap (λ (l : List ℕ). flat_map f ws ++ l) (append-nil (f w)))
    ∙ ap (λ (l : List A). xs ++ l) (map-append g (flat_map f ws) (f w))
    ∙ sym (append_assoc xs (map g (flat_map f ws)) (map g (f w)))

map_same_as : {A B : Type 0} (f : A → B) (b : B) (xs : List A) → ((x : A) → Memᴰ x xs → f x ≡ b) → map f xs ≡ replicate (length xs) b
map_same_as f b [] h = refl
map_same_as f b (x ∷ xs) h = ap₂ ◌∷◌ (h x (Memᴰ.head refl)) (map_same_as f b xs (λ y m. h y (Memᴰ.tail m)))

-- the one behind the first ones gets the number that is next behind theirs
pub next_number : (A B : List ℕ) (m next : ℕ) → Distinct (A ++ (m ∷ B)) → renumbered (A ++ (m ∷ B)) next m ≡ next + length A
next_number A B m next d =
    number_at (A ++ (m ∷ B)) next m (length A) (position_next m A B (position_out m A (λ k. distinct_apart A (m ∷ B) d m k (Memᴰ.head refl))))

pub update_last : {A : Type 0} (g : A → A) (xs : List A) (x : A) → update_at g (length xs) (xs ++ (x ∷ [])) ≡ xs ++ (g x ∷ [])
unfolding update_at
update_last g [] x = refl
update_last g (y ∷ xs) x = ap (λ (l : List _). y ∷ l) (update_last g xs x)

pub map_after : {A B C : Type 0} (g : B → C) (f : A → B) (xs : List A) → map g (map f xs) ≡ map (λ (x : A). g (f x)) xs
map_after g f [] = refl
map_after {C = C} g f (x ∷ xs) = ap (λ (l : List C). g (f x) ∷ l) (map_after g f xs)

pub get_map : (g : ℕ → ℕ) (xs : List ℕ) (i : ℕ) → i < length xs → get_or (map g xs) i 0 ≡ g (get_or xs i 0)
get_map g [] i l = absurd (omega arith)
get_map g (x ∷ xs) zero l = refl
get_map g (x ∷ xs) (suc i) l = get_map g xs i (omega arith)

same_back : (x y : Owner) → same_owner x y ≡ false → same_owner y x ≡ false
unfolding same_owner
same_back (of_op a) (of_op b) h = differ_back a b h
same_back (of_op a) (of_block b) h = refl
same_back (of_block a) (of_op b) h = refl
same_back (of_block a) (of_block b) h = differ_back a b h

-- ---- what the copied ones have

module _ (s : Store) (n : ℕ) (ws rest : List Owner) (w : Owner) (split : ws ++ (w ∷ rest) ≡ defines_owners s op n) where
  in_walk : {A : Type 0} (f : Owner → List A) {y : A} → Memᴰ y (flat_map f ws) → Memᴰ y (flat_map f (defines_owners s op n))
  in_walk {A} f {y} k =
      subst (Memᴰ y) (sym (concat_map_append f ws (w ∷ rest)) ∙ ap (flat_map f) split) (Memᴰ.append_left (flat_map f (w ∷ rest)) k)

  pub here : Memᴰ w (defines_owners s op n)
  here = subst (Memᴰ w) split (Memᴰ.append_right ws (Memᴰ.head refl))

  pub ops_split : flat_map op_owner ws ++ (op_owner w ++ flat_map op_owner rest) ≡ fragment_ops s op n
  unfolding fragment_ops
  ops_split = sym (concat_map_append op_owner ws (w ∷ rest)) ∙ ap (flat_map op_owner) split

  pub blocks_split : flat_map block_owner ws ++ (block_owner w ++ flat_map block_owner rest) ≡ defines_blocks s op n
  unfolding defines_blocks
  blocks_split = sym (concat_map_append block_owner ws (w ∷ rest)) ∙ ap (flat_map block_owner) split

  pub regions_split : flat_map (regions_of s) (flat_map op_owner ws) ++ flat_map (regions_of s) (op_owner w ++ flat_map op_owner rest) ≡ copied_regions s n
  unfolding copied_regions
  regions_split =
      sym (concat_map_append (regions_of s) (flat_map op_owner ws) (op_owner w ++ flat_map op_owner rest)) ∙ ap (flat_map (regions_of s)) ops_split

  region_of : {r : ℕ} → Memᴰ r (flat_map (regions_of s) (flat_map op_owner ws)) → Memᴰ r (copied_regions s n)
  region_of {r} k = subst (Memᴰ r) regions_split (Memᴰ.append_left _ k)

  value_of_lem : {v : ℕ} → Memᴰ v (flat_map (values_of s) ws) → Memᴰ v (defines_values s op n)
  unfolding defines_values
  value_of_lem k = in_walk (values_of s) k

-- ---- the images that a mapping gives are the copies

pub record Images (s : Store) (n : ℕ) (M : Mapping) : Type 0 where
  pub values : (v : ℕ) → v < length s.values → image M.values v ≡ value_copy s n v
  pub blocks : (b : ℕ) → b < length s.blocks → image M.blocks b ≡ block_copy s n b
  pub ops : (m : ℕ) → m < length s.ops → image M.ops m ≡ op_copy s n m

-- an operation's regions are numbered one after the other
pub record Runs (s : Store) : Type 0 where
  pub next : (m : ℕ) → m < length s.ops → (i : ℕ) → i < length (regions_of s m) → get_or (regions_of s m) i 0 ≡ get_or (regions_of s m) 0 0 + i

-- ---- the store between

module _ (s : Store) (sd : Sound s) (n : ℕ) (ex : op_exists s n ≡ true) (place : Option ℕ) (pe : parent_exists s place ≡ true)
    (ws rest : List Owner) (w : Owner) (split : ws ++ (w ∷ rest) ≡ defines_owners s op n) where
  abbrev between : Store
  between = copied_by s n place ws

  pub op_between : (m : ℕ) → m < length s.ops → op_at between m ≡ op_at s m
  unfolding op_at copied_by
  op_between m l = old_entry s.ops (copied_op s n place) (flat_map op_owner ws) no_op m l

  pub block_between : (b : ℕ) → b < length s.blocks → block_at between b ≡ block_at s b
  unfolding block_at copied_by
  block_between b l = old_entry s.blocks (copied_block s n) (flat_map block_owner ws) no_block b l

  pub value_between : (v : ℕ) → v < length s.values → value_at between v ≡ value_at s v
  unfolding value_at copied_by
  value_between v l = old_entry s.values (copied_value s n) (flat_map (values_of s) ws) no_value v l

  pub region_between : (r : ℕ) → r < length s.regions → get_or between.regions r 0 ≡ get_or s.regions r 0
  unfolding copied_by
  region_between r l =
      old_entry s.regions (λ (q : ℕ). op_copy s n (get_or s.regions q 0)) (flat_map (regions_of s) (flat_map op_owner ws)) 0 r l

  pub regions_between : (m : ℕ) → m < length s.ops → regions_of between m ≡ regions_of s m
  unfolding regions_of copied_by
  regions_between m l =
      numbers_old s.regions (λ (r : ℕ). op_copy s n (get_or s.regions r 0)) (flat_map (regions_of s) (flat_map op_owner ws)) (λ (o : ℕ). eqb o m)
      (λ r k. ne_eqb _ m (λ e. let f : op_copy s n (get_or s.regions r 0) ≡ m = e in
      absurd (omega (arith, op_new s n place (region_parent s sd n ex place pe (region_of s n ws rest w split k)).1))))

  pub values_between : (x : Owner) → owner_exists s x ≡ true → values_of between x ≡ values_of s x
  unfolding values_of copied_by copied_value
  values_between x h =
      numbers_old s.values (copied_value s n) (flat_map (values_of s) ws) (λ (o : Value). same_owner o.owner x)
      (λ v k. same_back x (owner_copy s n (value_at s v).owner)
      (owner_apart s sd n ex place pe x (value_at s v).owner h (value_owner_lem s sd n ex (value_of_lem s n ws rest w split k)).1))

  pub ops_length : length between.ops ≡ length s.ops + length (flat_map op_owner ws)
  unfolding copied_by
  ops_length = table_length_lem s.ops (copied_op s n place) (flat_map op_owner ws)

  pub blocks_length : length between.blocks ≡ length s.blocks + length (flat_map block_owner ws)
  unfolding copied_by
  blocks_length = table_length_lem s.blocks (copied_block s n) (flat_map block_owner ws)

  -- the regions of an operation's copy, once it is there
  pub regions_copied : (m : ℕ) → Memᴰ m (flat_map op_owner ws) → regions_of between (op_copy s n m) ≡ map (region_copy s n) (regions_of s m)
  unfolding regions_of copied_by copied
  regions_copied m k =
      sym (numbers_before (λ (o : ℕ). eqb o (op_copy s n m)) between.regions (map f later) apart)
      ∙ ap (λ (l : List ℕ). regions_of (record { ops = []; blocks = []; regions = l; values = [] }) (op_copy s n m)) whole
      ∙ regions_new s sd n ex place pe inside
    where
      f : ℕ → ℕ
      f r = op_copy s n (get_or s.regions r 0)

      later_ops : List ℕ
      later_ops = op_owner w ++ flat_map op_owner rest

      later : List ℕ
      later = flat_map (regions_of s) later_ops

      whole : (s.regions ++ map f (flat_map (regions_of s) (flat_map op_owner ws))) ++ map f later ≡ s.regions ++ map f (copied_regions s n)
      whole =
          append_assoc s.regions (map f (flat_map (regions_of s) (flat_map op_owner ws))) (map f later)
          ∙ ap (λ (l : List ℕ). s.regions ++ l) (sym (map-append f (flat_map (regions_of s) (flat_map op_owner ws)) later) ∙ ap (map f) (regions_split s n ws rest w split))

      inside : Memᴰ m (fragment_ops s op n)
      inside = subst (Memᴰ m) (ops_split s n ws rest w split) (Memᴰ.append_left later_ops k)

      once : Distinct (flat_map op_owner ws ++ later_ops)
      once = subst Distinct (sym (ops_split s n ws rest w split)) (ops_distinct s sd n ex)

      other : (r : ℕ) → Memᴰ r later → f r ≡ op_copy s n m → ⊥
      other r i e =
          let q = mem_concat_map (regions_of s) later_ops i in
          let j : Memᴰ q.0 (fragment_ops s op n) = subst (Memᴰ q.0) (ops_split s n ws rest w split) (Memᴰ.append_right (flat_map op_owner ws) q.1) in
          let h : get_or s.regions r 0 ≡ q.0 = (regions_in_lem s q.0 q.2).1 in
          let z : q.0 ≡ m = op_once s n place q.0 m (op_below s sd n ex j) (op_below s sd n ex inside) (ap (op_copy s n) (sym h) ∙ e) in
          distinct_apart (flat_map op_owner ws) later_ops once m k (subst (λ (x : ℕ). Memᴰ x later_ops) z q.1)

      apart : (o : ℕ) → Memᴰ o (map f later) → eqb o (op_copy s n m) ≡ false
      apart o i = let j = Memᴰ.of_map f later i in ne_eqb o (op_copy s n m) (λ e. other j.0 j.1 (j.2 ∙ e))

  -- and its number is one of the store's
  pub op_copied : (m : ℕ) → Memᴰ m (flat_map op_owner ws) → op_copy s n m < length between.ops
  unfolding op_copy
  op_copied m k =
      let p = place_in (flat_map op_owner ws) (length s.ops) k in
      let later_ops : List ℕ = op_owner w ++ flat_map op_owner rest in
      let e : position m (fragment_ops s op n) ≡ Some p.0 =
      subst (λ (l : List ℕ). position m l ≡ Some p.0) (ops_split s n ws rest w split) (position_kept m (flat_map op_owner ws) later_ops p.0 p.1) in
      let i : p.0 < length (flat_map op_owner ws) = p.2 in
      omega (arith, number_at (fragment_ops s op n) (length s.ops) m p.0 e, ops_length)

-- ---- one operation more

module _ (s : Store) (sd : Sound s) (n : ℕ) (ex : op_exists s n ≡ true) (place : Option ℕ) (pe : parent_exists s place ≡ true)
    (ws rest : List Owner) (m : ℕ) (split : ws ++ (of_op m ∷ rest) ≡ defines_owners s op n) (M : Mapping) (images : Images s n M) where
  abbrev now : Store
  now = copied_by s n place ws

  op_inside : Memᴰ m (fragment_ops s op n)
  op_inside = owned_op s sd n ex (here s n ws rest (of_op m) split)

  pub op_known : m < length s.ops
  op_known = op_below s sd n ex op_inside

  next_op : length now.ops ≡ op_copy s n m
  unfolding op_copy op_owner
  next_op =
      let d : Distinct (flat_map op_owner ws ++ (m ∷ flat_map op_owner rest)) = subst Distinct (sym (ops_split s n ws rest (of_op m) split)) (ops_distinct s sd n ex) in
      ops_length s sd n ex place pe ws rest (of_op m) split
      ∙ sym (next_number (flat_map op_owner ws) (flat_map op_owner rest) m (length s.ops) d)
      ∙ ap (λ (l : List ℕ). renumbered l (length s.ops) m) (ops_split s n ws rest (of_op m) split)

  same_row : op_at now m ≡ op_at s m
  same_row = op_between s sd n ex place pe ws rest (of_op m) split m op_known

  inner_same : (p : Option ℕ) → parent_exists s p ≡ true → inner (image M.blocks) p ≡ inner (block_copy s n) p
  unfolding inner parent_exists block_exists
  inner_same None h = refl
  inner_same (Some b) h = ap {B = Option ℕ} Some (images.blocks b (ltb-true b (length s.blocks) h))

  pub parent_same : parent_by now M n place m ≡ parent_copy s n place m
  unfolding parent_by parent_copy parent_of
  parent_same =
      ap (λ (p : Option ℕ). cond (eqb m n) place p)
      (ap (λ (o : Op). inner (image M.blocks) o.parent) same_row ∙ inner_same (op_at s m).parent (sd.op m op_known).parent_in)

  operands_same : map (image M.values) (op_at now m).operands ≡ map (value_copy s n) (op_at s m).operands
  unfolding value_exists
  operands_same =
      ap (λ (o : Op). map (image M.values) o.operands) same_row
      ∙ map_same _ _ (op_at s m).operands (λ v k. images.values v (ltb-true v (length s.values) (all_at (value_exists s) (op_at s m).operands (sd.op m op_known).operands_in k)))

  successors_same : map (image M.blocks) (op_at now m).successors ≡ map (block_copy s n) (op_at s m).successors
  unfolding block_exists
  successors_same =
      ap (λ (o : Op). map (image M.blocks) o.successors) same_row
      ∙ map_same _ _ (op_at s m).successors (λ b k. images.blocks b (ltb-true b (length s.blocks) (all_at (block_exists s) (op_at s m).successors (sd.op m op_known).successors_in k)))

  row_made : op_attributed (op_at now m).attributes (record {
    kind = (op_at now m).kind;
    parent = parent_by now M n place m;
    location = (op_at now m).location;
    operands = map (image M.values) (op_at now m).operands;
    successors = map (image M.blocks) (op_at now m).successors;
    attributes = [];
  }) ≡ copied_op s n place m
  unfolding op_attributed copied_op
  row_made i =
      record {
        kind = (same_row i).kind;
        parent = parent_same i;
        location = (same_row i).location;
        operands = operands_same i;
        successors = successors_same i;
        attributes = (same_row i).attributes;
      }

  ops_made : update_at (op_attributed (op_at now m).attributes) (length now.ops) (applied now (new_operation (op_asked now M (parent_by now M n place m) m))).ops
      ≡ (copied_by s n place (ws ++ (of_op m ∷ []))).ops
  unfolding applied op_asked copied_by op_owner
  ops_made =
      update_last (op_attributed (op_at now m).attributes) now.ops _
      ∙ ap (λ (o : Op). now.ops ++ (o ∷ [])) row_made
      ∙ sym (grown_table s.ops (copied_op s n place) op_owner ws (of_op m))

  no_blocks : now.blocks ≡ (copied_by s n place (ws ++ (of_op m ∷ []))).blocks
  unfolding copied_by block_owner
  no_blocks = sym (append-nil now.blocks) ∙ sym (grown_table s.blocks (copied_block s n) block_owner ws (of_op m))

  regions_made : now.regions ++ replicate (length (regions_of now m)) (length now.ops) ≡ (copied_by s n place (ws ++ (of_op m ∷ []))).regions
  unfolding copied_by op_owner
  regions_made =
      let g : ℕ → ℕ = λ (r : ℕ). op_copy s n (get_or s.regions r 0) in
      let f : Owner → List ℕ = λ (x : Owner). flat_map (regions_of s) (op_owner x) in
      let by : (xs : List Owner) → flat_map (regions_of s) (flat_map op_owner xs) ≡ flat_map f xs = λ xs. concat_map_concat_map (regions_of s) op_owner xs in
      ap (λ (l : List ℕ). now.regions ++ replicate (length l) (length now.ops)) (regions_between s sd n ex place pe ws rest (of_op m) split m op_known)
      ∙ ap (λ (k : ℕ). now.regions ++ replicate (length (regions_of s m)) k) next_op
      ∙ ap (λ (l : List ℕ). now.regions ++ l) (sym (map_same_as g (op_copy s n m) (regions_of s m) (λ r k. ap (op_copy s n) (regions_in_lem s m k).1)))
      ∙ ap (λ (l : List ℕ). (s.regions ++ map g l) ++ map g (regions_of s m)) (by ws)
      ∙ ap (λ (l : List ℕ). (s.regions ++ map g (flat_map f ws)) ++ map g l) (sym (append-nil (regions_of s m)))
      ∙ sym (grown_table s.regions g f ws (of_op m))
      ∙ ap (λ (l : List ℕ). s.regions ++ map g l) (sym (by (ws ++ (of_op m ∷ []))))

  result_made : ℕ → Value
  result_made v = record { type = type_of now v; owner = of_op (length now.ops) }

  op_owner_known : owner_exists s (of_op m) ≡ true
  unfolding owner_exists op_exists
  op_owner_known = lt-ltb m (length s.ops) op_known

  result_same : (v : ℕ) → v < length s.values → (value_at s v).owner ≡ of_op m → result_made v ≡ copied_value s n v
  unfolding copied_value owner_copy type_of result_made
  result_same v l e i =
      let t : value_at now v ≡ value_at s v = value_between s sd n ex place pe ws rest (of_op m) split v l in
      let o : of_op (length now.ops) ≡ owner_copy s n (value_at s v).owner = ap of_op next_op ∙ sym (ap (owner_copy s n) e) in
      record { type = (t i).type; owner = o i }

  values_grown : now.values ++ map (copied_value s n) (values_of s (of_op m)) ≡ (copied_by s n place (ws ++ (of_op m ∷ []))).values
  unfolding copied_by
  values_grown = sym (grown_table s.values (copied_value s n) (values_of s) ws (of_op m))

  values_made : now.values ++ values_for (of_op (length now.ops)) (map (type_of now) (results_of now m)) ≡ (copied_by s n place (ws ++ (of_op m ∷ []))).values
  unfolding values_for results_of result_made
  values_made =
      ap (λ (l : List Value). now.values ++ l)
      (map_after (λ (t : ℕ). record { type = t; owner = of_op (length now.ops) }) (type_of now) (values_of now (of_op m))
      ∙ ap (map result_made) (values_between s sd n ex place pe ws rest (of_op m) split (of_op m) op_owner_known)
      ∙ map_same result_made (copied_value s n) (values_of s (of_op m)) (λ v k. result_same v (values_in_lem s (of_op m) k).0 (values_in_lem s (of_op m) k).1))
      ∙ values_grown

  -- what is written for it is its copy
  pub op_made_lem : op_made now M (parent_by now M n place m) m ≡ copied_by s n place (ws ++ (of_op m ∷ []))
  unfolding op_made attributed applied op_asked
  op_made_lem i = record { ops = ops_made i; blocks = no_blocks i; regions = regions_made i; values = values_made i }
