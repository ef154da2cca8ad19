-- What a laid out buffer is after what was written last: the rules' store, laid out again, and what marks rest on is as it was; and one after the
-- other likewise. What is named need not be there yet. Assumes nothing.
use Rattle.std.proofs.Common.{◌≡◌, ℕ, ◌+◌, ◌<◌, ◌≤◌, true, false, List, length, get_or, set, refl, sym, ap, subst, ◌∙◌, arith, length-set, get_or-set_same}
use Rattle.std.proofs.lemmas.Bool.{le-ltb}
use Rattle.rules.specs.Store.{Store, Op, Block, owner_exists, parent_exists, max_attribute_kind, max_attributes, max_own_keys}
use Rattle.rules.specs.declared.types.Attribute.{Attribute}
use Rattle.rules.specs.declared.types.Owner.{Owner}
use Rattle.rules.specs.declared.types.Owner.TheVariants.{Op as of_op, Block as of_block}
use Rattle.rules.specs.Building.{NewOperation, NewBlock, new_operation, new_block, set_attribute, applied, attributes_of}
use Rattle.layout.specs.Columns.{Cols, columns, at, write, counts, slot_key}
use Rattle.layout.specs.Reading.{op_count, block_count, region_count, attribute_count, slots_of, attribute_at, attributes_from, op_of, block_of, store_of, store_in}
use Rattle.layout.specs.Soundness.{Arranged}
use Rattle.layout.specs.Owners.{key_count, count_column, owner_number}
use Rattle.layout.proofs.Laid.{Shaped, Laid, laid_facts, laid_of}
use Rattle.layout.proofs.Buffer.{columns_shaped}
use Rattle.layout.proofs.Tabulate.{ops_length, blocks_length, op_read, block_read, length_tabulate, get_d_tabulate}
use Rattle.layout.proofs.OwnerKeys.{OwnerIn, owner_in_lem}
use Rattle.mutation.specs.Doing.{Behind}
use Rattle.mutation.specs.AddedWrites.{with_operation, with_block}
use Rattle.mutation.proofs.Operating.{parent_in_lem}
use Rattle.mutation.proofs.OperationLaid.{RoomFor}
use Rattle.mutation.proofs.BlockAdded.{BlockRoom}
use Rattle.mutation.proofs.NewOperation.{operation_behind, operation_reads, operation_laid}
use Rattle.mutation.proofs.NewBlock.{block_behind, block_reads, block_laid_lem}
use Rattle.mutation.specs.SetWrites.{slot_for, key_there, added, with_attribute}
use Rattle.mutation.proofs.KeySlot.{place, place_found, slot_found}
use Rattle.mutation.proofs.SetAttribute.{attribute_reads, attribute_behind, attribute_laid}
use Rattle.copying.specs.Written.{ReadsAs}
use Rattle.copying.proofs.Attributed.{AllBelow, below_at}

-- ---- one after the other

behind_after : (C D E : Cols) → Behind C D → op_count C ≤ op_count D → block_count C ≤ block_count D → Behind D E → Behind C E
behind_after C D E p o b q =
    record {
      words = λ k l. q.words k l ∙ p.words k l;
      marks = q.marks ∙ p.marks;
      regions = λ n l. q.regions n (omega arith) ∙ p.regions n l;
      results = λ n l. q.results n (omega arith) ∙ p.results n l;
      arguments = λ m l. q.arguments m (omega arith) ∙ p.arguments m l;
    }

pub behind_none : (C : Cols) → Behind C C
behind_none C = record { words = λ k l. refl; marks = refl; regions = λ n l. refl; results = λ n l. refl; arguments = λ m l. refl }

pub wrote_none : (a : List ℕ) → Arranged a → ReadsAs a a (store_in a)
wrote_none a h = record { reads = refl; arranged = h; behind = behind_none (columns a) }

pub behind_both : (a b c : List ℕ) → length (store_in a).ops ≤ length (store_in b).ops → length (store_in a).blocks ≤ length (store_in b).blocks
    → Behind (columns a) (columns b) → Behind (columns b) (columns c) → Behind (columns a) (columns c)
behind_both a b c o k p q =
    behind_after (columns a) (columns b) (columns c) p (omega (arith, ops_length (columns a), ops_length (columns b)))
    (omega (arith, blocks_length (columns a), blocks_length (columns b))) q

pub wrote_after : (a b c : List ℕ) (s t : Store) → ReadsAs a b s → length (store_in a).ops ≤ length s.ops
    → length (store_in a).blocks ≤ length s.blocks
    → ReadsAs b c t → ReadsAs a c t
wrote_after a b c s t p o k q =
    record {
      reads = q.reads;
      arranged = q.arranged;
      behind = behind_both a b c (subst (λ (x : Store). length (store_in a).ops ≤ length x.ops) (sym p.reads) o)
          (subst (λ (x : Store). length (store_in a).blocks ≤ length x.blocks) (sym p.reads) k) p.behind q.behind;
    }

pub wrote_as : (a b : List ℕ) (s t : Store) → s ≡ t → ReadsAs a b s → ReadsAs a b t
wrote_as a b s t e p = record { reads = p.reads ∙ e; arranged = p.arranged; behind = p.behind }

-- ---- an operation, a block

module _ (a b : List ℕ) (h : Arranged a) (len : length b ≡ length a) where
  abbrev C : Cols
  C = columns a

  shaped : Shaped C
  shaped = columns_shaped a h.sized

  laid : Laid C
  laid = laid_facts C h.laid

  wrote_laid : (s : Store) → store_in b ≡ s → Laid (columns b) → Behind C (columns b) → ReadsAs a b s
  wrote_laid s r l k = record { reads = r; arranged = record { sized = len ∙ h.sized; laid = laid_of (columns b) l }; behind = k }

  pub op_wrote : (new : NewOperation) → columns b ≡ with_operation C new → RoomFor C new → parent_exists (store_in a) new.parent ≡ true
      → ReadsAs a b (applied (store_in a) (new_operation new))
  op_wrote new e room p =
      wrote_laid _ (ap store_of e ∙ operation_reads C new shaped room laid)
      (subst Laid (sym e) (operation_laid C new shaped room laid (parent_in_lem a h new.parent p)))
      (subst (Behind C) (sym e) (operation_behind C new shaped room laid))

  pub block_wrote : (new : NewBlock) → columns b ≡ with_block C new → BlockRoom C new.types → new.region < region_count C
      → ReadsAs a b (applied (store_in a) (new_block new))
  block_wrote new e room r =
      wrote_laid _ (ap store_of e ∙ block_reads C new shaped room laid)
      (subst Laid (sym e) (block_laid_lem C new shaped room laid r))
      (subst (Behind C) (sym e) (block_behind C new shaped room laid))

-- ---- an attribute

read_of_lem : (C : Cols) (u : Owner) → OwnerIn C u → attributes_of (store_of C) u ≡ attributes_from C (slots_of u) (key_count C u)
unfolding attributes_of key_count count_column owner_number op_of block_of
read_of_lem C (of_op n) l = ap (λ (o : Op). o.attributes) (op_read C n l)
read_of_lem C (of_block m) l = ap (λ (o : Block). o.attributes) (block_read C m l)

last_count : (xs : List ℕ) (v : ℕ) (ys : List ℕ) → ys ≡ set xs 6 v → length ys ≡ 8 → get_or ys 6 0 ≡ v
last_count xs v ys e l =
    let f : length (set xs 6 v) ≡ length xs = length-set xs 6 v in
    let g : length ys ≡ length (set xs 6 v) = ap length e in
    ap (λ (zs : List ℕ). get_or zs 6 0) e ∙ get_or-set_same xs 6 v 0 (omega arith)

module _ (a : List ℕ) (w : Owner) (ex : owner_exists (store_in a) w ≡ true) where
  pub attributes_read : attributes_of (store_in a) w ≡ attributes_from (columns a) (slots_of w) (key_count (columns a) w)
  attributes_read = read_of_lem (columns a) w (owner_in_lem (columns a) w ex)

  pub keys_counted : length (attributes_of (store_in a) w) ≡ key_count (columns a) w
  unfolding attributes_from
  keys_counted = ap length attributes_read ∙ length_tabulate (key_count (columns a) w) _

  pub slot_read : (i : ℕ) (d : Attribute) → i < key_count (columns a) w
      → attribute_at (columns a) (slots_of w + i) ≡ get_or (attributes_of (store_in a) w) i d
  unfolding attributes_from
  slot_read i d l = sym (ap (λ (xs : List Attribute). get_or xs i d) attributes_read ∙ get_d_tabulate (key_count (columns a) w) _ i d l)

module _ (a b : List ℕ) (h : Arranged a) (len : length b ≡ length a) (w : Owner) (x : Attribute) (ex : owner_exists (store_in a) w ≡ true)
    (above : AllBelow x.key (attributes_of (store_in a) w)) (fits : x.kind ≤ max_attribute_kind) (few : key_count (columns a) w < max_own_keys) (room : attribute_count (columns a) + 1 ≤ max_attributes)
    (e : columns b ≡ added (columns a) w (slots_of w + key_count (columns a) w) x) where
  abbrev C₁ : Cols
  C₁ = columns a

  key_low : (q : ℕ) → q < key_count C₁ w → at C₁ slot_key (slots_of w + q) < x.key
  unfolding attribute_at
  key_low q l =
      let d : Attribute = record { key = 0; kind = 0; content = 0; inherent = false } in
      let r : at C₁ slot_key (slots_of w + q) ≡ (get_or (attributes_of (store_in a) w) q d).key = ap (λ (y : Attribute). y.key) (slot_read a w ex q d l) in
      let c : length (attributes_of (store_in a) w) ≡ key_count C₁ w = keys_counted a w ex in
      let z : (get_or (attributes_of (store_in a) w) q d).key < x.key = below_at x.key (attributes_of (store_in a) w) q d above (omega arith) in
      omega arith

  slot_last : slot_for C₁ w x.key ≡ slots_of w + key_count C₁ w
  slot_last =
      let s = place_found C₁ w x.key in
      let low : place C₁ w x.key < key_count C₁ w → ⊥ = λ l. let y = s.stops l in let z = key_low (place C₁ w x.key) l in omega arith in
      let f : place C₁ w x.key ≤ key_count C₁ w = s.fits in
      omega (arith, slot_found C₁ w x.key, low)

  not_there : key_there C₁ w x.key ≡ false
  unfolding key_there
  not_there =
      let l : slots_of w + key_count C₁ w ≤ slot_for C₁ w x.key = omega (arith, slot_last) in
      rw (le-ltb (slot_for C₁ w x.key) (slots_of w + key_count C₁ w) l)

  is_added : columns b ≡ with_attribute C₁ w x
  unfolding with_attribute
  is_added = rw (not_there, slot_last) e

  pub attribute_wrote : ReadsAs a b (applied (store_in a) (set_attribute w x))
  attribute_wrote =
      let sh = columns_shaped a h.sized in
      let l = laid_facts C₁ h.laid in
      let o = owner_in_lem C₁ w ex in
      let more : key_count C₁ w + 1 ≤ max_own_keys = omega arith in
      wrote_laid a b h len _ (ap store_of is_added ∙ attribute_reads C₁ w x sh l o fits (λ k. (more, room)))
      (subst Laid (sym is_added) (attribute_laid C₁ w x sh l o fits (λ k. (more, room))))
      (subst (Behind C₁) (sym is_added) (attribute_behind C₁ w x sh l o fits (λ k. (more, room))))

  pub attribute_counted_lem : attribute_count (columns b) ≡ attribute_count C₁ + 1
  unfolding attribute_count at added write
  attribute_counted_lem =
      let z : length (columns b counts) ≡ 8 = columns_shaped b (len ∙ h.sized) counts in
      let f = ap (λ (X : Cols). X counts) e in
      last_count _ (at C₁ counts 6 + 1) (columns b counts) f z
