-- A new row like another one's, before it has attributes: the row is read and named as the rules say, there is room for it, and the other one's
-- attributes can be set on it. Assumes nothing.
use Rattle.std.proofs.Common.{◌≡◌, ℕ, ◌+◌, ◌-◌, ◌<◌, ◌≤◌, true, List, [], ◌∷◌, ◌++◌, map, length, get_or, refl, sym, ap, subst, ◌∙◌, arith, length-append}
use Rattle.std.proofs.lemmas.List.{length-map}
use Rattle.std.specs.Prelude.{Option}
use borrow.Author.Tests.{ltb-true, lt-ltb}
use lib.ListN.{get_or-append}
use lib.Dec.{ltb}
use Rattle.std.specs.List.{list_all}
use Rattle.rules.specs.Lists.{sum}
use Rattle.rules.specs.Store.{Store, Op, Block, no_op, no_block, op_at, block_at, type_of, results_of, arguments_of, owner_exists, op_exists, block_exists, attribute_total, max_attributes, max_values, max_blocks}
use Rattle.rules.specs.declared.types.Attribute.{Attribute}
use Rattle.rules.specs.declared.types.Owner.{Owner}
use Rattle.rules.specs.declared.types.Owner.TheVariants.{Op as of_op, Block as of_block}
use Rattle.rules.specs.Building.{NewOperation, NewBlock, new_operation, new_block, applied, attributes_of}
use Rattle.rules.specs.Mapping.{Mapping, image, or_self}
use Rattle.rules.proofs.Basics.Tests.{all_at}
use Rattle.rules.proofs.Basics.Appended.{sum_append, mem_get_d}
use Rattle.rules.proofs.Copying.Renumbered.{map_same}
use Rattle.layout.specs.Columns.{Cols, columns, at, value_type, op_result_first, op_result_end, block_argument_first, block_argument_end}
use Rattle.layout.specs.Reading.{op_count, block_count, value_count, slice, store_in}
use Rattle.layout.specs.Soundness.{Arranged}
use Rattle.layout.proofs.Laid.{Laid, laid_facts}
use Rattle.layout.proofs.Buffer.{columns_shaped}
use Rattle.layout.proofs.Tabulate.{ops_length, blocks_length, regions_length, values_length}
use Rattle.layout.proofs.Totals.{operand_total_lem, successor_total_lem}
use Rattle.layout.proofs.Types.{types_read}
use Rattle.layout.proofs.Ranges.{length_range, results_range, arguments_range}
use Rattle.mutation.proofs.OperationLaid.{RoomFor}
use Rattle.mutation.proofs.BlockAdded.{BlockRoom}
use Rattle.equivalence.specs.MappingWords.{mapping_length, mapping_of}
use Rattle.copying.specs.Written.{ReadsAs, attributed, op_asked, op_made, block_asked, block_made, OpReady, BlockReady}
use Rattle.copying.proofs.Wrote.{wrote_after, wrote_as}
use Rattle.copying.proofs.Named.{value_image, block_image}

-- ---- the attributes of one can be set on another

pub record Settable (t : Store) (from to : Owner) (as' : List Attribute) : Type 0 where
  pub from_exists : owner_exists t from ≡ true
  pub to_exists : owner_exists t to ≡ true
  pub apart : from ≡ to → ⊥
  pub empty : attributes_of t to ≡ []
  pub theirs : attributes_of t from ≡ as'
  pub room : attribute_total t + length as' ≤ max_attributes

get_last : {A : Type 0} (xs : List A) (x d : A) → get_or (xs ++ (x ∷ [])) (length xs) d ≡ x
get_last [] x d = refl
get_last (y ∷ xs) x d = get_last xs x d

op_apart : (m k : ℕ) → m < k → of_op m ≡ of_op k → ⊥
op_apart m k l e = let f : m ≡ k = cc in let z : ⊥ = omega arith in z

block_apart : (m k : ℕ) → m < k → of_block m ≡ of_block k → ⊥
block_apart m k l e = let f : m ≡ k = cc in let z : ⊥ = omega arith in z

pub op_settable : (s : Store) (new : NewOperation) (m k : ℕ) → k ≡ length s.ops → m < length s.ops
    → attribute_total s + length (op_at s m).attributes ≤ max_attributes
    → Settable (applied s (new_operation new)) (of_op m) (of_op k) (op_at s m).attributes
unfolding applied owner_exists op_exists attributes_of op_at attribute_total sum
op_settable s new m k e l room =
    let row : Op = record { kind = new.kind; parent = new.parent; location = new.location; operands = new.operands; successors = new.successors; attributes = [] } in
    let long : length (s.ops ++ (row ∷ [])) ≡ length s.ops + 1 = length-append s.ops (row ∷ []) in
    let total : sum (map (λ (o : Op). length o.attributes) (s.ops ++ (row ∷ []))) ≡ sum (map (λ (o : Op). length o.attributes) s.ops) + 0 =
    sum_append (λ (o : Op). length o.attributes) s.ops (row ∷ []) in
    record {
      from_exists = lt-ltb m _ (omega (arith, long));
      to_exists = lt-ltb k _ (omega (arith, long));
      apart = op_apart m k (omega arith);
      empty = ap (λ (i : ℕ). (get_or (s.ops ++ (row ∷ [])) i no_op).attributes) e ∙ ap (λ (o : Op). o.attributes) (get_last s.ops row no_op);
      theirs = ap (λ (o : Op). o.attributes) (get_or-append s.ops (row ∷ []) no_op m l);
      room = omega (arith, total);
    }

pub block_settable : (s : Store) (new : NewBlock) (m k : ℕ) → k ≡ length s.blocks → m < length s.blocks
    → attribute_total s + length (block_at s m).attributes ≤ max_attributes
    → Settable (applied s (new_block new)) (of_block m) (of_block k) (block_at s m).attributes
unfolding applied owner_exists block_exists attributes_of block_at attribute_total sum
block_settable s new m k e l room =
    let row : Block = record { region = new.region; location = new.location; attributes = [] } in
    let long : length (s.blocks ++ (row ∷ [])) ≡ length s.blocks + 1 = length-append s.blocks (row ∷ []) in
    let total : sum (map (λ (o : Block). length o.attributes) (s.blocks ++ (row ∷ []))) ≡ sum (map (λ (o : Block). length o.attributes) s.blocks) + 0 =
    sum_append (λ (o : Block). length o.attributes) s.blocks (row ∷ []) in
    record {
      from_exists = lt-ltb m _ (omega (arith, long));
      to_exists = lt-ltb k _ (omega (arith, long));
      apart = block_apart m k (omega arith);
      empty =
          ap (λ (i : ℕ). (get_or (s.blocks ++ (row ∷ [])) i no_block).attributes) e
          ∙ ap (λ (o : Block). o.attributes) (get_last s.blocks row no_block);
      theirs = ap (λ (o : Block). o.attributes) (get_or-append s.blocks (row ∷ []) no_block m l);
      room = omega (arith, total);
    }

longer : {A : Type 0} (xs ys : List A) → length xs ≤ length (xs ++ ys)
longer xs ys = omega (arith, length-append xs ys)

op_longer : (s : Store) (new : NewOperation) → length s.ops ≤ length (applied s (new_operation new)).ops
unfolding applied
op_longer s new = longer s.ops _

block_longer : (s : Store) (new : NewBlock) → length s.blocks ≤ length (applied s (new_block new)).blocks
unfolding applied
block_longer s new = longer s.blocks _

-- ---- names

pub named_low : (n : ℕ) (names : List ℕ) → list_all (λ (v : ℕ). ltb v n) names ≡ true → (k : ℕ) → k < length names → get_or names k 0 < n
named_low n names h k l = ltb-true _ n (all_at (λ (v : ℕ). ltb v n) names h (mem_get_d names k 0 l))

module _ (w : List ℕ) (len : length w ≡ mapping_length) (names : List ℕ) where
  pub values_named_lem : list_all (λ (v : ℕ). ltb v max_values) names ≡ true
      → map (λ (v : ℕ). or_self (get_or w (0 + v) 0) v) names ≡ map (image (mapping_of w).values) names
  values_named_lem h = map_same _ _ names (λ v k. value_image w len v (ltb-true v max_values (all_at (λ (x : ℕ). ltb x max_values) names h k)))

  pub blocks_named_lem : list_all (λ (b : ℕ). ltb b max_blocks) names ≡ true
      → map (λ (b : ℕ). or_self (get_or w (2048 + b) 0) b) names ≡ map (image (mapping_of w).blocks) names
  blocks_named_lem h = map_same _ _ names (λ v k. block_image w len v (ltb-true v max_blocks (all_at (λ (x : ℕ). ltb x max_blocks) names h k)))

-- ---- an operation's row

module _ (a : List ℕ) (h : Arranged a) (m : ℕ) (l : m < op_count (columns a)) (ready : OpReady (store_in a) m) where
  abbrev C : Cols
  C = columns a

  laid : Laid C
  laid = laid_facts C h.laid

  pub op_low : m < 512
  op_low = omega (arith, l, laid.counts.ops)

  pub results_rise : at C op_result_first m ≤ at C op_result_end m
  results_rise = (laid.op m l).results.range.rises

  results_fit_lem : at C op_result_end m ≤ value_count C
  results_fit_lem = (laid.op m l).results.range.fits

  pub results_end : at C op_result_end m ≤ 2048
  results_end = omega (arith, results_fit_lem, laid.counts.values)

  results_many : length (results_of (store_in a) m) ≡ at C op_result_end m - at C op_result_first m
  unfolding results_of
  results_many = ap length (results_range C laid m l) ∙ length_range (at C op_result_first m) (at C op_result_end m)

  pub results_few : at C op_result_end m - at C op_result_first m ≤ 16
  results_few = omega (arith, results_many, ready.results)

  pub result_types : slice (C value_type) (at C op_result_first m) (at C op_result_end m) ≡ map (type_of (store_in a)) (results_of (store_in a) m)
  unfolding results_of
  result_types =
      sym (ap (map (type_of (store_in a))) (results_range C laid m l) ∙ types_read C (columns_shaped a h.sized) laid (at C op_result_first m) (at C op_result_end m) results_fit_lem)

  module _ (M : Mapping) (place : Option ℕ) where
    pub op_room_lem : RoomFor C (op_asked (store_in a) M place m)
    unfolding op_asked
    op_room_lem =
        let sh = columns_shaped a h.sized in
        let e₁ : length (map (type_of (store_in a)) (results_of (store_in a) m)) ≡ length (results_of (store_in a) m) = length-map _ _ in
        let e₂ : length (map (image M.values) (op_at (store_in a) m).operands) ≡ length (op_at (store_in a) m).operands = length-map _ _ in
        let e₃ : length (map (image M.blocks) (op_at (store_in a) m).successors) ≡ length (op_at (store_in a) m).successors = length-map _ _ in
        record {
          ops = omega (arith, ready.op_room, ops_length C);
          regions = omega (arith, ready.region_room, regions_length C);
          values = omega (arith, e₁, ready.value_room, values_length C);
          operands = omega (arith, e₂, ready.operand_room, operand_total_lem C sh laid);
          successors = omega (arith, e₃, ready.successor_room, successor_total_lem C sh laid);
        }

    -- once the row is there
    module _ (b : List ℕ) (w : ReadsAs a b (applied (store_in a) (new_operation (op_asked (store_in a) M place m)))) (k : ℕ) (e : k ≡ op_count C) where
      pub op_set : Settable (store_in b) (of_op m) (of_op k) (op_at (store_in a) m).attributes
      op_set =
          subst (λ (t : Store). Settable t (of_op m) (of_op k) (op_at (store_in a) m).attributes) (sym w.reads)
          (op_settable (store_in a) (op_asked (store_in a) M place m) m k (omega (arith, e, ops_length C)) (omega (arith, l, ops_length C)) ready.attribute_room)

      pub op_done : (d : List ℕ) → ReadsAs b d (attributed (store_in b) (of_op k) (attributes_of (store_in b) (of_op m)))
          → ReadsAs a d (op_made (store_in a) M place m)
      unfolding op_made applied
      op_done d q =
          let n : k ≡ length (store_in a).ops = omega (arith, e, ops_length C) in
          wrote_after a b d (applied (store_in a) (new_operation (op_asked (store_in a) M place m))) _ w (op_longer (store_in a) (op_asked (store_in a) M place m)) (omega arith)
          (wrote_as b d _ _ (λ i. attributed (w.reads i) (of_op (n i)) (op_set.theirs i)) q)

-- ---- a block's

module _ (a : List ℕ) (h : Arranged a) (M : Mapping) (m : ℕ) (l : m < block_count (columns a)) (ready : BlockReady (store_in a) M m) where
  abbrev C₁ : Cols
  C₁ = columns a

  laid₁ : Laid C₁
  laid₁ = laid_facts C₁ h.laid

  pub block_low : m < 256
  block_low = omega (arith, l, laid₁.counts.blocks)

  pub arguments_rise : at C₁ block_argument_first m ≤ at C₁ block_argument_end m
  arguments_rise = (laid₁.block m l).arguments.range.rises

  arguments_fit_lem : at C₁ block_argument_end m ≤ value_count C₁
  arguments_fit_lem = (laid₁.block m l).arguments.range.fits

  pub arguments_end : at C₁ block_argument_end m ≤ 2048
  arguments_end = omega (arith, arguments_fit_lem, laid₁.counts.values)

  arguments_many : length (arguments_of (store_in a) m) ≡ at C₁ block_argument_end m - at C₁ block_argument_first m
  unfolding arguments_of
  arguments_many = ap length (arguments_range C₁ laid₁ m l) ∙ length_range (at C₁ block_argument_first m) (at C₁ block_argument_end m)

  pub arguments_few : at C₁ block_argument_end m - at C₁ block_argument_first m ≤ 16
  arguments_few = omega (arith, arguments_many, ready.arguments)

  pub argument_types : slice (C₁ value_type) (at C₁ block_argument_first m) (at C₁ block_argument_end m) ≡ map (type_of (store_in a)) (arguments_of (store_in a) m)
  unfolding arguments_of
  argument_types =
      sym (ap (map (type_of (store_in a))) (arguments_range C₁ laid₁ m l) ∙ types_read C₁ (columns_shaped a h.sized) laid₁ (at C₁ block_argument_first m) (at C₁ block_argument_end m) arguments_fit_lem)

  pub block_room_lem : BlockRoom C₁ (map (type_of (store_in a)) (arguments_of (store_in a) m))
  block_room_lem =
      let e₁ : length (map (type_of (store_in a)) (arguments_of (store_in a) m)) ≡ length (arguments_of (store_in a) m) = length-map _ _ in
      record {
        blocks = omega (arith, ready.block_room, blocks_length C₁);
        values = omega (arith, e₁, ready.value_room, values_length C₁);
      }

  module _ (b : List ℕ) (w : ReadsAs a b (applied (store_in a) (new_block (block_asked (store_in a) M m)))) (k : ℕ) (e : k ≡ block_count C₁) where
    pub block_set : Settable (store_in b) (of_block m) (of_block k) (block_at (store_in a) m).attributes
    block_set =
        subst (λ (t : Store). Settable t (of_block m) (of_block k) (block_at (store_in a) m).attributes) (sym w.reads)
        (block_settable (store_in a) (block_asked (store_in a) M m) m k (omega (arith, e, blocks_length C₁)) (omega (arith, l, blocks_length C₁)) ready.attribute_room)

    pub block_done : (d : List ℕ) → ReadsAs b d (attributed (store_in b) (of_block k) (attributes_of (store_in b) (of_block m)))
        → ReadsAs a d (block_made (store_in a) M m)
    unfolding block_made applied
    block_done d q =
        let n : k ≡ length (store_in a).blocks = omega (arith, e, blocks_length C₁) in
        wrote_after a b d (applied (store_in a) (new_block (block_asked (store_in a) M m))) _ w (omega arith) (block_longer (store_in a) (block_asked (store_in a) M m))
        (wrote_as b d _ _ (λ i. attributed (w.reads i) (of_block (n i)) (block_set.theirs i)) q)
