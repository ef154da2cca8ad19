-- What was read of an operation or a block, and looked up in the mapping, is what its copy is asked for by the rules: so the row that is put is
-- the rules'. Assumes nothing.
use Rattle.std.proofs.Common.{◌≡◌, ℕ, ◌+◌, ◌-◌, ◌<◌, true, List, length, get_or, map, sym, ap, ap₂, ◌∙◌, arith}
use Rattle.rules.specs.Store.{Op, Block, op_at, block_at, type_of, regions_of, results_of, arguments_of, parent_exists}
use Rattle.rules.specs.Building.{new_operation, new_block, applied}
use Rattle.rules.specs.Mapping.{image, or_self}
use Rattle.layout.specs.Columns.{Cols, columns, at, value_type, op_kind, op_location, op_region_first, op_region_end, op_result_first, op_result_end, block_location, block_argument_first, block_argument_end}
use Rattle.layout.specs.Reading.{op_count, block_count, region_count, op_of, block_of, slice, store_in}
use Rattle.layout.specs.Soundness.{Arranged}
use Rattle.layout.proofs.Laid.{laid_facts}
use Rattle.layout.proofs.Tabulate.{op_read, block_read, regions_length}
use Rattle.std.specs.Prelude as std
use Rattle.mutation.specs.Types.{operation_of}
use Rattle.mutation.specs.AddedWrites.{OpRoom, with_operation, with_block}
use Rattle.equivalence.specs.MappingWords.{mapping_length, mapping_of}
use Rattle.copying.specs.Written.{ReadsAs, region_by, op_asked, block_asked, OpReady, BlockReady}
use Rattle.copying.proofs.Wrote.{op_wrote, block_wrote}
use Rattle.copying.proofs.Regions.{regions_counted}
use Rattle.copying.proofs.Making.{values_named_lem, blocks_named_lem, result_types, op_room_lem, argument_types, block_room_lem}

-- ---- an operation

-- its words, and what became of its lists: the types of its results, the images of its operands and successors
pub record OpTaken (a w : List ℕ) (m kind location end first : ℕ) (n u t : List ℕ) : Type 0 where
  pub kind_read : kind ≡ at (columns a) op_kind m
  pub location_read : location ≡ at (columns a) op_location m
  pub end_read : end ≡ at (columns a) op_region_end m
  pub first_read : first ≡ at (columns a) op_region_first m
  pub types : n ≡ slice (columns a value_type) (at (columns a) op_result_first m) (at (columns a) op_result_end m)
  pub operands : u ≡ map (λ (v : ℕ). or_self (get_or w (0 + v) 0) v) (op_at (store_in a) m).operands
  pub successors : t ≡ map (λ (v : ℕ). or_self (get_or w (2048 + v) 0) v) (op_at (store_in a) m).successors

-- room for lists of other lengths that are the same
sized : (C : Cols) {x x' y y' z z' q q' : ℕ} → x ≡ x' → y ≡ y' → z ≡ z' → q ≡ q' → OpRoom C x y z q → OpRoom C x' y' z' q'
sized C e f g h k =
    record {
      ops = k.ops;
      regions = omega (arith, k.regions);
      values = omega (arith, k.values);
      operands = omega (arith, k.operands);
      successors = omega (arith, k.successors);
    }

module _ (a : List ℕ) (h : Arranged a) (w : List ℕ) (long : length w ≡ mapping_length) (parent : std.Option ℕ) (m : ℕ) (l : m < op_count (columns a)) (ready : OpReady (store_in a) m)
    {kind location end first : ℕ} {n u t : List ℕ} (k : OpTaken a w m kind location end first n u t) where
  types_asked : n ≡ map (type_of (store_in a)) (results_of (store_in a) m)
  types_asked = k.types ∙ result_types a h m l ready

  operands_asked : u ≡ map (image (mapping_of w).values) (op_at (store_in a) m).operands
  operands_asked = k.operands ∙ values_named_lem w long (op_at (store_in a) m).operands ready.values_named

  successors_asked : t ≡ map (image (mapping_of w).blocks) (op_at (store_in a) m).successors
  successors_asked = k.successors ∙ blocks_named_lem w long (op_at (store_in a) m).successors ready.blocks_named

  regions_asked : end - first ≡ length (regions_of (store_in a) m)
  regions_asked = ap₂ (λ (x y : ℕ). x - y) k.end_read k.first_read ∙ regions_counted (columns a) (laid_facts (columns a) h.laid) m l

  pub op_asked_room : OpRoom (columns a) (end - first) (length n) (length u) (length t)
  unfolding op_asked
  op_asked_room =
      sized (columns a) (sym regions_asked) (sym (ap length types_asked)) (sym (ap length operands_asked)) (sym (ap length successors_asked))
      (op_room_lem a h m l ready (mapping_of w) parent)

  op_asked_lem : operation_of (record { kind = kind; parent = parent; location = location; regions = end - first }) n u t
      ≡ op_asked (store_in a) (mapping_of w) parent m
  unfolding op_asked op_of
  op_asked_lem =
      let row = op_read (columns a) m l in
      λ i. record {
        kind = (k.kind_read ∙ sym (ap (λ (o : Op). o.kind) row)) i;
        parent = parent;
        location = (k.location_read ∙ sym (ap (λ (o : Op). o.location) row)) i;
        regions = regions_asked i;
        types = types_asked i;
        operands = operands_asked i;
        successors = successors_asked i;
      }

  pub op_row_wrote : (b : List ℕ) → length b ≡ length a
      → columns b ≡ with_operation (columns a) (operation_of (record { kind = kind; parent = parent; location = location; regions = end - first }) n u t)
      → parent_exists (store_in a) parent ≡ true
      → ReadsAs a b (applied (store_in a) (new_operation (op_asked (store_in a) (mapping_of w) parent m)))
  unfolding op_asked
  op_row_wrote b len e p =
      op_wrote a b h len (op_asked (store_in a) (mapping_of w) parent m) (e ∙ ap (with_operation (columns a)) op_asked_lem)
      (op_room_lem a h m l ready (mapping_of w) parent) p

-- ---- a block

pub record BlockTaken (a w : List ℕ) (m region location : ℕ) (n : List ℕ) : Type 0 where
  pub location_read : location ≡ at (columns a) block_location m
  pub types : n ≡ slice (columns a value_type) (at (columns a) block_argument_first m) (at (columns a) block_argument_end m)
  pub region_read : region ≡ region_by (store_in a) (mapping_of w) (block_at (store_in a) m).region

module _ (a : List ℕ) (h : Arranged a) (w : List ℕ) (m : ℕ) (l : m < block_count (columns a)) (ready : BlockReady (store_in a) (mapping_of w) m)
    {region location : ℕ} {n : List ℕ} (k : BlockTaken a w m region location n) where
  pub argument_types_asked : n ≡ map (type_of (store_in a)) (arguments_of (store_in a) m)
  argument_types_asked = k.types ∙ argument_types a h (mapping_of w) m l ready

  pub region_there : region < region_count (columns a)
  region_there = omega (arith, k.region_read, ready.region, regions_length (columns a))

  block_asked_lem : record { region = region; location = location; types = n } ≡ block_asked (store_in a) (mapping_of w) m
  unfolding block_asked block_of
  block_asked_lem =
      let row = block_read (columns a) m l in
      λ i. record {
        region = k.region_read i;
        location = (k.location_read ∙ sym (ap (λ (x : Block). x.location) row)) i;
        types = argument_types_asked i;
      }

  pub block_row_wrote : (b : List ℕ) → length b ≡ length a
      → columns b ≡ with_block (columns a) (record { region = region; location = location; types = n })
      → ReadsAs a b (applied (store_in a) (new_block (block_asked (store_in a) (mapping_of w) m)))
  unfolding block_asked
  block_row_wrote b len e =
      block_wrote a b h len (block_asked (store_in a) (mapping_of w) m) (e ∙ ap (with_block (columns a)) block_asked_lem)
      (block_room_lem a h (mapping_of w) m l ready) (omega (arith, ready.region, regions_length (columns a)))
