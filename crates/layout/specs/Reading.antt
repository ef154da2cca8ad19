-- What the words are read as: the rules' store. The columns of depth and of links, and the ranges that children lie in, are not read: they
-- only help to find things, and soundness holds them to what is read.
use Rattle.std.specs.Prelude.{ℕ, zero, suc, ◌+◌, ◌*◌, ◌-◌, ◌/◌, ◌%◌, Bool, cond, List, [], ◌∷◌, eqb, leb, take, drop, Option, None, Some}
use Rattle.rules.specs.Store.{Store, Op, Block, Value}
use Rattle.rules.specs.declared.types.Attribute.{Attribute}
use Rattle.rules.specs.declared.types.Owner.{Owner}
use Rattle.rules.specs.declared.types.Owner.TheVariants.{Op as of_op, Block as of_block}
use Rattle.layout.specs.Columns.{Cols, columns, at, counts, op_kind, op_parent, op_location, op_operand_first, op_operand_end, op_successor_first, op_successor_end, op_attributes, region_op, block_region, block_location, block_attributes, value_type, value_owner, operand_words, successor_words, slot_key, slot_kind, slot_content, first_block_slot}

-- f at each number below n, by rising number
unfoldable pub tabulate_from : {A : Type 0} → ℕ → ℕ → (ℕ → A) → List A
tabulate_from i zero f = []
tabulate_from i (suc n) f = f i ∷ tabulate_from (suc i) n f

unfoldable pub tabulate : {A : Type 0} → ℕ → (ℕ → A) → List A
tabulate n f = tabulate_from 0 n f

-- n numbers one after the other, from a on
unfoldable pub consecutive : ℕ → ℕ → List ℕ
consecutive a n = tabulate_from a n (λ (i : ℕ). i)

-- the entries of a list from a on, up to e
unfoldable pub slice : List ℕ → ℕ → ℕ → List ℕ
slice xs a e = take (e - a) (drop a xs)

-- ---- the counts

unfoldable pub op_count : Cols → ℕ
op_count C = at C counts 0

unfoldable pub block_count : Cols → ℕ
block_count C = at C counts 1

unfoldable pub region_count : Cols → ℕ
region_count C = at C counts 2

unfoldable pub value_count : Cols → ℕ
value_count C = at C counts 3

unfoldable pub operand_count : Cols → ℕ
operand_count C = at C counts 4

unfoldable pub successor_count : Cols → ℕ
successor_count C = at C counts 5

unfoldable pub attribute_count : Cols → ℕ
attribute_count C = at C counts 6

-- the operation that a block's region belongs to
abbrev pub around : Cols → ℕ → ℕ
around C b = at C region_op (at C block_region b)

-- ---- single words

unfoldable pub parent_from : ℕ → Option ℕ
parent_from zero = None
parent_from (suc b) = Some b

unfoldable pub owner_from : ℕ → Owner
owner_from w = cond (eqb (w % 2) 0) (of_op (w / 2)) (of_block (w / 2))

unfoldable pub owner_code : Owner → ℕ
owner_code (of_op n) = 2 * n
owner_code (of_block b) = 2 * b + 1

-- an owner's first attribute slot
unfoldable pub slots_of : Owner → ℕ
slots_of (of_op n) = 8 * n
slots_of (of_block b) = first_block_slot + 8 * b

-- an attribute's kind and its flag share a word: the kind, and 64 more where the attribute is inherent
unfoldable pub kind_code : ℕ → Bool → ℕ
kind_code kind inherent = cond inherent (kind + 64) kind

unfoldable pub kind_from : ℕ → ℕ
kind_from w = cond (leb 64 w) (w - 64) w

abbrev pub inherent_from : ℕ → Bool
inherent_from w = leb 64 w

-- an attribute by its key, by the word of its kind and flag, and by its content
abbrev pub attribute_read : ℕ → ℕ → ℕ → Attribute
attribute_read key w content = record { key = key; kind = kind_from w; content = content; inherent = inherent_from w }

unfoldable pub attribute_at : Cols → ℕ → Attribute
attribute_at C i = attribute_read (at C slot_key i) (at C slot_kind i) (at C slot_content i)

-- so many attributes from a slot on
unfoldable pub attributes_from : Cols → ℕ → ℕ → List Attribute
attributes_from C first n = tabulate n (λ (i : ℕ). attribute_at C (first + i))

-- ---- the store

unfoldable pub op_of : Cols → ℕ → Op
op_of C n =
    record {
      kind = at C op_kind n;
      parent = parent_from (at C op_parent n);
      location = at C op_location n;
      operands = slice (C operand_words) (at C op_operand_first n) (at C op_operand_end n);
      successors = slice (C successor_words) (at C op_successor_first n) (at C op_successor_end n);
      attributes = attributes_from C (slots_of (of_op n)) (at C op_attributes n);
    }

unfoldable pub block_of : Cols → ℕ → Block
block_of C m =
    record {
      region = at C block_region m;
      location = at C block_location m;
      attributes = attributes_from C (slots_of (of_block m)) (at C block_attributes m);
    }

unfoldable pub value_of : Cols → ℕ → Value
value_of C v = record { type = at C value_type v; owner = owner_from (at C value_owner v) }

unfoldable pub store_of : Cols → Store
store_of C =
    record {
      ops = tabulate (op_count C) (op_of C);
      blocks = tabulate (block_count C) (block_of C);
      regions = tabulate (region_count C) (at C region_op);
      values = tabulate (value_count C) (value_of C);
    }

-- of a buffer
abbrev pub store_in : List ℕ → Store
store_in b = store_of (columns b)
