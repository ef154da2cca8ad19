-- What the code tells of the lines behind their letters, as what the rules make of them.
use Rattle.std.specs.Prelude as std
use Rattle.std.specs.Prelude.{ℕ, ◌≤◌, List, ◌≡◌, length, take, option_map, Option, true, false}
use Rattle.rules.specs.declared.types.Owner.{Owner}
use Rattle.rules.specs.Building.{new_operation, new_block, set_attribute, set_operand}
use Rattle.rules.specs.Lines.{Line, building, query, Reader, ◌>>=◌, giving, number, items, parent_block, owner, operation_line, block_line, attribute_line, operand_line, query_line, wholly}
use Rattle.rules.specs.declared.types.Edition.{Edition}
use Rattle.mutation.specs.declared.types.OpFields as code
use Rattle.lines.specs.declared.parsing.OpLists as lists
use Rattle.lines.specs.declared.parsing.BlockLine.{BlockLine}
use Rattle.lines.specs.declared.parsing.AttributeLine.{AttributeLine}
use Rattle.lines.specs.declared.parsing.OperandLine.{OperandLine}
use Rattle.lines.specs.declared.parsing.Query.{Query}
use Rattle.lines.specs.declared.letters.Letter.{Letter}
use Rattle.lines.specs.declared.letters.Letter.TheVariants as letters

-- ---- fields of a line

-- an owner: its letter and its number
unfoldable pub owner_fields : Reader Owner
owner_fields = do
  of ← owner
  n ← number
  giving (of n)

-- what stands in an operation's line before its lists
pub record OpFields : Type 0 where
  pub kind : ℕ
  pub parent : Option ℕ
  pub location : ℕ
  pub regions : ℕ

unfoldable pub operation_fields : Reader OpFields
operation_fields = do
  kind ← number
  parent ← parent_block
  location ← number
  regions ← number
  giving (record { kind = kind; parent = parent; location = location; regions = regions })

abbrev pub fields_as : code.OpFields → OpFields
fields_as f = record { kind = f.kind; parent = f.parent; location = f.location; regions = f.regions }

-- an operation's lists
pub record OpLists : Type 0 where
  pub types : List ℕ
  pub operands : List ℕ
  pub successors : List ℕ

unfoldable pub operation_lists : Reader OpLists
operation_lists = do
  types ← items
  operands ← items
  successors ← items
  giving (record { types = types; operands = operands; successors = successors })

-- each is the first words of its own list
abbrev pub lists_of : List ℕ → List ℕ → List ℕ → lists.OpLists → OpLists
lists_of types operands successors n =
    record { types = take n.types types; operands = take n.operands operands; successors = take n.successors successors }

-- so many words are there
abbrev pub ListsFit : List ℕ → List ℕ → List ℕ → std.Option lists.OpLists → Type 0
ListsFit types operands successors std.None = Unit {0}
ListsFit types operands successors (std.Some n) = (n.types ≤ length types) × (n.operands ≤ length operands) × (n.successors ≤ length successors)

pub record ReadLists (fields : List (List ℕ)) (types operands successors : List ℕ) (r : std.Option lists.OpLists) : Type 0 where
  pub same : wholly (operation_lists fields) ≡ (option_map (lists_of types operands successors) r)
  pub fit : ListsFit types operands successors r

-- the line that the two make
unfoldable pub operation_line_of : OpFields → OpLists → Line
operation_line_of h l =
    building (new_operation (record {
      kind = h.kind;
      parent = h.parent;
      location = h.location;
      regions = h.regions;
      types = l.types;
      operands = l.operands;
      successors = l.successors;
    }))

-- ---- lines

-- what a letter says that the line behind it is
abbrev pub line_behind : Edition → Letter → Reader Line
line_behind e letters.Operation = operation_line
line_behind e letters.Block = block_line e
line_behind e letters.Attribute = attribute_line false
line_behind e letters.Inherent = attribute_line true
line_behind e letters.Operand = operand_line
line_behind e letters.Query = query_line

abbrev pub block_line_of : List ℕ → BlockLine → Line
block_line_of types b =
    building (new_block (record { region = b.region; location = b.location; types = take b.arguments types }))

abbrev pub ArgumentsFit : List ℕ → std.Option BlockLine → Type 0
ArgumentsFit types std.None = Unit {0}
ArgumentsFit types (std.Some b) = b.arguments ≤ length types

pub record ReadBlock (e : Edition) (fields : List (List ℕ)) (types : List ℕ) (r : std.Option BlockLine) : Type 0 where
  pub same : wholly (block_line e fields) ≡ (option_map (block_line_of types) r)
  pub fit : ArgumentsFit types r

abbrev pub attribute_line_of : AttributeLine → Line
attribute_line_of a = building (set_attribute a.owner a.attribute)

abbrev pub operand_line_of : OperandLine → Line
operand_line_of o = building (set_operand (record { operation = o.operation; index = o.index; value = o.value }))

abbrev pub query_of : Query → Line
query_of q = query q.sort q.left q.right q.ignore
