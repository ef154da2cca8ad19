-- 01, "Twins and near twins": the starred cases, as one list, and cases that a porter's mistakes fail. Each says what calls are made
-- from the empty store, what is then asked, and what the answer is.
use Rattle.rules.specs.declared.types.Cause.TheVariants.{NotThere, OwnerFull, UnknownKind, NoOperand, BadMapping}
use Rattle.std.specs.Prelude.{ℕ, Bool, true, false, List, [], ◌∷◌, ◌++◌, map, ◌≡◌, set, replicate, None, Some}
use Rattle.rules.specs.Store.{empty_store, sound}
use Rattle.rules.specs.declared.types.Attribute.{Attribute}
use Rattle.rules.specs.declared.types.Owner.TheVariants.{Op as of_op, Block as of_block}
use Rattle.rules.specs.declared.types.Sort.{Sort}
use Rattle.rules.specs.declared.types.Sort.TheVariants.{Op as op, Block as block, Region as region}
use Rattle.rules.specs.Building.{Call, new_operation, new_block, set_attribute, set_operand, Built, made, accepted, refused, answer, after}
use Rattle.rules.specs.declared.types.Ignore.{Ignore}
use Rattle.rules.specs.Mapping.{Mapping, empty_mapping, image}
use Rattle.rules.specs.Comparison.{pair_of}
use Rattle.rules.specs.Answers.{Compared, eq, neq, refused as refused_compared, comparison}

pub data Case : Type 0 where
  -- after these calls, comparing from an empty mapping under this rule two fragments of this sort answers this
  compares : List Call → Ignore → Sort → ℕ → ℕ → Compared → Case
  -- the same comparison leaves a mapping in which this block has this image
  maps : List Call → Ignore → Sort → ℕ → ℕ → ℕ → ℕ → Case
  -- begun with a mapping that has one entry, this image of this value, the comparison answers this
  begun : List Call → ℕ → ℕ → Ignore → Sort → ℕ → ℕ → Compared → Case
  -- after these calls, this one answers this
  builds : List Call → Call → Built → Case

-- one entry, of a value
unfoldable pub one_entry : ℕ → ℕ → Mapping
one_entry v i = record { values = set empty_mapping.values v i; blocks = empty_mapping.blocks; ops = empty_mapping.ops }

unfoldable pub Holds : Case → Type 0
Holds (compares calls ig f l r a) =
    (comparison (sound (after empty_store calls)) (after empty_store calls) [] empty_mapping ig f l r).answer ≡ a
Holds (maps calls ig f l r b i) =
    image (comparison (sound (after empty_store calls)) (after empty_store calls) [] empty_mapping ig f l r).mapping.blocks b ≡ i
Holds (begun calls v i ig f l r a) =
    (comparison (sound (after empty_store calls)) (after empty_store calls) [] (one_entry v i) ig f l r).answer ≡ a
Holds (builds calls c a) = answer (after empty_store calls) c ≡ a

unfoldable pub AllHold : List Case → Type 0
AllHold [] = Unit {0}
AllHold (c ∷ cs) = Holds c × AllHold cs

unfoldable pub ignoring : Bool → ℕ → Ignore
ignoring locations bits = record { locations = locations; bits = bits }

unfoldable pub attribute : ℕ → ℕ → ℕ → Attribute
attribute key kind content = record { key = key; kind = kind; content = content; inherent = false }

unfoldable pub inherent_one : ℕ → ℕ → ℕ → Attribute
inherent_one key kind content = record { key = key; kind = kind; content = content; inherent = true }

-- an operation of this kind with these result types and operands, in no block and without regions
unfoldable pub operation : ℕ → List ℕ → List ℕ → Call
operation kind types operands =
    new_operation (record { kind = kind; parent = None; location = 0; regions = 0; types = types; operands = operands; successors = [] })

-- an operation of this kind with so many regions and these operands, in no block
unfoldable pub enclosing : ℕ → ℕ → List ℕ → Call
enclosing kind regions operands =
    new_operation (record { kind = kind; parent = None; location = 0; regions = regions; types = []; operands = operands; successors = [] })

-- a block in this region, with these argument types
unfoldable pub block_in : ℕ → List ℕ → Call
block_in r types = new_block (record { region = r; location = 0; types = types })

-- the first operand of operation n becomes value v
unfoldable pub first_operand : ℕ → ℕ → Call
first_operand n v = set_operand (record { operation = n; index = 0; value = v })

-- at this location an operation of kind 7, whose region and block have this number, and in it one of kind 8, whose operand is value v
unfoldable pub nested : ℕ → ℕ → ℕ → List Call
nested location n v =
    new_operation (record { kind = 7; parent = None; location = location; regions = 1; types = []; operands = []; successors = [] })
    ∷ new_block (record { region = n; location = location; types = 3 ∷ [] })
    ∷ new_operation (record { kind = 8; parent = Some n; location = location; regions = 0; types = 3 ∷ []; operands = v ∷ []; successors = [] })
    ∷ []

-- the listing of "Listings"
unfoldable pub example : List Call
example = nested 5 0 0 ++ nested 6 1 2

-- an operation with two regions, that many blocks in the first and so many in the second
unfoldable pub two_regions : ℕ → ℕ → List Call
two_regions m n = enclosing 1 2 [] ∷ replicate m (block_in 0 []) ++ replicate n (block_in 1 [])

-- two operations of one kind
unfoldable pub two_ops : List Call
two_ops = operation 1 [] [] ∷ operation 1 [] [] ∷ []

-- two operations of one kind, after one with two results; each has one operand, the second one of this number
unfoldable pub two_users : ℕ → List Call
two_users v = operation 1 (3 ∷ 3 ∷ []) [] ∷ operation 2 [] (0 ∷ []) ∷ operation 2 [] (v ∷ []) ∷ []

-- two blocks in a region, the first with an operation
unfoldable pub full_and_empty : List Call
full_and_empty =
    two_regions 2 0
    ++ (new_operation (record { kind = 2; parent = Some 0; location = 0; regions = 0; types = []; operands = []; successors = [] }) ∷ [])

unfoldable pub starred : List Case
starred =
    -- both queries above
    compares example (ignoring true 0) op 0 2 (eq 3)
    ∷ compares example (ignoring false 0) op 0 2 (neq (pair_of op 0 2) 0)
    -- two regions without blocks: eq, paired 0
    ∷ compares (two_regions 0 0) (ignoring false 0) region 0 1 (eq 0)
    -- 2 blocks against 1, 3 against 1, 1 against 2, pairs alike: region
    ∷ compares (two_regions 2 1) (ignoring false 0) region 0 1 (neq (pair_of region 0 1) 1)
    ∷ compares (two_regions 3 1) (ignoring false 0) region 0 1 (neq (pair_of region 0 1) 1)
    ∷ compares (two_regions 1 2) (ignoring false 0) region 0 1 (neq (pair_of region 0 1) 1)
    -- one operation against none in a block: block
    ∷ compares full_and_empty (ignoring false 0) block 0 1 (neq (pair_of block 0 1) 1)
    -- same keys set in another order: eq
    ∷ compares
    (two_ops
    ++ (set_attribute (of_op 0) (attribute 1 5 10)
    ∷ set_attribute (of_op 0) (attribute 2 6 20)
    ∷ set_attribute (of_op 1) (attribute 2 6 20)
    ∷ set_attribute (of_op 1) (attribute 1 5 10)
    ∷ []))
    (ignoring false 0) op 0 1 (eq 1)
    -- an attribute on the left only: op; eq when its bit is set
    ∷ compares (two_ops ++ (set_attribute (of_op 0) (attribute 1 5 10) ∷ [])) (ignoring false 0) op 0 1 (neq (pair_of op 0 1) 0)
    ∷ compares (two_ops ++ (set_attribute (of_op 0) (attribute 1 5 10) ∷ [])) (ignoring false 32) op 0 1 (eq 1)
    -- both name one outside value: eq; two different ones: op
    ∷ compares (two_users 0) (ignoring false 0) op 1 2 (eq 1)
    ∷ compares (two_users 1) (ignoring false 0) op 1 2 (neq (pair_of op 1 2) 1)
    -- 16 results accepted, 17 give 4
    ∷ builds [] (operation 1 (replicate 16 3) []) (made 0)
    ∷ builds [] (operation 1 (replicate 17 3) []) (refused OwnerFull)
    -- kind 63 accepted, 64 gives 6
    ∷ builds two_ops (set_attribute (of_op 0) (attribute 1 63 10)) accepted
    ∷ builds two_ops (set_attribute (of_op 0) (attribute 1 64 10)) (refused UnknownKind)
    ∷ []

-- two operations, each with a block in its one region; the operand of each is the argument of its own block
unfoldable pub names_inner : List Call
names_inner =
    operation 1 (3 ∷ []) []
    ∷ enclosing 2 1 (0 ∷ [])
    ∷ block_in 0 (3 ∷ [])
    ∷ enclosing 2 1 (0 ∷ [])
    ∷ block_in 1 (3 ∷ [])
    ∷ first_operand 1 1
    ∷ first_operand 2 2
    ∷ []

-- an operation with a result, and two of one kind, the first with that result as operand and the second with the first's
unfoldable pub chained : List Call
chained = operation 1 (3 ∷ []) [] ∷ operation 2 (3 ∷ []) (0 ∷ []) ∷ operation 2 (3 ∷ []) (1 ∷ []) ∷ []

-- "Mistakes a porter makes", and one of each kind of builder's mistake
unfoldable pub mistakes : List Case
mistakes =
    -- undoing entries after a failure
    maps (two_regions 2 1) (ignoring false 0) region 0 1 0 2
    -- a twin that names its own inner value early is unequal
    ∷ compares names_inner (ignoring false 0) op 1 2 (neq (pair_of op 1 2) 1)
    -- an entry that was lent counts
    ∷ begun (two_users 1) 0 1 (ignoring false 0) op 1 2 (eq 1)
    -- a name's image is looked up once: that of value 0 is value 1, though value 1 has an image of its own by then
    ∷ begun chained 0 1 (ignoring false 0) op 1 2 (eq 1)
    -- a lent entry whose image or value does not exist is found before a fragment that does not
    ∷ begun (two_users 1) 0 2 (ignoring false 0) op 1 2 (refused_compared BadMapping)
    ∷ begun (two_users 1) 2 0 (ignoring false 0) op 1 3 (refused_compared BadMapping)
    ∷ begun (two_users 1) 1 0 (ignoring false 0) op 1 3 (refused_compared NotThere)
    -- a value that does not exist is found before a list that is too long
    ∷ builds [] (operation 1 (replicate 17 3) (0 ∷ [])) (refused NotThere)
    -- an attribute's kind before its owner
    ∷ builds [] (set_attribute (of_op 0) (attribute 1 64 10)) (refused UnknownKind)
    ∷ builds [] (set_attribute (of_op 0) (attribute 1 63 10)) (refused NotThere)
    -- an operand's value before its index
    ∷ builds two_ops (first_operand 0 0) (refused NotThere)
    ∷ builds (two_users 0) (first_operand 1 1) accepted
    ∷ builds (two_users 0) (set_operand (record { operation = 1; index = 1; value = 1 })) (refused NoOperand)
    ∷ []

-- key 1 of both operations: on the left inherent, on the right of this attribute
unfoldable pub inherent_left : Attribute → List Call
inherent_left a = two_ops ++ (set_attribute (of_op 0) (inherent_one 1 5 10) ∷ set_attribute (of_op 1) a ∷ [])

-- keys 1 to 8 of the first operation
unfoldable pub eight_keys : List Call
eight_keys = map (λ (k : ℕ). set_attribute (of_op 0) (attribute k 5 10)) (1 ∷ 2 ∷ 3 ∷ 4 ∷ 5 ∷ 6 ∷ 7 ∷ 8 ∷ [])

-- two blocks without arguments in one region, the first with an inherent attribute
unfoldable pub inherent_block : List Call
inherent_block = two_regions 2 0 ++ (set_attribute (of_block 0) (inherent_one 1 5 10) ∷ [])

-- order 9, attributes that can't be ignored
unfoldable pub inherent_cases : List Case
inherent_cases =
    -- inherent on the left and not on the right: op, whether the kind is ignored or not
    compares (inherent_left (attribute 1 5 10)) (ignoring false 0) op 0 1 (neq (pair_of op 0 1) 0)
    ∷ compares (inherent_left (attribute 1 5 10)) (ignoring true 32) op 0 1 (neq (pair_of op 0 1) 0)
    -- the same on both sides: eq, and other contents make them differ though the kind is ignored
    ∷ compares (inherent_left (inherent_one 1 5 10)) (ignoring true 32) op 0 1 (eq 1)
    ∷ compares (inherent_left (inherent_one 1 5 11)) (ignoring true 32) op 0 1 (neq (pair_of op 0 1) 0)
    -- on the left alone, of an operation and of a block
    ∷ compares (two_ops ++ (set_attribute (of_op 0) (inherent_one 1 5 10) ∷ [])) (ignoring true 32) op 0 1 (neq (pair_of op 0 1) 0)
    ∷ compares inherent_block (ignoring true 32) block 0 1 (neq (pair_of block 0 1) 0)
    -- replaced by one that is not inherent, it is one that is not, and can be ignored
    ∷ compares (inherent_left (attribute 1 5 11) ++ (set_attribute (of_op 0) (attribute 1 5 10) ∷ [])) (ignoring false 32) op 0 1 (eq 1)
    ∷ compares (inherent_left (attribute 1 5 10) ++ (set_attribute (of_op 0) (attribute 1 5 10) ∷ [])) (ignoring false 0) op 0 1 (eq 1)
    -- its kind is at most 63 too
    ∷ builds two_ops (set_attribute (of_op 0) (inherent_one 1 63 10)) accepted
    ∷ builds two_ops (set_attribute (of_op 0) (inherent_one 1 64 10)) (refused UnknownKind)
    -- and so is it one of at most eight
    ∷ builds (two_ops ++ eight_keys) (set_attribute (of_op 0) (inherent_one 9 5 10)) (refused OwnerFull)
    ∷ builds (two_ops ++ eight_keys) (set_attribute (of_op 0) (inherent_one 8 5 10)) accepted
    ∷ []
