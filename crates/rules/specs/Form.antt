-- The canonical form of a fragment: what two fragments are equal by. Its walk as a list of events, and each event as a token in which a
-- name that is defined already stands by its walk number, and any other by its store number. `EqualityLaws` says what it is good for.
use Rattle.std.specs.Prelude.{ℕ, zero, suc, List, [], ◌∷◌, ◌++◌, map, length}
use Rattle.rules.specs.Store.{Store, op_at, type_of, ops_of, blocks_of, regions_of}
use Rattle.rules.specs.declared.types.Owner.{Owner}
use Rattle.rules.specs.declared.types.Owner.TheVariants.{Op as of_op, Block as of_block}
use Rattle.rules.specs.Fragments.{levels, Step, shell, names, counted}
use Rattle.rules.specs.declared.types.Sort.{Sort}
use Rattle.rules.specs.declared.types.Sort.TheVariants.{Op as op, Block as block, Region as region}
use Rattle.rules.specs.Shells.{Shell, shell_of, counts_of}
use Rattle.rules.specs.declared.types.Ignore.{Ignore}
use Rattle.rules.specs.Hash.{Numbering, no_numbers, numbered, name_of}
use Rattle.rules.specs.declared.types.Name.{Name}

-- ---- events: the steps of the walk, with a sign ahead of each list item and at each list's end

pub data Event : Type 0 where
  step : Step → Event
  more : Event
  done : Event

unfoldable pub list_events : (ℕ → List Event) → List ℕ → List Event
list_events f [] = done ∷ []
list_events f (x ∷ xs) = more ∷ (f x ++ list_events f xs)

-- one step alone
abbrev pub one : (ℕ → Step) → ℕ → List Event
one f n = step (f n) ∷ []

-- a list of blocks, or of operations, by their shells
unfoldable pub shell_events : (ℕ → Owner) → List ℕ → List Event
shell_events w ns = step (counted (length ns)) ∷ list_events (one (λ (n : ℕ). shell (w n))) ns

module _ (s : Store) where
  unfoldable pub op_events : (ℕ → List Event) → ℕ → List Event
  op_events in_region n = step (names n) ∷ list_events in_region (regions_of s n)

  unfoldable pub blocks_events : (ℕ → List Event) → List ℕ → List Event
  blocks_events full bs =
      shell_events of_block bs
      ++ list_events (λ (b : ℕ). shell_events of_op (ops_of s b)) bs
      ++ list_events (λ (b : ℕ). list_events full (ops_of s b)) bs

  unfoldable pub region_events : ℕ → ℕ → List Event
  region_events zero r = []
  region_events (suc k) r = blocks_events (op_events (region_events k)) (blocks_of s r)

  unfoldable pub events : Sort → ℕ → List Event
  events op n = step (shell (of_op n)) ∷ op_events (region_events levels) n
  events block n = blocks_events (op_events (region_events levels)) (n ∷ [])
  events region n = region_events levels n

-- ---- tokens

-- an operation's or a block's counts and shell; of the names of an operation its counts, each operand with its type, each successor; that
-- a list begins, whose length its signs tell
pub data Token : Type 0 where
  shell_token : List ℕ → Shell → Token
  names_token : List ℕ → List (Name × ℕ) → List Name → Token
  counted_token : Token
  more_token : Token
  done_token : Token

module _ (s : Store) where
  -- what is numbered after an event
  unfoldable pub numbered_by : Event → Numbering → Numbering
  numbered_by (step x) N = numbered s x N
  numbered_by more N = N
  numbered_by done N = N

  module _ (ig : Ignore) where
    unfoldable pub token : Event → Numbering → Token
    token (step (shell w)) N = shell_token (counts_of s w) (shell_of s ig w)
    token (step (names n)) N =
        names_token (counts_of s (of_op n)) (map (λ (v : ℕ). (name_of N.values v, type_of s v)) (op_at s n).operands) (map (name_of N.blocks) (op_at s n).successors)
    token (step (counted k)) N = counted_token
    token more N = more_token
    token done N = done_token

    unfoldable pub tokens : List Event → Numbering → List Token
    tokens [] N = []
    tokens (e ∷ es) N = token e N ∷ tokens es (numbered_by e N)

-- the canonical form of a fragment
unfoldable pub canonical : Store → Ignore → Sort → ℕ → List Token
canonical s ig f n = tokens s ig (events s f n) no_numbers
