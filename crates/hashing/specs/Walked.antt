-- What steps of a walk have done: what they define is numbered, and their bytes are fed.
use Rattle.std.specs.Prelude.{◌≡◌, ℕ, List, [], ◌∷◌, ◌++◌}
use Rattle.std.specs.List.{flat_map}
use Rattle.rules.specs.Store.{Store}
use Rattle.rules.specs.declared.types.Owner.{Owner}
use Rattle.rules.specs.Fragments.{Step, names}
use Rattle.rules.specs.Shells.{shell_of}
use Rattle.rules.specs.Hash.{fnv_from, Numbering, name_of, name_bytes, head_bytes, uncounted, shell_bytes, all_bytes}
use Rattle.fragments.specs.Options.{Options, renamed_under}
use Rattle.fragments.specs.Words.{Stands}
use Rattle.rules.specs.declared.types.Name.{Name}
use Rattle.fragments.specs.Numbered.{Numbers}

-- these steps are numbered, and fed into the word as the store is read: with present types
pub record Feeds (s : Store) (o : Options) (xs : List Step) (before after : List ℕ) (w w' : ℕ) : Type 0 where
  pub numbers : Numbers s xs before after
  pub word : (N : Numbering) → Stands s N before → w' ≡ fnv_from w (all_bytes uncounted (renamed_under o s) o.ignore xs N)

-- what an operation or a block feeds of itself
unfoldable pub owner_bytes : Store → Options → Owner → List ℕ
owner_bytes s o w = head_bytes s w ++ shell_bytes uncounted (shell_of (renamed_under o s) o.ignore w)

-- what a use of n feeds, where these are defined
abbrev pub bytes_in : List ℕ → ℕ → List ℕ
bytes_in defined n = name_bytes (name_of defined n)

abbrev pub value_bytes : Numbering → ℕ → List ℕ
value_bytes N v = bytes_in N.values v

abbrev pub block_bytes : Numbering → ℕ → List ℕ
block_bytes N b = bytes_in N.blocks b

-- whatever numbering the words stand for, r is the word after these bytes of it
abbrev pub FeedsNames : Store → List ℕ → (Numbering → List ℕ) → ℕ → ℕ → Type 0
FeedsNames s numbers bytes word r = (N : Numbering) → Stands s N numbers → r ≡ fnv_from word (bytes N)

-- each of a list of operands, or of successors, is fed by its name
abbrev pub FeedsOperands : Store → List ℕ → List ℕ → ℕ → ℕ → Type 0
FeedsOperands s numbers list word r = FeedsNames s numbers (λ (N : Numbering). flat_map (value_bytes N) list) word r

abbrev pub FeedsSuccessors : List ℕ → List ℕ → ℕ → ℕ → Type 0
FeedsSuccessors numbers list word r = (s : Store) → FeedsNames s numbers (λ (N : Numbering). flat_map (block_bytes N) list) word r

-- each of a list of uses is fed by its name, where `named` says of a use how it is named: by whatever bytes that name has
abbrev pub FeedsUses : (ℕ → Name → Type 0) → List ℕ → ℕ → ℕ → Type 0
FeedsUses named list word r =
    (bytes : ℕ → List ℕ) → ((n : ℕ) (x : Name) → named n x → name_bytes x ≡ bytes n) → r ≡ fnv_from word (flat_map bytes list)

-- an operation's names are fed, under whatever options
abbrev pub FeedsOwnNames : Store → ℕ → List ℕ → ℕ → ℕ → Type 0
FeedsOwnNames s n numbers word word' = (o : Options) → Feeds s o (names n ∷ []) numbers numbers word word'
