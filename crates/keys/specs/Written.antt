-- What uses and steps of a walk write into the rest of a lent key.
use Rattle.std.specs.Prelude.{ℕ, ◌<◌, ◌≡◌, List, [], ◌∷◌, length, slice_index}
use Rattle.rules.specs.Store.{Store}
use Rattle.rules.specs.Fragments.{Step, names}
use Rattle.rules.specs.Hash.{count, Numbering, name_of, name_bytes, list_bytes, all_bytes}
use Rattle.rules.specs.Hash as rules
use Rattle.fragments.specs.Options.{Options, renamed_under}
use Rattle.fragments.specs.Words.{Stands}
use Rattle.fragments.specs.Numbered.{Numbers}
use Rattle.rules.specs.declared.types.Name.{Name}
use Rattle.keys.specs.Put.{Put}

-- ---- lists

-- what a list of uses puts, where these are defined
unfoldable pub names_bytes : List ℕ → List ℕ → List ℕ
names_bytes defined list = list_bytes count (λ (n : ℕ). name_bytes (name_of defined n)) list

-- each use of a list may be named
abbrev pub NamesAllowed : (ℕ → Type 0) → List ℕ → Type 0
NamesAllowed pre list = (i : ℕ) → i < length list → pre (slice_index list i)

-- as the uses of a list are named, each has the name that a rule gives it
abbrev pub NamesEach : (ℕ → Name → Type 0) → List ℕ → (ℕ → Name) → Type 0
NamesEach post list named = (i : ℕ) (r : Name) → i < length list → post (slice_index list i) r → r ≡ named (slice_index list i)

-- whatever rule that is, the bytes of its names are put, behind how many there are
abbrev pub PutNames : (ℕ → Name → Type 0) → List ℕ → List ℕ → List ℕ → ℕ → Type 0
PutNames post list before after answer =
    (named : ℕ → Name) → NamesEach post list named → Put (list_bytes count (λ (n : ℕ). name_bytes (named n)) list) before after answer

-- ---- steps

-- what steps of the store put of it, read with present types
abbrev pub steps_bytes : Store → Options → List Step → Numbering → List ℕ
steps_bytes s o xs N = all_bytes count (renamed_under o s) o.ignore xs N

-- the words of a walk's numbers, and the rest of a lent key
pub record Place : Type 0 where
  pub numbers : List ℕ
  pub key : List ℕ

abbrev pub place : List ℕ → List ℕ → Place
place ns k = record { numbers = ns; key = k }

-- between these steps are numbered, and whatever numbering the words stood for, their bytes are put
pub record Puts (s : Store) (o : Options) (xs : List Step) (a b : Place) (answer : ℕ) : Type 0 where
  pub numbers : Numbers s xs a.numbers b.numbers
  pub put : (N : Numbering) → Stands s N a.numbers → Put (steps_bytes s o xs N) a.key b.key answer

-- an operation's names are, under whatever options
abbrev pub PutsNames : Store → ℕ → List ℕ → List ℕ → List ℕ → ℕ → Type 0
PutsNames s n numbers before after answer = (o : Options) → Puts s o (names n ∷ []) (place numbers before) (place numbers after) answer
