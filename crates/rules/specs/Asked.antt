-- Which right fragments a listing asks `twins` about, each as it stood at its `q`, and whether it was found equal: what the share is said to
-- be over.
use Rattle.std.specs.Prelude.{ℕ, Bool, true, false, cond, ◌&&◌, List, [], ◌∷◌, ◌++◌, eqb, leb, length, Option, None, Some}
use Rattle.std.specs.List.{list_any}
use Rattle.rules.specs.Store.{Store}
use Rattle.rules.specs.Fragments.{fragment_ops}
use Rattle.rules.specs.declared.types.Sort.{Sort}
use Rattle.rules.specs.Mapping.{empty_mapping}
use Rattle.rules.specs.Answers.{Compared, eq, neq, refused, comparison}
use Rattle.rules.specs.Lines.{Line, building, query, parse}
use Rattle.rules.specs.declared.types.Edition.{Edition}
use Rattle.rules.specs.Listings.{Progress, LineOutcome, prints, stops, does, max_line, twins_program}

-- a right fragment, with the store as it stood at its `q`, found equal or not
pub record Asked : Type 0 where
  pub store : Store
  pub sort : Sort
  pub right : ℕ
  pub found : Bool

-- by the answer; a refused `q` asks about nothing
unfoldable pub answered_for : Compared → Store → Sort → ℕ → List Asked
answered_for (eq paired) s f r = record { store = s; sort = f; right = r; found = true } ∷ []
answered_for (neq p paired) s f r = record { store = s; sort = f; right = r; found = false } ∷ []
answered_for (refused cause) s f r = []

unfoldable pub asked_by : Progress → Option Line → List Asked
asked_by now None = []
asked_by now (Some (building c)) = []
asked_by now (Some (query f l r ig)) = answered_for (comparison true now.store [] empty_mapping ig f l r).answer now.store f r

unfoldable pub asked_in : Edition → Progress → List ℕ → List Asked
asked_in e now line = cond (leb (length line) max_line) (asked_by now (parse e line)) []

-- a refused line is the last one
unfoldable pub asked_then : LineOutcome → (Progress → List Asked) → List Asked
asked_then (prints out next) more = more next
asked_then (stops cause) more = []

-- by these lines, one after the other
unfoldable pub asked : Edition → Progress → List (List ℕ) → List Asked
asked e now [] = []
asked e now (line ∷ lines) = asked_in e now line ++ asked_then (does twins_program e now line) (λ next. asked e next lines)

-- the operation was inside the right fragment at its `q`; and inside one that was found equal
unfoldable pub inside : ℕ → Asked → Bool
inside m q = list_any (eqb m) (fragment_ops q.store q.sort q.right)

unfoldable pub inside_equal : ℕ → Asked → Bool
inside_equal m q = q.found && inside m q
