-- Order 3, "Renamed types": "A lent list of at most 64 rows gives old type and present type." Its words are old, present, old, present.
use Rattle.std.specs.Prelude.{ℕ, Bool, true, false, cond, not, ◌&&◌, List, [], ◌∷◌, map, eqb, leb, length}
use Rattle.rules.specs.Lists.{every}
use Rattle.std.specs.List.{list_all, list_any}
use Rattle.rules.specs.Store.{Store, Value}

-- ---- cause 14: "a half row, over 64 rows, an old type given twice, or a present type that has a row itself"

unfoldable pub whole_rows : List ℕ → Bool
whole_rows [] = true
whole_rows (old ∷ []) = false
whole_rows (old ∷ now ∷ rows) = whole_rows rows

unfoldable pub old_types : List ℕ → List ℕ
old_types [] = []
old_types (old ∷ []) = old ∷ []
old_types (old ∷ now ∷ rows) = old ∷ old_types rows

unfoldable pub present_types : List ℕ → List ℕ
present_types [] = []
present_types (old ∷ []) = []
present_types (old ∷ now ∷ rows) = now ∷ present_types rows

abbrev pub max_rows : ℕ
max_rows = 64

-- the number stands in the list
unfoldable pub stands_in : List ℕ → ℕ → Bool
stands_in ns n = list_any (eqb n) ns

unfoldable pub each_once : List ℕ → Bool
each_once [] = true
each_once (n ∷ ns) = not (stands_in ns n) && each_once ns

-- a row `t, t` gives t as a present type, and t has a row: itself
unfoldable pub types_hold : List ℕ → Bool
types_hold rows =
    every
    (whole_rows rows
    ∷ leb (length (old_types rows)) max_rows
    ∷ each_once (old_types rows)
    ∷ list_all (λ (t : ℕ). not (stands_in (old_types rows) t)) (present_types rows)
    ∷ [])

-- ---- "a type without a row is its own"; a type that has one is looked up once

unfoldable pub present : List ℕ → ℕ → ℕ
present [] t = t
present (old ∷ []) t = t
present (old ∷ now ∷ rows) t = cond (eqb old t) now (present rows t)

unfoldable pub renamed_value : List ℕ → Value → Value
renamed_value rows v = record { type = present rows v.type; owner = v.owner }

-- "Comparison, hash and key all use the present type": they are those of the store with types already replaced
unfoldable pub renamed : List ℕ → Store → Store
renamed rows s = record { ops = s.ops; blocks = s.blocks; regions = s.regions; values = map (renamed_value rows) s.values }
