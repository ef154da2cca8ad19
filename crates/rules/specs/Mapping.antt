-- 01, "Mapping": images, entries, and which lent mappings are allowed.
use Rattle.std.specs.Prelude.{ℕ, suc, Bool, true, cond, ◌&&◌, ◌||◌, List, [], ◌∷◌, eqb, ltb, length, get_or, set, replicate}
use Rattle.rules.specs.Lists.{every}
use Rattle.rules.specs.Store.{Store, max_values, max_blocks, max_ops}

-- "4294967295 for none"
abbrev pub no_image : ℕ
no_image = 4294967295

-- "2,048 value, 256 block and 512 operation entries"
pub record Mapping : Type 0 where
  pub values : List ℕ
  pub blocks : List ℕ
  pub ops : List ℕ

-- "An empty mapping has none in every entry."
unfoldable pub empty_mapping : Mapping
empty_mapping = record { values = replicate max_values no_image; blocks = replicate max_blocks no_image; ops = replicate max_ops no_image }

-- "A name's image is its entry, or itself where there is none."
unfoldable pub or_self : ℕ → ℕ → ℕ
or_self e n = cond (eqb e no_image) n e

unfoldable pub image : List ℕ → ℕ → ℕ
image entries n = or_self (get_or entries n no_image) n

-- "A later entry replaces an earlier one."
unfoldable pub enter_all : List ℕ → List ℕ → List ℕ → List ℕ
enter_all [] rs entries = entries
enter_all (l ∷ ls) [] entries = entries
enter_all (l ∷ ls) (r ∷ rs) entries = enter_all ls rs (set entries l r)

-- "every left number and image used exists in the store": the entries from number n on, of a store with so many
unfoldable pub entries_allowed : ℕ → ℕ → List ℕ → Bool
entries_allowed count n [] = true
entries_allowed count n (e ∷ es) = (eqb e no_image || (ltb n count && ltb e count)) && entries_allowed count (suc n) es

unfoldable pub table_allowed : ℕ → ℕ → List ℕ → Bool
table_allowed size count entries = eqb (length entries) size && entries_allowed count 0 entries

-- cause 8: "mapping of wrong length, or with an entry not allowed"
unfoldable pub allowed : Store → Mapping → Bool
allowed s m =
    every
    (table_allowed max_values (length s.values) m.values
    ∷ table_allowed max_blocks (length s.blocks) m.blocks
    ∷ table_allowed max_ops (length s.ops) m.ops
    ∷ [])
