-- A tally: what it is read as, and what including a fragment's operations leaves.
use Rattle.std.specs.Prelude.{ℕ, zero, suc, ◌≤◌, Bool, true, false, cond, List, [], ◌∷◌, ◌≡◌, length, get_or, set}
use Rattle.std.specs.List.{flat_map}
use Rattle.rules.specs.Lists.{count_below}
use Rattle.rules.specs.Store.{Store, ops_of, blocks_of, regions_of, max_ops}
use Rattle.rules.specs.Fragments.{fragment_ops}
use Rattle.rules.specs.declared.types.Sort.{Sort}
use Rattle.rules.specs.Listings as rules
use Rattle.rules.specs.Listings.{tallied}
use Rattle.listing.specs.declared.places.Counts.{Counts}
use Rattle.listing.specs.declared.places.Place.{Place}
use Rattle.listing.specs.declared.places.Place.TheVariants.{Outside, Inside, InsideEqual}

-- inside a right fragment that was found equal, and inside any
unfoldable pub is_equal : Place → Bool
is_equal Outside = false
is_equal Inside = false
is_equal InsideEqual = true

unfoldable pub is_inside : Place → Bool
is_inside Outside = false
is_inside Inside = true
is_inside InsideEqual = true

unfoldable pub tally_of : List Place → rules.Tally
tally_of places = record { equal = λ (m : ℕ). is_equal (get_or places m Outside); all = λ (m : ℕ). is_inside (get_or places m Outside) }

pub record IsTally (places : List Place) : Type 0 where
  pub long : length places ≡ max_ops

-- ---- including

unfoldable pub place_after : Bool → Place → Place
place_after found Outside = cond found InsideEqual Inside
place_after found Inside = cond found InsideEqual Inside
place_after found InsideEqual = InsideEqual

unfoldable pub included : Bool → ℕ → List Place → List Place
included found n places = set places n (place_after found (get_or places n Outside))

-- one after the other
unfoldable pub included_all : Bool → List ℕ → List Place → List Place
included_all found [] places = places
included_all found (n ∷ ns) places = included_all found ns (included found n places)

-- ---- the operations inside, in the order in which they are included: each one ahead of those in its regions

unfoldable pub op_ops_by : (ℕ → List ℕ) → Store → ℕ → List ℕ
op_ops_by in_region s n = n ∷ flat_map in_region (regions_of s n)

unfoldable pub block_ops_by : (ℕ → List ℕ) → Store → ℕ → List ℕ
block_ops_by in_region s b = flat_map (op_ops_by in_region s) (ops_of s b)

-- the first number is that of regions, one in another, that may still be entered
unfoldable pub region_ops : ℕ → Store → ℕ → List ℕ
region_ops zero s r = []
region_ops (suc k) s r = flat_map (block_ops_by (region_ops k s) s) (blocks_of s r)

unfoldable pub block_ops : ℕ → Store → ℕ → List ℕ
block_ops k s b = block_ops_by (region_ops k s) s b

unfoldable pub op_ops : ℕ → Store → ℕ → List ℕ
op_ops k s n = op_ops_by (region_ops k s) s n

-- ---- what a right fragment, found equal or not, makes of a tally

pub record Tallied (s : Store) (f : Sort) (n : ℕ) (found : Bool) (before after : List Place) : Type 0 where
  pub reads : tally_of after ≡ tallied found (fragment_ops s f n) (tally_of before)
  pub holds : IsTally after

-- ---- and the counts at the end

pub record Counted (places : List Place) (r : Counts) : Type 0 where
  pub equal : r.equal ≡ count_below max_ops (tally_of places).equal
  pub all : r.all ≡ count_below max_ops (tally_of places).all
  pub part : r.equal ≤ r.all
  pub few : r.all ≤ max_ops
