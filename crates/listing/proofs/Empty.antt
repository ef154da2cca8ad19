-- A tally in which each operation is outside has none that counts. Assumes nothing.
use Prim.Native.Nat.{ℕ, zero, suc}
use mathlib.Core.Path.{◌≡◌, refl}
use lib.ListN.{replicate, get_or}
use Rattle.rules.specs.Listings.{no_tally}
use Rattle.listing.specs.Tally.{is_equal, is_inside, tally_of}
use Rattle.rules.specs.Store.{max_ops}
use Rattle.listing.specs.declared.places.Place.TheVariants.{Outside}

all_outside : (n m : ℕ) → get_or (replicate n Outside) m Outside ≡ Outside
all_outside zero m = refl
all_outside (suc n) zero = refl
all_outside (suc n) (suc m) = all_outside n m

pub outside_none : tally_of (replicate max_ops Outside) ≡ no_tally
unfolding tally_of no_tally is_equal is_inside
outside_none = λ i. record { equal = λ (m : ℕ). is_equal (all_outside max_ops m i); all = λ (m : ℕ). is_inside (all_outside max_ops m i) }
