-- An equal comparison counts one pair for each operation or block that its left fragment defines, and for each that its right one does:
-- those are what it enters, pair by pair, from whatever mapping it begins. Assumes nothing.
use Prim.Native.Nat.{ℕ, ◌+◌}
use native.Mathlib.Omega.{arith}
use mathlib.Core.List.{List}
use mathlib.Core.Path.{◌≡◌, refl, ap}
use lib.ListN.{length}
use Rattle.rules.specs.Store.{Store}
use Rattle.rules.specs.declared.types.Owner.{Owner}
use Rattle.rules.specs.Fragments.{defines_owners, defines_blocks, fragment_ops}
use Rattle.rules.specs.declared.types.Ignore.{Ignore}
use Rattle.rules.specs.Mapping.{Mapping}
use Rattle.rules.specs.Comparison.{State, Walk, unequal, one_longer, on, ended, start, compare}
use Rattle.rules.specs.Types.{renamed}
use Rattle.rules.specs.Answers.{eq, comparison_of}
use Rattle.rules.specs.Extents.{extent}
use Rattle.rules.specs.ExtentLaws.{ExtentPaired}
use Rattle.rules.proofs.Basics.Tests.{impossible}
use Rattle.rules.proofs.Form.Counted.{owners_split}
use Rattle.rules.proofs.Form.Events.{enter_owners}
use Rattle.rules.proofs.Form.Passed.{Passed, over, pair, walked_passed}
use Rattle.rules.proofs.RenamedTypes.Under.{owners}
use Rattle.rules.proofs.Walking.Answered.{comparison_is}

-- how many are entered
pub passed_count : {s : Store} {ig : Ignore} {ls rs : List Owner} {st st' : State} → Passed s ig ls rs st st'
    → (st'.paired ≡ st.paired + length ls) × (length ls ≡ length rs)
unfolding enter_owners
passed_count over = (omega arith, refl)
passed_count (pair e p) = let c = passed_count p in omega arith

went_on : (w : Walk) (m : Mapping) (n : ℕ) → (comparison_of w m).answer ≡ eq n → (st : State) × (w ≡ on st) × (st.paired ≡ n)
unfolding comparison_of
went_on (on st) m n e = (st, refl, cc)
went_on (ended (unequal p) st) m n e = impossible cc
went_on (ended (one_longer p) st) m n e = impossible cc

pub extent_paired : ExtentPaired
unfolding ExtentPaired extent start fragment_ops defines_blocks
extent_paired s sd types th ig other f m am a b n ia ib e =
    let w = went_on (compare (renamed types s) ig f a b m) m n (rw (comparison_is s sd ig f types th m am a b ia ib) at e) in
    let c = passed_count (walked_passed (renamed types s) ig f a b m w.0 w.1) in
    omega (
      arith,
      w.2,
      ap length (owners types s f a),
      ap length (owners types s f b),
      owners_split (defines_owners s f a),
      owners_split (defines_owners s f b),
    )
