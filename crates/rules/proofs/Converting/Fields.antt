-- The fields of a `b` line, converted: they are those of a `b` line of the other edition, and converted back they are what they were, but for
-- the label, which is 0. They have no other bytes than before, but that. Assumes nothing.
use Prim.Native.Nat.{ℕ, ◌^◌, ◌≤◌}
use native.Mathlib.Omega.{arith}
use mathlib.Core.Bool.{Bool, true, false}
use Rattle.std.specs.Prelude.{Some}
use Rattle.std.proofs.lemmas.Option.{none-some}
use mathlib.Core.List.{List, [], ◌∷◌, ◌++◌}
use mathlib.Core.Path.{◌≡◌, refl}
use lib.ListN.{length, take, drop}
use Rattle.std.specs.List.{list_all}
use Rattle.rules.specs.Lists.{same_list}
use Rattle.rules.specs.Bytes.{text, is_text, well_written, number_below}
use Rattle.rules.specs.declared.types.Edition.{Edition}
use Rattle.rules.specs.declared.types.Edition.TheVariants.{First as edition_1, Second as edition_2}
use Rattle.rules.specs.Converting.{other, begins, relabelled}
use Rattle.rules.proofs.Basics.Tests.{and_left, and_right, and_both}
use Rattle.rules.proofs.Listings.Cut.{each, weight}
use Rattle.rules.proofs.Converting.Meanings.{BlockFields, labelled, bare, number_0}

pub block_begins : (e : Edition) (fs : List (List ℕ)) → BlockFields e fs → (begins "b" fs ≡ true) × (begins "i" fs ≡ false)
unfolding begins is_text same_list
block_begins edition_1 fs (labelled r x more n h) = (refl, refl)
block_begins edition_2 fs (bare r more) = (refl, refl)

pub relabelled_fields : (e : Edition) (fs : List (List ℕ)) → BlockFields e fs → BlockFields (other e) (relabelled e fs)
unfolding other relabelled
relabelled_fields edition_1 fs (labelled r x more n h) = bare r more
relabelled_fields edition_2 fs (bare r more) = labelled r (text "0") more 0 number_0

-- converted and converted back, by the edition of the first: the label is 0, or the fields are what they were
unfoldable pub restored : Edition → List (List ℕ) → List (List ℕ)
restored edition_1 fs = take 2 fs ++ text "0" ∷ drop 3 fs
restored edition_2 fs = fs

pub restored_fields : (e : Edition) (fs : List (List ℕ)) → BlockFields e fs → BlockFields e (restored e fs)
unfolding restored
restored_fields edition_1 fs (labelled r x more n h) = labelled r (text "0") more 0 number_0
restored_fields edition_2 fs (bare r more) = bare r more

pub relabelled_back : (e : Edition) (fs : List (List ℕ)) → BlockFields e fs → relabelled (other e) (relabelled e fs) ≡ restored e fs
unfolding other relabelled restored
relabelled_back edition_1 fs (labelled r x more n h) = refl
relabelled_back edition_2 fs (bare r more) = refl

-- a number has a digit
number_long : (x : List ℕ) (n : ℕ) → number_below (2 ^ 32) x ≡ Some n → 1 ≤ length x
unfolding number_below well_written
number_long [] n h = absurd (none-some _ h)
number_long (d ∷ x) n h = omega arith

pub restored_weight : (e : Edition) (fs : List (List ℕ)) → BlockFields e fs → weight (restored e fs) ≤ weight fs
unfolding restored
restored_weight edition_1 fs (labelled r x more n h) = omega (arith, number_long x n h)
restored_weight edition_2 fs (bare r more) = omega arith

-- a test that passes at `0` and at each byte of the fields passes at each byte of those converted
pub relabelled_each : (p : ℕ → Bool) (e : Edition) (fs : List (List ℕ)) → BlockFields e fs → p 48 ≡ true → each p fs ≡ true
    → each p (relabelled e fs) ≡ true
unfolding relabelled
relabelled_each p edition_1 fs (labelled r x more n h) z a =
    let t = and_right (list_all p (text "b")) _ a in
    and_both _ _ (and_left (list_all p (text "b")) _ a) (and_both (list_all p r) _ (and_left (list_all p r) _ t) (and_right (list_all p x) _ (and_right (list_all p r) _ t)))
relabelled_each p edition_2 fs (bare r more) z a =
    let t = and_right (list_all p (text "b")) _ a in
    and_both _ _ (and_left (list_all p (text "b")) _ a)
    (and_both (list_all p r) _ (and_left (list_all p r) _ t) (and_both _ _ (and_both (p 48) true z refl) (and_right (list_all p r) _ t)))
